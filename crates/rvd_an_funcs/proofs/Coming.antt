-- Where a step of a walk goes: to the next word, or along a reference. `came_from` says it by the place before the step.
use Rattle.std.proofs.Common.{◌≡◌, ℕ, ◌<◌, ◌^◌, Bool, true, false, cond, ◌&&◌, List, [], ◌∷◌, ◌++◌, Some, None, sym, ap, ◌∙◌, inl, inr, ◌⊎◌, arith}
use Rattle.std.specs.Prelude.{filter_map, ◌==◌}
use Rattle.std.specs.List.{cons_option, list_any}
use Rattle.std.proofs.lemmas.Bool.{and_from, cond_both, eqb-true, false≢true, or_cases, or_left, or_right}
use Rattle.std.proofs.lemmas.List.Folds.{list_any-append}
use Rattle.rvd_fact.specs.declared.keys.Key.{Key}
use Rattle.rvd_fact.specs.declared.cells.Cell.{Cell}
use Rattle.rvd_fact.specs.declared.values.RefClass.{RefClass}
use Rattle.rvd_fact.specs.declared.values.Value.{Value}
use Rattle.rvd_fact.specs.declared.values.Value.TheVariants.{Block, Mark, Func, Body, Symbol, Comment, Bookmark, Code, Plain, Ref, Gone}
use Rattle.rvd_fact.specs.Program.{Program}
use Rattle.rvd_fact.specs.Memory.{ref_of, refs_from}
use Rattle.rvd_ask.specs.Places.{next_word, word_before}
use Rattle.rvd_ask.specs.Reach.{has, inner_target, is_inner, ways}
use Rattle.rvd_ask.specs.Wake.{goes_to}

-- the word before the next word
back_again : (y z : ℕ) → y < 2 ^ 32 → next_word y ≡ z → y ≡ word_before z
back_again y z small h = omega (arith, small, h)

-- the first of some targets is that of a reference, or a later one is
first_ref : (slot z : ℕ) (v : Value) (rs : List (ℕ × RefClass × ℕ)) → has z (filter_map inner_target (cons_option (ref_of slot v) rs)) ≡ true → (goes_to z v ≡ true) ⊎ (has z (filter_map inner_target rs) ≡ true)
first_ref slot z (Ref to class) rs h =
    cond_both (is_inner class) (Some to) None (λ o. has z (cons_option o (filter_map inner_target rs)) ≡ true → (goes_to z (Ref to class) ≡ true) ⊎ (has z (filter_map inner_target rs) ≡ true))
    (λ inner h. or_cases (to == z) (has z (filter_map inner_target rs)) h)
    (λ outer h. inr h)
    h
first_ref slot z (Block len perm bytes) rs h = inr h
first_ref slot z Mark rs h = inr h
first_ref slot z Func rs h = inr h
first_ref slot z (Body ranges) rs h = inr h
first_ref slot z (Symbol name) rs h = inr h
first_ref slot z (Comment text) rs h = inr h
first_ref slot z (Bookmark text) rs h = inr h
first_ref slot z (Code w) rs h = inr h
first_ref slot z (Plain f) rs h = inr h
first_ref slot z Gone rs h = inr h

-- a reference to z from an address that passes a test
abbrev pub from_passing : (ℕ → Bool) → ℕ → Key × Cell → Bool
from_passing test z x = goes_to z x.1.value && test x.0.at

has_from : (test : ℕ → Bool) (y z : ℕ) → test y ≡ true → (es : Program) → has z (filter_map inner_target (refs_from es y)) ≡ true → list_any (from_passing test z) es ≡ true
has_from test y z passes [] h = absurd (false≢true h)
has_from test y z passes (x ∷ es) h =
    cond_both (x.0.at == y) (ref_of x.0.sub x.1.value) None (λ o. has z (filter_map inner_target (cons_option o (refs_from es y))) ≡ true → list_any (from_passing test z) (x ∷ es) ≡ true)
    (λ at h. elim (first_ref x.0.sub z x.1.value (refs_from es y) h) [
      | inl goes ↦ or_left (from_passing test z x) _ (and_from (goes_to z x.1.value) (test x.0.at) goes (ap test (eqb-true x.0.at y at) ∙ passes))
      | inr later ↦ or_right (from_passing test z x) _ (has_from test y z passes es later)
    ])
    (λ other h. or_right (from_passing test z x) _ (has_from test y z passes es h))
    h

falls_to : (b : Bool) (w z : ℕ) → has z (cond b (w ∷ []) []) ≡ true → w ≡ z
falls_to true w z h = elim (or_cases (w == z) false h) [
  | inl here ↦ eqb-true w z here
  | inr nowhere ↦ absurd (false≢true nowhere)
]
falls_to false w z h = absurd (false≢true h)

-- of an address that passes a test, and from which z follows: the word before z passes, or a reference to z comes from an
-- address that does
pub came_from : (T : Program) (test : ℕ → Bool) (y z : ℕ) → y < 2 ^ 32 → test y ≡ true → has z (ways T y) ≡ true → (test (word_before z) ≡ true) ⊎ (list_any (from_passing test z) T ≡ true)
came_from T test y z small passes h = by_cell _ h
  where
    by_cell : (b : Bool) → has z (cond b (next_word y ∷ []) [] ++ filter_map inner_target (refs_from T y)) ≡ true → (test (word_before z) ≡ true) ⊎ (list_any (from_passing test z) T ≡ true)
    by_cell b h = elim (or_cases (has z (cond b (next_word y ∷ []) [])) (has z (filter_map inner_target (refs_from T y))) (sym (list_any-append (λ w. w == z) (cond b (next_word y ∷ []) []) (filter_map inner_target (refs_from T y))) ∙ h)) [
      | inl falls ↦ inl (ap test (sym (back_again y z small (falls_to b (next_word y) z falls))) ∙ passes)
      | inr refers ↦ inr (has_from test y z passes T refers)
    ]
