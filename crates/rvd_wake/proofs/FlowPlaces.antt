-- Where a change wakes flow, from what was picked and added. Use `unit_places` for a unit, and `word_places` for the word at an
-- address.
use Rattle.std.proofs.Common.{◌≡◌, ℕ, Bool, true, false, ◌&&◌, ◌||◌, List, [], ◌∷◌, ◌++◌, refl, sym, ap, ◌∙◌}
use Rattle.std.specs.Prelude.{◌==◌, filter_map, is_none, is_some, Option, Some, None}
use Rattle.std.specs.List.{list_any}
use Rattle.std.proofs.Math.Bool.{and-or_distrib_left, or-false, or_assoc, or_comm}
use Rattle.std.proofs.lemmas.Bool.{eq-eqb, true≢false}
use Rattle.std.proofs.lemmas.List.Folds.{list_any-append}
use Rattle.rvd_fact.specs.declared.keys.Key.{Key}
use Rattle.rvd_fact.specs.declared.cells.Cell.{Cell}
use Rattle.rvd_fact.specs.Program.{Program}
use Rattle.rvd_ask.specs.Places.{word_before}
use Rattle.rvd_ask.specs.Wake.{around, comes_near, comes_to, is_from, meets}
use Rattle.rvd_wake.specs.Walks.{has_place}
use Rattle.rvd_wake.specs.Picks.{from_near, from_of}
use Rattle.rvd_wake.proofs.Bools.{any_as, any_or, same_number}
use Rattle.rvd_wake.proofs.FromPlaces.{froms_are, near_are}

or_turned : (a b c : Bool) → (c || (a || b)) ≡ (a || (b || c))
or_turned a b c = or_comm c (a || b) ∙ or_assoc a b c

or_reversed : (a b c : Bool) → ((c || b) || a) ≡ (a || (b || c))
or_reversed a b c = or_comm (c || b) a ∙ ap (λ x. a || x) (or_comm c b)

parted : (m a b c : Bool) → (m && (a || (b || c))) ≡ ((m && (a || b)) || (m && c))
parted m a b c = ap (λ x. m && x) (sym (or_assoc a b c)) ∙ and-or_distrib_left m (a || b) c

-- one more place
pub has_place-push : (x z : ℕ) (places : List ℕ) → has_place x (places ++ z ∷ []) ≡ (has_place x places || x == z)
has_place-push x z places = list_any-append (λ p. p == x) places (z ∷ []) ∙ ap (λ b. has_place x places || b) (or-false (z == x) ∙ same_number z x)

-- the words that meet n bytes, those before them, and what goes to them
near_parts : (S : Program) (z n x : ℕ) → comes_near S z n x ≡ (list_any (λ t. meets z n t && (x == t || x == word_before t)) (around z n) || list_any (λ t. meets z n t && is_from S t x) (around z n))
near_parts S z n x =
    any_as _ (λ t. (meets z n t && (x == t || x == word_before t)) || (meets z n t && is_from S t x)) (λ t. parted (meets z n t) (x == t) (x == word_before t) (is_from S t x)) (around z n)
    ∙ any_or (λ t. meets z n t && (x == t || x == word_before t)) (λ t. meets z n t && is_from S t x) (around z n)

pub unit_places : (S : Program) (z n x : ℕ) (froms more all : List ℕ) → froms ≡ filter_map (λ (e : Key × Cell). from_near z n e.0 e.1.value) S → has_place x more ≡ (has_place x froms || list_any (λ t. meets z n t && (x == t || x == word_before t)) (around z n)) → all ≡ more ++ z ∷ [] → has_place x all ≡ (x == z || comes_near S z n x)
unit_places S z n x froms more all picked gained pushed =
    let f = list_any (λ t. meets z n t && is_from S t x) (around z n) in
    let w = list_any (λ t. meets z n t && (x == t || x == word_before t)) (around z n) in
    ap (has_place x) pushed ∙ has_place-push x z more
    ∙ ap (λ b. b || x == z) (gained ∙ ap (λ b. b || w) (ap (has_place x) picked ∙ near_are S z n x))
    ∙ or_reversed (x == z) w f
    ∙ ap (λ b. x == z || b) (sym (near_parts S z n x))

pub word_places : (S : Program) (t x : ℕ) (froms all : List ℕ) → froms ≡ filter_map (λ (e : Key × Cell). from_of t e.0 e.1.value) S → has_place x all ≡ (has_place x froms || (x == t || x == word_before t)) → has_place x all ≡ comes_to S x t
word_places S t x froms all picked gained =
    gained ∙ ap (λ b. b || (x == t || x == word_before t)) (ap (has_place x) picked ∙ froms_are S t x) ∙ or_turned (x == t) (x == word_before t) (is_from S t x)

-- a bookmark of an error that goes
pub error_goes : {A : Type 0} (sub : ℕ) (after : Option A) (b : Bool) → sub ≡ 4 → is_some after ≡ false → b ≡ (sub == 4 && (is_none after && b))
error_goes sub None b error gone = sym (ap (λ c. c && b) (eq-eqb sub 4 error))
error_goes sub (Some a) b error gone = absurd (true≢false gone)
