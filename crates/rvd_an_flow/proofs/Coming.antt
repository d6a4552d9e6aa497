-- Where flow's starts come from: each is the address itself, the word behind it or the target of a reference from it:
-- `starts_come`. And flow has no change exactly where no start decides: `none_decides` and `no_change`.
use Rattle.std.proofs.Common.{◌≡◌, ℕ, ◌<◌, true, false, cond, not, ◌&&◌, ◌||◌, List, [], ◌∷◌, ◌++◌, Option, Some, None, refl, sym, ap, ◌∙◌, inl, inr, arith}
use Rattle.std.specs.Prelude.{filter_map, find, ◌==◌}
use Rattle.std.specs.List.{list_any, cons_option}
use Rattle.std.specs.Option.{option_map}
use Rattle.std.proofs.lemmas.Bool.{and_from, cases_Bool, cond_both, eq-eqb, false≢true, or_from, or_left, or_parts, or_right}
use Rattle.rvd_fact.specs.declared.keys.Key.{Key}
use Rattle.rvd_fact.specs.declared.cells.Cell.{Cell}
use Rattle.rvd_fact.specs.declared.cells.Change.{Change}
use Rattle.rvd_fact.specs.declared.values.RefClass.{RefClass}
use Rattle.rvd_fact.specs.declared.values.Value.{Value}
use Rattle.rvd_fact.specs.declared.values.Value.TheVariants.{Block, Mark, Func, Body, Symbol, Comment, Bookmark, Code, Plain, Ref, Gone}
use Rattle.rvd_fact.specs.Program.{Program, cell_at, is_gone, is_present}
use Rattle.rvd_fact.specs.Memory.{func_key, unit_key, has_instruction, is_code, is_instruction, ref_of, refs_from, word}
use Rattle.rvd_decode.specs.Flow.{falls_through}
use Rattle.rvd_ask.specs.Places.{addition, error_key, instruction_at, mark_key, next_word, word_before}
use Rattle.rvd_ask.specs.Flow.{bad_instruction, code_addition, decides, decodes, flow_changes, flow_target, is_flow, is_ready, next_starts, run, start_changes, starts, word_falls}
use Rattle.rvd_ask.specs.Wake.{comes_to, goes_to, is_flow_candidate, is_from}

-- ---- where starts come from
abbrev pub AreComing : Program → ℕ → List ℕ → Type 0
AreComing S x [] = Unit {0}
AreComing S x (t ∷ ts) = (comes_to S x t ≡ true) × AreComing S x ts

coming-append : (S : Program) (x : ℕ) (ts us : List ℕ) → AreComing S x ts → AreComing S x us → AreComing S x (ts ++ us)
coming-append S x [] us a b = b
coming-append S x (t ∷ ts) us a b = (a.0, coming-append S x ts us a.1 b)

abbrev AreTargets : Program → ℕ → List ℕ → Type 0
AreTargets es x [] = Unit {0}
AreTargets es x (t ∷ ts) = (is_from es t x ≡ true) × AreTargets es x ts

wider : (e : Key × Cell) (es : Program) (x : ℕ) (ts : List ℕ) → AreTargets es x ts → AreTargets (e ∷ es) x ts
wider e es x [] h = tt
wider e es x (t ∷ ts) h = (or_right (e.0.at == x && goes_to t e.1.value) (is_from es t x) h.0, wider e es x ts h.1)

-- the target of an entry's reference, before those of others
entry_target : (k : Key) (v : Value) (s : Program) (c : Cell) (x : ℕ) (rs : List (ℕ × RefClass × ℕ)) → c.value ≡ v → (k.at == x) ≡ true → AreTargets ((k, c) ∷ s) x (filter_map flow_target rs) → AreTargets ((k, c) ∷ s) x (filter_map flow_target (cons_option (ref_of k.sub v) rs))
entry_target k (Ref to class) s c x rs is here rest =
    cond_both (is_flow class) (Some to) None (λ o. AreTargets ((k, c) ∷ s) x (cons_option o (filter_map flow_target rs)))
    (λ h. (or_left (k.at == x && goes_to to c.value) (is_from s to x) (and_from (k.at == x) (goes_to to c.value) here (ap (goes_to to) is ∙ eq-eqb to to refl)), rest))
    (λ h. rest)
entry_target k (Block len perm bytes) s c x rs is here rest = rest
entry_target k Mark s c x rs is here rest = rest
entry_target k Func s c x rs is here rest = rest
entry_target k (Body ranges) s c x rs is here rest = rest
entry_target k (Symbol name) s c x rs is here rest = rest
entry_target k (Comment text) s c x rs is here rest = rest
entry_target k (Bookmark text) s c x rs is here rest = rest
entry_target k (Code w) s c x rs is here rest = rest
entry_target k (Plain f) s c x rs is here rest = rest
entry_target k Gone s c x rs is here rest = rest

targets_come : (x : ℕ) (es : Program) → AreTargets es x (filter_map flow_target (refs_from es x))
targets_come x [] = tt
targets_come x (e ∷ es) =
    let rest = wider e es x (filter_map flow_target (refs_from es x)) (targets_come x es) in
    cond_both (e.0.at == x) (ref_of e.0.sub e.1.value) None (λ o. AreTargets (e ∷ es) x (filter_map flow_target (cons_option o (refs_from es x))))
    (λ here. entry_target e.0 e.1.value es e.1 x (refs_from es x) refl here rest)
    (λ h. rest)

coming_targets : (S : Program) (x : ℕ) (ts : List ℕ) → AreTargets S x ts → AreComing S x ts
coming_targets S x [] h = tt
coming_targets S x (t ∷ ts) h = (or_right (x == t) _ (or_right (x == word_before t) (is_from S t x) h.0), coming_targets S x ts h.1)

coming_next : (S : Program) (x : ℕ) → x < 4294967296 → comes_to S x (next_word x) ≡ true
coming_next S x low =
    let back : x ≡ word_before (next_word x) = omega (arith, low) in
    or_right (x == next_word x) _ (or_left (x == word_before (next_word x)) (is_from S (next_word x) x) (eq-eqb x (word_before (next_word x)) back))

pub starts_come : (S : Program) (x : ℕ) → x < 4294967296 → AreComing S x (starts S x)
starts_come S x low =
    coming-append S x (cond (is_present (cell_at S (mark_key x)) || is_present (cell_at S (func_key x))) (x ∷ []) []) (cond (has_instruction S x) (next_starts S x) [])
    (cond_both (is_present (cell_at S (mark_key x)) || is_present (cell_at S (func_key x))) (x ∷ []) [] (AreComing S x) (λ h. (or_left (x == x) _ (eq-eqb x x refl), tt)) (λ h. tt))
    (cond_both (has_instruction S x) (next_starts S x) [] (AreComing S x)
    (λ h. coming-append S x (cond (falls_through (instruction_at S x)) (next_word x ∷ []) []) (filter_map flow_target (refs_from S x))
    (cond_both (falls_through (instruction_at S x)) (next_word x ∷ []) [] (AreComing S x) (λ h. (coming_next S x low, tt)) (λ h. tt))
    (coming_targets S x (filter_map flow_target (refs_from S x)) (targets_come x S)))
    (λ h. tt))

-- ---- no change, where no start decides

some_code : (t : ℕ) (o : Option ℕ) (cs : List Change) → decodes o ≡ true → cons_option (option_map (λ w. addition (unit_key t) (Code w)) o) cs ≡ [] → ⊥
some_code t None cs h none = absurd (false≢true h)
some_code t (Some w) cs h none = cc

some_change : (S : Program) (t : ℕ) → start_changes S t ≡ [] → ⊥
some_change S t =
    let rest = cond (word_falls (word S t) && is_ready S (next_word t)) (run S (next_word t) 255) [] in
    cond_both (decodes (word S t)) (filter_map (code_addition S) (run S t 256)) (addition (error_key t) (Bookmark bad_instruction) ∷ []) (λ cs. cs ≡ [] → ⊥)
    (λ good none. some_code t (word S t) (filter_map (code_addition S) rest) good none)
    (λ bad none. some (addition (error_key t) (Bookmark bad_instruction)) none)
  where
    some : (c : Change) → c ∷ [] ≡ [] → ⊥
    some c h = cc

pub none_decides : (S : Program) (ts : List ℕ) → flow_changes S (find (decides S) ts) ≡ [] → list_any (decides S) ts ≡ false
none_decides S [] h = refl
none_decides S (t ∷ ts) h =
    elim (cases_Bool (decides S t)) [
      | inl yes_so ↦ absurd (some_change S t (sym (ap (λ b. flow_changes S (cond b (Some t) (find (decides S) ts))) yes_so) ∙ h))
      | inr no_so ↦ or_from (decides S t) (list_any (decides S) ts) no_so (none_decides S ts (sym (ap (λ b. flow_changes S (cond b (Some t) (find (decides S) ts))) no_so) ∙ h))
    ]

pub no_change : (S : Program) (ts : List ℕ) → list_any (decides S) ts ≡ false → flow_changes S (find (decides S) ts) ≡ []
no_change S [] h = refl
no_change S (t ∷ ts) h =
    let parts = or_parts (decides S t) (list_any (decides S) ts) h in
    ap (λ b. flow_changes S (cond b (Some t) (find (decides S) ts))) parts.0 ∙ no_change S ts parts.1

-- ---- where flow has no start
no_code : (v : Value) → not (is_gone v) ≡ false → is_code v ≡ false
no_code Gone h = refl
no_code (Block len perm bytes) h = refl
no_code Mark h = refl
no_code Func h = refl
no_code (Body ranges) h = refl
no_code (Symbol name) h = refl
no_code (Comment text) h = refl
no_code (Bookmark text) h = refl
no_code (Code w) h = h
no_code (Plain f) h = refl
no_code (Ref to class) h = refl

no_instruction : (o : Option Cell) → is_present o ≡ false → is_instruction o ≡ false
no_instruction None h = refl
no_instruction (Some c) h = no_code c.value h

pub no_starts : (S : Program) (x : ℕ) → is_flow_candidate S x ≡ false → starts S x ≡ []
no_starts S x h =
    let mark = is_present (cell_at S (mark_key x)) in
    let func = is_present (cell_at S (func_key x)) in
    let unit = is_present (cell_at S (unit_key x)) in
    let first = or_parts mark (func || unit) h in
    let rest = or_parts func unit first.1 in
    let given = or_from mark func first.0 rest.0 in
    let code = no_instruction (cell_at S (unit_key x)) rest.1 in
    λ i. cond (given i) (x ∷ []) [] ++ cond (code i) (next_starts S x) []
