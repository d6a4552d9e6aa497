-- Slots of symbols: the facts of one symbol more (`symbol_facts-more`), and how many slots are taken after it
-- (`slots_more`).
use Rattle.std.proofs.Common.{◌≡◌, ℕ, ◌+◌, ◌<◌, true, false, cond, ◌&&◌, ◌==◌, nat_lt, min, List, [], ◌∷◌, ◌++◌, length, get_or, take, refl, sym, ap, ◌∙◌, inl, inr, arith, append_assoc}
use Rattle.std.proofs.lemmas.Bool.{cases_lt}
use Rattle.std.proofs.lemmas.Bool.Decides.{nat_tests}
use Rattle.std.proofs.lemmas.List.{take_more, append-nil}
use Rattle.std.proofs.lemmas.List.Sums.{sum_by_push}
use Rattle.rvd_fact.specs.declared.keys.Key.{Key}
use Rattle.rvd_fact.specs.declared.cells.Cell.{Cell}
use Rattle.rvd_fact.specs.Program.{Program}
use Rattle.rvd_elf.specs.declared.segment.Region.{Region}
use Rattle.rvd_elf.specs.declared.symbol.Symbol.{Symbol}
use Rattle.rvd_elf.specs.Facts.{number_at, slot_facts, symbol_facts, with_facts}
use Rattle.rvd_elf.proofs.Placing.{with_facts-append}

module _ (b : List ℕ) (rs : List Region) where
  pub symbol_facts-push : (before ss : List Symbol) (s : Symbol) → symbol_facts b rs before (ss ++ s ∷ []) ≡ symbol_facts b rs before ss ++ slot_facts b rs (number_at s.value (before ++ ss)) s
  symbol_facts-push before [] s =
      append-nil (slot_facts b rs (number_at s.value before) s)
      ∙ ap (λ (ts : List Symbol). slot_facts b rs (number_at s.value ts) s) (sym (append-nil before))
  symbol_facts-push before (t ∷ ss) s =
      ap (λ (fs : List (Key × Cell)). slot_facts b rs (number_at t.value before) t ++ fs) (symbol_facts-push (before ++ t ∷ []) ss s)
      ∙ sym (append_assoc (slot_facts b rs (number_at t.value before) t) (symbol_facts b rs (before ++ t ∷ []) ss) (slot_facts b rs (number_at s.value ((before ++ t ∷ []) ++ ss)) s))
      ∙ ap (λ (ts : List Symbol). (slot_facts b rs (number_at t.value before) t ++ symbol_facts b rs (before ++ t ∷ []) ss) ++ slot_facts b rs (number_at s.value ts) s) (append_assoc before (t ∷ []) ss)

  -- behind the last slot nothing is taken
  capped : (n : ℕ) (s : Symbol) → slot_facts b rs (min n 64) s ≡ slot_facts b rs n s
  capped n s =
      elim (cases_lt n 64) [
        | inl lt ↦ ap (λ (k : ℕ). slot_facts b rs k s) (omega (arith, lt))
        | inr le ↦
            let full : min n 64 ≡ 64 = omega (arith, le) in
            let none : nat_lt n 64 ≡ false = grind (arith, nat_tests) in
            ap (λ (k : ℕ). slot_facts b rs k s) full ∙ sym (rw none refl)
      ]

  -- the facts of one symbol more
  pub symbol_facts-more : (S es gs : Program) (ss : List Symbol) (i n : ℕ) (d : Symbol) → i < length ss
      → es ≡ with_facts S (symbol_facts b rs [] (take i ss)) → n ≡ min (number_at (get_or ss i d).value (take i ss)) 64
      → gs ≡ with_facts es (slot_facts b rs n (get_or ss i d)) → gs ≡ with_facts S (symbol_facts b rs [] (take (i + 1) ss))
  symbol_facts-more S es gs ss i n d lt before slot here =
      let s : Symbol = get_or ss i d in
      here ∙ ap (λ (T : Program). with_facts T (slot_facts b rs n (get_or ss i d))) before
      ∙ ap (λ (k : ℕ). with_facts (with_facts S (symbol_facts b rs [] (take i ss))) (slot_facts b rs k (get_or ss i d))) slot
      ∙ ap (λ (fs : List (Key × Cell)). with_facts (with_facts S (symbol_facts b rs [] (take i ss))) fs) (capped (number_at (get_or ss i d).value (take i ss)) (get_or ss i d))
      ∙ sym (with_facts-append S (symbol_facts b rs [] (take i ss)) (slot_facts b rs (number_at (get_or ss i d).value (take i ss)) (get_or ss i d)))
      ∙ ap (with_facts S) (sym (symbol_facts-push [] (take i ss) (get_or ss i d)) ∙ ap (symbol_facts b rs []) (sym (take_more ss i d lt)))

number_push : (a : ℕ) (ss : List Symbol) (s : Symbol) → number_at a (ss ++ s ∷ []) ≡ number_at a ss + cond (s.value == a) 1 0
number_push a ss s = sum_by_push (λ (t : Symbol). cond (t.value == a) 1 0) ss s

step : (a v : ℕ) (count old : ℕ → ℕ) (new : ℕ) → ((x : ℕ) → old x ≡ min (count x) 64) → new ≡ cond (a == v && nat_lt (old v) 64) (old v + 1) (old a) → new ≡ min (count a + cond (v == a) 1 0) 64
step a v count old new kept e =
    elim (a == v) as (λ t. (a == v) ≡ t → new ≡ cond (t && nat_lt (old v) 64) (old v + 1) (old a) → new ≡ min (count a + cond (v == a) 1 0) 64) [
      | true ↦ λ t e.
          let same : a ≡ v = grind (arith, nat_tests) in
          let back : (v == a) ≡ true = grind (arith, nat_tests) in
          let counts : count a ≡ count v = ap count same in
          let at_a : old a ≡ min (count a) 64 = kept a in
          let at_v : old v ≡ min (count v) 64 = kept v in
          rw back (grind (arith, nat_tests))
      | false ↦ λ t e.
          let back : (v == a) ≡ false = grind (arith, nat_tests) in
          let at_a : old a ≡ min (count a) 64 = kept a in
          rw back (e ∙ at_a ∙ omega arith)
    ] refl e

-- how many slots are taken after one symbol more
pub slots_more : (old new : ℕ → ℕ) (ss : List Symbol) (i : ℕ) (d : Symbol) → i < length ss → ((a : ℕ) → old a ≡ min (number_at a (take i ss)) 64)
    → ((a : ℕ) → new a ≡ cond (a == (get_or ss i d).value && nat_lt (old (get_or ss i d).value) 64) (old (get_or ss i d).value + 1) (old a))
    → (a : ℕ) → new a ≡ min (number_at a (take (i + 1) ss)) 64
slots_more old new ss i d lt kept taken a =
    step a (get_or ss i d).value (λ x. number_at x (take i ss)) old (new a) kept (taken a)
    ∙ ap (λ (n : ℕ). min n 64) (sym (ap (number_at a) (take_more ss i d lt) ∙ number_push a (take i ss) (get_or ss i d)))
