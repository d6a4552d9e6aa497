-- Ranges of a body, one more at a time: what stands in front of ranges that are read on. Use `walk-more`, `walk-stop`, `walk-none`
-- and `walk-end` in the loop of their reader, at the range i of at most n.
use Rattle.std.proofs.Common.{◌≡◌, ℕ, zero, suc, ◌+◌, ◌-◌, ◌<◌, ◌≤◌, Bool, true, false, cond, List, [], ◌∷◌, ◌++◌, Some, None, codes, sym, refl, ap, ◌∙◌, append_assoc, append-nil, arith}
use Rattle.std.specs.Prelude.{nat_eq}
use Rattle.std.specs.List.{starts_with}
use Rattle.rvd_reading.specs.Steps.{◌>>=◌, Step}
use Rattle.rvd_reading.specs.Lists.{appended}
use Rattle.rvd_line_reading.specs.Edits.{next_range_of, ranges_to}

-- a range, and those behind it
abbrev then_more : ℕ → (ℕ × ℕ) × List ℕ → Step (List (ℕ × ℕ))
then_more n x = ranges_to n x.1 >>= (λ xs. Some (x.0 ∷ xs.0, xs.1))

-- one range in front of a list
in_front : (old : List (ℕ × ℕ)) (x : ℕ × ℕ) (o : Step (List (ℕ × ℕ))) → appended old (o >>= (λ xs. Some (x ∷ xs.0, xs.1))) ≡ appended (old ++ x ∷ []) o
in_front old x None = refl
in_front old x (Some xs) = ap (λ (l : List (ℕ × ℕ)). let s : Step (List (ℕ × ℕ)) = Some (l, xs.1) in s) (sym (append_assoc old (x ∷ []) xs.0))

at_end : (old : List (ℕ × ℕ)) (bytes : List ℕ) → appended old (Some ([], bytes)) ≡ Some (old, bytes)
at_end old bytes = ap (λ (l : List (ℕ × ℕ)). let s : Step (List (ℕ × ℕ)) = Some (l, bytes) in s) (append-nil old)

one_step : (n : ℕ) (bytes : List ℕ) (old : List (ℕ × ℕ)) (b : Bool) → starts_with nat_eq bytes (codes " =") ≡ b
    → appended old (ranges_to (suc n) bytes) ≡ appended old (cond b (Some ([], bytes)) (next_range_of bytes >>= then_more n))
one_step n bytes old b starts = ap (λ (q : Bool). appended old (cond q (Some ([], bytes)) (next_range_of bytes >>= then_more n))) starts

stop : (n : ℕ) (bytes : List ℕ) (old : List (ℕ × ℕ)) → starts_with nat_eq bytes (codes " =") ≡ true → appended old (ranges_to n bytes) ≡ Some (old, bytes)
stop zero bytes old starts = at_end old bytes
stop (suc n) bytes old starts = one_step n bytes old true starts ∙ at_end old bytes

module _ (n i : ℕ) (bytes : List ℕ) (now : List (ℕ × ℕ)) (whole : Step (List (ℕ × ℕ))) where
  pub walk-stop : appended now (ranges_to (n - i) bytes) ≡ whole → starts_with nat_eq bytes (codes " =") ≡ true → whole ≡ Some (now, bytes)
  walk-stop so_far starts = sym so_far ∙ stop (n - i) bytes now starts

  pub walk-end : appended now (ranges_to (n - i) bytes) ≡ whole → n ≤ i → whole ≡ Some (now, bytes)
  walk-end so_far end =
      let none : n - i ≡ 0 = omega arith in
      sym so_far ∙ ap (λ m. appended now (ranges_to m bytes)) none ∙ at_end now bytes

  pub walk-more : (x : ℕ × ℕ) (rest : List ℕ) → appended now (ranges_to (n - i) bytes) ≡ whole → i < n → starts_with nat_eq bytes (codes " =") ≡ false
      → next_range_of bytes ≡ Some (x, rest) → appended (now ++ x ∷ []) (ranges_to (n - (i + 1)) rest) ≡ whole
  walk-more x rest so_far l starts reads =
      let one : n - i ≡ suc (n - (i + 1)) = omega arith in
      sym (ap (λ m. appended now (ranges_to m bytes)) one
      ∙ one_step (n - (i + 1)) bytes now false starts
      ∙ ap (λ (o : Step (ℕ × ℕ)). appended now (o >>= then_more (n - (i + 1)))) reads
      ∙ in_front now x (ranges_to (n - (i + 1)) rest))
      ∙ so_far

  pub walk-none : appended now (ranges_to (n - i) bytes) ≡ whole → i < n → starts_with nat_eq bytes (codes " =") ≡ false → next_range_of bytes ≡ None → whole ≡ None
  walk-none so_far l starts reads =
      let one : n - i ≡ suc (n - (i + 1)) = omega arith in
      sym so_far
      ∙ ap (λ m. appended now (ranges_to m bytes)) one
      ∙ one_step (n - (i + 1)) bytes now false starts
      ∙ ap (λ (o : Step (ℕ × ℕ)). appended now (o >>= then_more (n - (i + 1)))) reads
