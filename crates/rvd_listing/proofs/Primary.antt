-- The best symbol of an address. Use `best_below-gap` to pass over empty slots, and `primary_law` for what the
-- primary name means.
use Rattle.std.proofs.Common.{◌≡◌, ℕ, zero, suc, ◌+◌, ◌-◌, ◌≤◌, Option, Some, None, refl, sym, ap, ◌∙◌, arith}
use Rattle.rvd_fact.specs.declared.cells.Cell.{Cell}
use Rattle.rvd_fact.specs.Program.{Program, cell_at}
use Rattle.rvd_listing.specs.Names.{symbol_key, slots, best_below, better}
use Rattle.rvd_listing.specs.Answers.{HasNoCellFrom}

-- a slot without a cell changes nothing
best_below-empty : (S : Program) (a slot : ℕ) → cell_at S (symbol_key a slot) ≡ None → best_below S a (suc slot) ≡ best_below S a slot
unfolding best_below
best_below-empty S a slot h = ap (better (best_below S a slot)) h

-- a run of n slots without a cell changes nothing
pub best_below-gap : (S : Program) (a slot n : ℕ) → HasNoCellFrom S a slot (slot + n) → best_below S a (slot + n) ≡ best_below S a slot
best_below-gap S a slot zero h =
    let same : slot + 0 ≡ slot = omega arith in
    ap (best_below S a) same
best_below-gap S a slot (suc n) h =
    let next : slot + suc n ≡ suc (slot + n) = omega arith in
    ap (best_below S a) next
    ∙ best_below-empty S a (slot + n) (h (slot + n) (omega arith) (omega arith))
    ∙ best_below-gap S a slot n (λ t low high. h t low (omega arith))

-- the best symbol behind the next one
pub best_below-next : (S : Program) (a slot found : ℕ) (c : Cell) → slot ≤ found → HasNoCellFrom S a slot found → cell_at S (symbol_key a found) ≡ Some c
    → best_below S a (found + 1) ≡ better (best_below S a slot) (Some c)
unfolding best_below
best_below-next S a slot found c low none here =
    let further : found ≡ slot + (found - slot) = omega arith in
    let next : found + 1 ≡ suc found = omega arith in
    let gap : best_below S a found ≡ best_below S a slot = ap (best_below S a) further ∙ best_below-gap S a slot (found - slot) (λ t l h. none t l (omega arith)) in
    ap (best_below S a) next ∙ ap (better (best_below S a found)) here ∙ ap (λ (b : Option Cell). better b (Some c)) gap

-- behind the last one
pub best_below-rest : (S : Program) (a slot : ℕ) → slot ≤ slots → HasNoCellFrom S a slot slots → best_below S a slot ≡ best_below S a slots
best_below-rest S a slot low none =
    let further : slots ≡ slot + (slots - slot) = omega arith in
    sym (ap (best_below S a) further ∙ best_below-gap S a slot (slots - slot) (λ t l h. none t l (omega arith)))

pub best_below-zero : (S : Program) (a : ℕ) → None ≡ best_below S a 0
unfolding best_below
best_below-zero S a = refl
