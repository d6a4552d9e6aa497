-- One step back through a list of changes: the changes from a place on are undone, and the one before it is next.
-- `next_back` is the step of a loop that goes from the last change to the first.
use Rattle.std.proofs.Common.{◌≡◌, ℕ, zero, suc, ◌-◌, ◌<◌, ◌≤◌, List, length, drop, get_or, sym, ap, ◌∙◌, arith}
use Rattle.std.proofs.Math.Seq.{drop-cons}
use Rattle.rvd_fact.specs.declared.cells.Change.{Change}
use Rattle.rvd_fact.specs.Program.{Program, reverted, reverted_all}

-- the change at a place, and those from it on
pub one_back : (n : ℕ) (S : Program) (cs : List Change) (d : Change) → n < length cs → reverted_all S (drop n cs) ≡ reverted (reverted_all S (drop (suc n) cs)) (get_or cs n d)
one_back n S cs d h = ap (reverted_all S) (drop-cons cs n d h)

pub next_back : (S T U : Program) (cs : List Change) (left : ℕ) (c : Change) → 0 < left → left ≤ length cs → get_or cs (left - 1) c ≡ c → T ≡ reverted_all S (drop left cs) → U ≡ reverted T c → U ≡ reverted_all S (drop (left - 1) cs)
next_back S T U cs zero c up in_range here is step = absurd (omega (arith, up))
next_back S T U cs (suc n) c up in_range here is step =
    let place : suc n - 1 ≡ n = omega arith in
    let short : n < length cs = omega (arith, in_range) in
    let found : get_or cs n c ≡ c = ap (λ (k : ℕ). get_or cs k c) (sym place) ∙ here in
    step
    ∙ ap (λ (R : Program). reverted R c) is
    ∙ ap (λ (x : Change). reverted (reverted_all S (drop (suc n) cs)) x) (sym found)
    ∙ sym (one_back n S cs c short)
    ∙ ap (λ (k : ℕ). reverted_all S (drop k cs)) (sym place)
