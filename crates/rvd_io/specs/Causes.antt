-- Counts of faults. Use `Rose` to say that a fault came in a call. A count stands still at the end of its
-- type, and counts as risen there.
use Rattle.std.specs.Prelude.{ℕ, ◌+◌, ◌-◌, ◌^◌, ◌≤◌, min}

abbrev pub Rose : ℕ → ℕ → Type 0
Rose before now = min (before + 1) (2 ^ 64 - 1) ≤ now
