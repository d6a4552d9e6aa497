-- How far an address is from another one: adding it leads there, and it is short where the two are near.
use Rattle.std.proofs.Common.{◌≡◌, ℕ, ◌+◌, ◌-◌, ◌%◌, ◌^◌, ◌<◌, ◌≤◌, ◌⊎◌, inl, inr, subst, sym, arith, ℤ, pos, negsuc}
use Rattle.std.proofs.lemmas.Int.{ints}
use Rattle.rvd_decode.specs.Formats.{IsSigned, IsMultiple}
use Rattle.rvd_decode.specs.Encoding.{complement}
use Rattle.rvd_gen.specs.Code.{offset}

-- an offset on, or back
offset-on : (from to : ℕ) → from ≤ to → offset from to ≡ pos (to - from)
offset-on from to h = omega (arith, ints)

offset-back : (from to : ℕ) → to < from → offset from to ≡ negsuc (from - to - 1)
offset-back from to h = omega (arith, ints)

on_or_back : (from to : ℕ) → (from ≤ to) ⊎ (to < from)
on_or_back from to = grind arith

pub offset-reaches : (from to : ℕ) → from < 2 ^ 32 → to < 2 ^ 32 → (from + complement (offset from to)) % 2 ^ 32 ≡ to
offset-reaches from to l m =
    elim (on_or_back from to) [
      | inl h ↦ subst (λ (z : ℤ). (from + complement z) % 2 ^ 32 ≡ to) (sym (offset-on from to h)) (omega arith)
      | inr h ↦ subst (λ (z : ℤ). (from + complement z) % 2 ^ 32 ≡ to) (sym (offset-back from to h)) (omega arith)
    ]

pub offset-signed : (n from to : ℕ) → to < from + 2 ^ (n - 1) → from ≤ to + 2 ^ (n - 1) → IsSigned n (offset from to)
offset-signed n from to l m =
    elim (on_or_back from to) [
      | inl h ↦ subst (λ (z : ℤ). IsSigned n z) (sym (offset-on from to h)) (omega arith)
      | inr h ↦ subst (λ (z : ℤ). IsSigned n z) (sym (offset-back from to h)) (omega arith)
    ]

pub offset-even : (from to : ℕ) → from % 2 ≡ 0 → to % 2 ≡ 0 → IsMultiple 2 (offset from to)
offset-even from to e d =
    elim (on_or_back from to) [
      | inl h ↦ subst (λ (z : ℤ). IsMultiple 2 z) (sym (offset-on from to h)) (omega arith)
      | inr h ↦ subst (λ (z : ℤ). IsMultiple 2 z) (sym (offset-back from to h)) (omega arith)
    ]
