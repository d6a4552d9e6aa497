-- A walk over the 64 slots of an address that looks for the lowest one that passes a test. Use `passed`, `found` and
-- `none_left` for a loop that goes from slot to slot, and `first_slot-passes` for what the slot is.
use Rattle.std.proofs.Common.{◌≡◌, ℕ, zero, suc, ◌+◌, ◌-◌, ◌<◌, ◌≤◌, Bool, true, false, cond, Some, None, refl, sym, ap, ◌∙◌, arith, inl, inr}
use Rattle.std.proofs.lemmas.Bool.{cases_Bool}
use Rattle.std.proofs.lemmas.Option.{none-some}
use Rattle.rvd_edit.specs.Slots.{first_slot}

one_more : (test : ℕ → Bool) (slot n : ℕ) → first_slot test slot (suc n) ≡ cond (test slot) (Some slot) (first_slot test (slot + 1) n)
unfolding first_slot
one_more test slot n = refl

left : (test : ℕ → Bool) (slot : ℕ) → slot < 64 → first_slot test slot (64 - slot) ≡ cond (test slot) (Some slot) (first_slot test (slot + 1) (64 - (slot + 1)))
left test slot low =
    let e : 64 - slot ≡ suc (64 - (slot + 1)) = omega (arith, low) in
    ap (first_slot test slot) e ∙ one_more test slot (64 - (slot + 1))

pub passed : (test : ℕ → Bool) (slot : ℕ) → slot < 64 → test slot ≡ false → first_slot test slot (64 - slot) ≡ first_slot test (slot + 1) (64 - (slot + 1))
passed test slot low fails = left test slot low ∙ ap (λ (b : Bool). cond b (Some slot) (first_slot test (slot + 1) (64 - (slot + 1)))) fails

pub found : (test : ℕ → Bool) (slot : ℕ) → slot < 64 → test slot ≡ true → first_slot test slot (64 - slot) ≡ Some slot
found test slot low passes = left test slot low ∙ ap (λ (b : Bool). cond b (Some slot) (first_slot test (slot + 1) (64 - (slot + 1)))) passes

nothing_left : (test : ℕ → Bool) (slot : ℕ) → first_slot test slot zero ≡ None
unfolding first_slot
nothing_left test slot = refl

pub none_left : (test : ℕ → Bool) (slot : ℕ) → 64 ≤ slot → first_slot test slot (64 - slot) ≡ None
none_left test slot high = let e : 64 - slot ≡ zero = omega (arith, high) in ap (first_slot test slot) e ∙ nothing_left test slot

same_some : (a b : ℕ) → Some a ≡ Some b → a ≡ b
same_some a b h = cc

-- the slot is one of those, and passes
pub first_slot-passes : (test : ℕ → Bool) (low n slot : ℕ) → first_slot test low n ≡ Some slot → (low ≤ slot) × (slot < low + n) × (test slot ≡ true)
first_slot-passes test low zero slot h = absurd (none-some slot (sym (nothing_left test low) ∙ h))
first_slot-passes test low (suc n) slot h = elim (cases_Bool (test low)) [
  | inl passes ↦
      let is : low ≡ slot = same_some low slot (sym (one_more test low n ∙ ap (λ (b : Bool). cond b (Some low) (first_slot test (low + 1) n)) passes) ∙ h) in
      (omega (arith, is), omega (arith, is), ap test (sym is) ∙ passes)
  | inr fails ↦
      let next = first_slot-passes test (low + 1) n slot (sym (one_more test low n ∙ ap (λ (b : Bool). cond b (Some low) (first_slot test (low + 1) n)) fails) ∙ h) in
      (omega (arith, next.0), omega (arith, next.1), next.2)
]
