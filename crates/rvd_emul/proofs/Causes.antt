-- What follows where nothing ends the run: `open_where_none` for an access, and `aligned_fits` for its last byte.
use Rattle.std.proofs.Common.{◌≡◌, ℕ, ◌+◌, ◌<◌, ◌≤◌, ◌%◌, ◌^◌, Bool, true, false, not, Option, None, refl, sym, ap, ◌∙◌, arith}
use Rattle.std.specs.Prelude.{◌==◌}
use Rattle.std.proofs.lemmas.Option.{none-some}
use Rattle.std.proofs.lemmas.Bool.{and_parts, eqb-true}
use Rattle.rvd_decode.specs.declared.insn.Op.{Op}
use Rattle.rvd_decode.specs.declared.insn.Op.TheVariants.{Lb, Lbu, Sb, Lh, Lhu, Sh}
use Rattle.rvd_decode.specs.Instruction.{Instruction}
use Rattle.rvd_fact.specs.Program.{Program}
use Rattle.rvd_emul.specs.declared.ends.End.{End}
use Rattle.rvd_emul.specs.declared.ends.End.TheVariants.{Misaligned}
use Rattle.rvd_emul.specs.declared.classes.Class.TheVariants as class
use Rattle.rvd_emul.specs.declared.memory.Access.{Access}
use Rattle.rvd_emul.specs.declared.memory.Access.TheVariants.{Load, Store}
use Rattle.rvd_emul.specs.Classes.{class_of}
use Rattle.rvd_emul.specs.Effects.{address, width}
use Rattle.rvd_emul.specs.Machine.{Machine, is_open, lies_in}
use Rattle.rvd_emul.specs.Run.{access_cause, denied, first_cause, refusal, refusal_of}

-- of two causes neither stands
neither : (b : Bool) (e : End) (o : Option End) → first_cause (not b) e o ≡ None → (b ≡ true) × (o ≡ None)
neither true e o h = (refl, h)
neither false e o h = absurd (none-some e (sym h))

module _ (S : Program) (access : Access) (a n : ℕ) (none : access_cause S access a n ≡ None) where
  pub aligned_where_none : a % n ≡ 0
  aligned_where_none = eqb-true (a % n) 0 (neither (a % n == 0) (Misaligned a) _ none).0

  pub open_where_none : is_open S access a n ≡ true
  open_where_none = (neither (is_open S access a n) (denied access a) None (neither (a % n == 0) (Misaligned a) _ none).1).0

  pub lies_where_none : lies_in S a n ≡ true
  lies_where_none = (and_parts (lies_in S a n) _ open_where_none).0

-- the last byte of an access that is aligned has an address
pub aligned_fits : (op : Op) (a : ℕ) → a < 2 ^ 32 → a % width op ≡ 0 → a + width op ≤ 2 ^ 32
aligned_fits Lb a small aligned = omega (arith, small)
aligned_fits Lbu a small aligned = omega (arith, small)
aligned_fits Sb a small aligned = omega (arith, small)
aligned_fits Lh a small aligned = omega (arith, small, aligned)
aligned_fits Lhu a small aligned = omega (arith, small, aligned)
aligned_fits Sh a small aligned = omega (arith, small, aligned)
aligned_fits op a small aligned = omega (arith, small, aligned)

-- where no instruction is refused: a load's bytes, and a store's
pub load_lies : (S : Program) (m : Machine) (i : Instruction) → refusal S m i ≡ None → class_of i.op ≡ class.Load → lies_in S (address m i) (width i.op) ≡ true
unfolding refusal
load_lies S m i none is = lies_where_none S Load (address m i) (width i.op) (sym (ap (refusal_of S m i) is) ∙ none)

pub store_fits : (S : Program) (m : Machine) (i : Instruction) → refusal S m i ≡ None → class_of i.op ≡ class.Store → address m i + width i.op ≤ 2 ^ 32
unfolding refusal
store_fits S m i none is =
    aligned_fits i.op (address m i) (omega arith) (aligned_where_none S Store (address m i) (width i.op) (sym (ap (refusal_of S m i) is) ∙ none))
