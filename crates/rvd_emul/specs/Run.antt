-- When a run ends, in the order of the causes, and what a run is. Permissions are kept, an access that isn't aligned to its size
-- ends the run, and a jump to an address that isn't a multiple of 4 is done and ends the run with the step after it: these the
-- manual leaves to the environment. Use `run` for the run of a machine.
-- RISC-V unprivileged ISA 2.1, sections 2.5 and 2.6 (alignment) and 2.8 (environment calls and breakpoints).
use Rattle.std.specs.Prelude.{◌≡◌, ℕ, zero, suc, ◌%◌, Bool, not, ◌==◌, List, [], ◌∷◌, ◌++◌, Option, Some, None, if◌then◌else◌}
use Rattle.std.specs.Option.{option_map_or}
use Rattle.rvd_decode.specs.declared.insn.Op.{Op}
use Rattle.rvd_decode.specs.declared.insn.Op.TheVariants as op
use Rattle.rvd_decode.specs.Instruction.{Instruction}
use Rattle.rvd_decode.specs.Table.{instruction}
use Rattle.rvd_fact.specs.Program.{Program}
use Rattle.rvd_emul.specs.declared.classes.Class.{Class}
use Rattle.rvd_emul.specs.declared.classes.Class.TheVariants as class
use Rattle.rvd_emul.specs.declared.ends.End.{End}
use Rattle.rvd_emul.specs.declared.ends.End.TheVariants.{Budget, MisalignedPc, NoFetch, Outside, Ecall, Ebreak, Misaligned, NoLoad, NoStore}
use Rattle.rvd_emul.specs.declared.memory.Access.{Access}
use Rattle.rvd_emul.specs.declared.memory.Access.TheVariants as access
use Rattle.rvd_emul.specs.declared.steps.Step.{Step}
use Rattle.rvd_emul.specs.declared.steps.Step.TheVariants.{Done, Ended}
use Rattle.rvd_emul.specs.Classes.{class_of}
use Rattle.rvd_emul.specs.Machine.{IsLike, Machine, is_open, memory_word}
use Rattle.rvd_emul.specs.Effects.{address, effect, width}

-- the first of two causes that stands
abbrev pub first_cause : Bool → End → Option End → Option End
first_cause stands e other = if stands then Some e else other

-- which environment instruction it is
abbrev pub environment_end : Op → End
environment_end op.Ebreak = Ebreak
environment_end o = Ecall

-- an access that no block permits
abbrev pub denied : Access → ℕ → End
denied access.Fetch a = NoFetch
denied access.Load a = NoLoad a
denied access.Store a = NoStore a

-- why a load or a store of n bytes ends the run
abbrev pub access_cause : Program → Access → ℕ → ℕ → Option End
access_cause S access a n =
    first_cause (not (a % n == 0)) (Misaligned a) (first_cause (not (is_open S access a n)) (denied access a) None)

module _ (S : Program) (m : Machine) where
  -- the word at the program counter
  abbrev pub fetched : ℕ
  fetched = memory_word S m.stored m.pc

  -- why an instruction ends the run
  abbrev pub refusal_of : Instruction → Class → Option End
  refusal_of i class.Environment = Some (environment_end i.op)
  refusal_of i class.Load = access_cause S access.Load (address m i) (width i.op)
  refusal_of i class.Store = access_cause S access.Store (address m i) (width i.op)
  refusal_of i c = None

  unfoldable pub refusal : Instruction → Option End
  refusal i = refusal_of i (class_of i.op)

  -- why a word ends the run
  abbrev pub word_cause : ℕ → Option Instruction → Option End
  word_cause w None = Some (Outside w)
  word_cause w (Some i) = refusal i

  -- why the run ends before a step
  unfoldable pub cause : Option End
  cause =
      first_cause (not (m.pc % 4 == 0)) MisalignedPc
      (first_cause (not (is_open S access.Fetch m.pc 4)) (denied access.Fetch m.pc)
      (word_cause fetched (instruction fetched)))

  -- the state after a step
  unfoldable pub next : Machine
  next = option_map_or (effect S m) (instruction fetched) m

-- a step is done, with its word, or ends the run and changes nothing
abbrev pub IsStep : Program → Machine → Machine → Step → Type 0
IsStep S old new (Done w) = (cause S old ≡ None) × (w ≡ fetched S old) × IsLike (next S old) new
IsStep S old new (Ended e) = (cause S old ≡ Some e) × (new ≡ old)

-- a run: the address and the word of each step, why it ended, and the program counter and the registers at the end
pub record Run : Type 0 where
  pub done : List (ℕ × ℕ)
  pub end : End
  pub pc : ℕ
  pub regs : List ℕ

abbrev pub ended : Machine → End → Run
ended m e = record { done = []; end = e; pc = m.pc; regs = m.regs }

-- a run with steps before it
abbrev pub after_steps : List (ℕ × ℕ) → Run → Run
after_steps steps r = record r { done = steps ++ r.done }

-- the run of a machine for n steps at the most
unfoldable pub run : Program → ℕ → Machine → Run
run S zero m = ended m Budget
run S (suc n) m = option_map_or (ended m) (cause S m) (after_steps ((m.pc, fetched S m) ∷ []) (run S n (next S m)))
