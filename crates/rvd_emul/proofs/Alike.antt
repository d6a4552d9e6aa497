-- Machines that differ in how they keep what was stored run alike: `run-like`. `run-done` and `run-ended` say what a step makes
-- of a run.
use Rattle.std.proofs.Common.{◌≡◌, ℕ, zero, suc, ◌+◌, ◌-◌, ◌<◌, ◌≤◌, arith, ◌∷◌, ◌++◌, List, [], take, Option, Some, None, refl, sym, ap, ◌∙◌, subst, append_assoc}
use Rattle.std.specs.Prelude.{◌%◌, ◌==◌, not, unwrap_or}
use Rattle.std.specs.Option.{option_map_or}
use Rattle.std.specs.Int.{cast_signed, from_le_bytes, to_le_bytes, w8, w16, w32}
use Rattle.rvd_decode.specs.declared.insn.Op.{Op}
use Rattle.rvd_decode.specs.declared.insn.Op.TheVariants.{Lb, Lh, Lw, Lbu, Lhu}
use Rattle.rvd_decode.specs.Instruction.{Instruction}
use Rattle.rvd_decode.specs.Table.{instruction}
use Rattle.rvd_fact.specs.Program.{Program}
use Rattle.rvd_fact.specs.Memory.{byte_at}
use Rattle.rvd_emul.specs.declared.classes.Class.{Class}
use Rattle.rvd_emul.specs.declared.classes.Class.TheVariants.{Upper, Jump, Branch, Load, Store, Immediate, Register, MemoryOrdering, Environment}
use Rattle.rvd_emul.specs.declared.ends.End.{End}
use Rattle.rvd_emul.specs.declared.ends.End.TheVariants.{Budget, MisalignedPc}
use Rattle.rvd_emul.specs.declared.memory.Access.TheVariants.{Fetch}
use Rattle.rvd_emul.specs.declared.steps.Step.TheVariants.{Done, Ended}
use Rattle.rvd_emul.specs.Classes.{class_of}
use Rattle.rvd_emul.specs.Effects.{address, effect, effect_of, loaded, second, width, word_of}
use Rattle.rvd_emul.specs.Machine.{IsLike, Machine, SameBytes, is_open, memory_byte, memory_half, memory_word, newest}
use Rattle.rvd_emul.specs.Run.{IsStep, Run, after_steps, cause, denied, ended, fetched, first_cause, next, refusal, run, word_cause}
use Rattle.rvd_emul.proofs.StoredBytes.{same-stored_from}

module _ (S : Program) (s t : List (ℕ × ℕ)) (same : SameBytes s t) where
  byte-like : (a : ℕ) → memory_byte S s a ≡ memory_byte S t a
  byte-like a = ap (λ o. unwrap_or o (unwrap_or (byte_at S a) 0)) (same a)

  half-like : (a : ℕ) → memory_half S s a ≡ memory_half S t a
  half-like a = λ i. from_le_bytes w16 (byte-like a i ∷ byte-like (a + 1) i ∷ [])

  word-like : (a : ℕ) → memory_word S s a ≡ memory_word S t a
  word-like a = λ i. from_le_bytes w32 (byte-like a i ∷ byte-like (a + 1) i ∷ byte-like (a + 2) i ∷ byte-like (a + 3) i ∷ [])

  loaded-like : (op : Op) (a : ℕ) → loaded S s op a ≡ loaded S t op a
  loaded-like Lb a = ap (λ b. word_of (cast_signed w8 b)) (byte-like a)
  loaded-like Lh a = ap (λ b. word_of (cast_signed w16 b)) (half-like a)
  loaded-like Lw a = word-like a
  loaded-like Lbu a = byte-like a
  loaded-like Lhu a = half-like a
  loaded-like op a = refl

  -- a machine with one or the other
  abbrev with_first : Machine → Machine
  with_first m = record m { stored = s }

  abbrev with_second : Machine → Machine
  with_second m = record m { stored = t }

  by_class : (m : Machine) (i : Instruction) (c : Class) (load : ℕ) → IsLike (effect_of (with_first m) i c load) (effect_of (with_second m) i c load)
  by_class m i Store load = record { pc = refl; regs = refl; stored = same-stored_from (address m i) (take (width i.op) (to_le_bytes w32 (second m i))) s t same }
  by_class m i Upper load = record { pc = refl; regs = refl; stored = same }
  by_class m i Jump load = record { pc = refl; regs = refl; stored = same }
  by_class m i Branch load = record { pc = refl; regs = refl; stored = same }
  by_class m i Load load = record { pc = refl; regs = refl; stored = same }
  by_class m i Immediate load = record { pc = refl; regs = refl; stored = same }
  by_class m i Register load = record { pc = refl; regs = refl; stored = same }
  by_class m i MemoryOrdering load = record { pc = refl; regs = refl; stored = same }
  by_class m i Environment load = record { pc = refl; regs = refl; stored = same }

  effect-like : (m : Machine) (i : Instruction) → IsLike (effect S (with_first m) i) (effect S (with_second m) i)
  unfolding effect
  effect-like m i =
      subst (λ (load : ℕ). IsLike (effect_of (with_first m) i (class_of i.op) (loaded S s i.op (address m i))) (effect_of (with_second m) i (class_of i.op) load))
      (loaded-like i.op (address m i)) (by_class m i (class_of i.op) (loaded S s i.op (address m i)))

  fetched-like : (m : Machine) → fetched S (with_first m) ≡ fetched S (with_second m)
  fetched-like m = word-like m.pc

  word_cause-like : (m : Machine) (w : ℕ) (o : Option Instruction) → word_cause S (with_first m) w o ≡ word_cause S (with_second m) w o
  unfolding refusal
  word_cause-like m w None = refl
  word_cause-like m w (Some i) = refl

  cause-like : (m : Machine) → cause S (with_first m) ≡ cause S (with_second m)
  unfolding cause
  cause-like m =
      let word : word_cause S (with_first m) (fetched S (with_first m)) (instruction (fetched S (with_first m))) ≡ word_cause S (with_second m) (fetched S (with_second m)) (instruction (fetched S (with_second m))) =
      word_cause-like m (fetched S (with_first m)) (instruction (fetched S (with_first m))) ∙ ap (λ (w : ℕ). word_cause S (with_second m) w (instruction w)) (fetched-like m) in
      ap (λ (o : Option End). first_cause (not (m.pc % 4 == 0)) MisalignedPc (first_cause (not (is_open S Fetch m.pc 4)) (denied Fetch m.pc) o)) word

  next_by : (m : Machine) (o : Option Instruction) → IsLike (option_map_or (effect S (with_first m)) o (with_first m)) (option_map_or (effect S (with_second m)) o (with_second m))
  next_by m None = record { pc = refl; regs = refl; stored = same }
  next_by m (Some i) = effect-like m i

  next-like : (m : Machine) → IsLike (next S (with_first m)) (next S (with_second m))
  unfolding next
  next-like m =
      subst (λ (w : ℕ). IsLike (option_map_or (effect S (with_first m)) (instruction (fetched S (with_first m))) (with_first m)) (option_map_or (effect S (with_second m)) (instruction w) (with_second m)))
      (fetched-like m) (next_by m (instruction (fetched S (with_first m))))

-- machines that are alike run alike
pub run-like : (S : Program) (n : ℕ) (m o : Machine) → IsLike m o → run S n m ≡ run S n o
unfolding run
run-like S zero m o like = λ i. record { done = []; end = Budget; pc = like.pc i; regs = like.regs i }
run-like S (suc n) m o like =
    let other : Machine = record m { stored = o.stored } in
    let rest : run S n (next S m) ≡ run S n (next S other) = run-like S n (next S m) (next S other) (next-like S m.stored o.stored like.stored m) in
    let here : run S (suc n) m ≡ run S (suc n) other = λ i. option_map_or (ended m) (cause-like S m.stored o.stored like.stored m i) (after_steps ((m.pc, fetched-like S m.stored o.stored like.stored m i) ∷ []) (rest i)) in
    here ∙ (λ i. run S (suc n) (record { pc = like.pc i; regs = like.regs i; stored = o.stored }))

-- what a step makes of a run
pub run-done : (S : Program) (n : ℕ) (old new : Machine) (w : ℕ) → IsStep S old new (Done w) → run S (suc n) old ≡ after_steps ((old.pc, w) ∷ []) (run S n new)
unfolding run
run-done S n old new w step =
    ap (λ (o : Option End). option_map_or (ended old) o (after_steps ((old.pc, fetched S old) ∷ []) (run S n (next S old)))) step.0
    ∙ (λ i. after_steps ((old.pc, sym step.1 i) ∷ []) (run-like S n (next S old) new step.2 i))

pub run-ended : (S : Program) (n : ℕ) (old new : Machine) (e : End) → IsStep S old new (Ended e) → run S (suc n) old ≡ ended new e
unfolding run
run-ended S n old new e step =
    ap (λ (o : Option End). option_map_or (ended old) o (after_steps ((old.pc, fetched S old) ∷ []) (run S n (next S old)))) step.0
    ∙ ap (λ (m : Machine). ended m e) (sym step.1)

pub run-zero : (S : Program) (m : Machine) → run S 0 m ≡ ended m Budget
unfolding run
run-zero S m = refl

-- steps before steps
pub after_steps-append : (xs ys : List (ℕ × ℕ)) (r : Run) → after_steps xs (after_steps ys r) ≡ after_steps (xs ++ ys) r
after_steps-append xs ys r = λ i. record { done = sym (append_assoc xs ys r.done) i; end = r.end; pc = r.pc; regs = r.regs }

-- what an instruction of a class does
pub effect-class : (S : Program) (m : Machine) (i : Instruction) (c : Class) → class_of i.op ≡ c → effect S m i ≡ effect_of m i c (loaded S m.stored i.op (address m i))
unfolding effect
effect-class S m i c is = ap (λ (k : Class). effect_of m i k (loaded S m.stored i.op (address m i))) is

like_same : (m n : Machine) → m ≡ n → IsLike m n
like_same m n e = record { pc = ap (λ (x : Machine). x.pc) e; regs = ap (λ (x : Machine). x.regs) e; stored = λ a. ap (λ (x : Machine). newest x.stored a) e }

pub does : (S : Program) (m n : Machine) (i : Instruction) (c : Class) → class_of i.op ≡ c → n ≡ effect_of m i c (loaded S m.stored i.op (address m i)) → IsLike (effect S m i) n
does S m n i c is e = like_same (effect S m i) n (effect-class S m i c is ∙ sym e)

pub does_like : (S : Program) (m n : Machine) (i : Instruction) (c : Class) → class_of i.op ≡ c → IsLike (effect_of m i c (loaded S m.stored i.op (address m i))) n → IsLike (effect S m i) n
does_like S m n i c is like = subst (λ (x : Machine). IsLike x n) (sym (effect-class S m i c is)) like

-- a step that is done
pub step_done : (S : Program) (old new : Machine) (w : ℕ) (i : Instruction) → w ≡ fetched S old → cause S old ≡ word_cause S old w (instruction w) → Some i ≡ instruction w → None ≡ refusal S old i → IsLike (effect S old i) new → IsStep S old new (Done w)
unfolding next
step_done S old new w i word goes_on decodes allowed like = (
  goes_on ∙ ap (word_cause S old w) (sym decodes) ∙ sym allowed,
  word,
  subst (λ (o : Option Instruction). IsLike (option_map_or (effect S old) o old) new) (decodes ∙ ap instruction word) like,
)

-- a step in a run: with what is done before, and the steps that are left
pub more_done : (S : Program) (n i : ℕ) (whole : Run) (steps : List (ℕ × ℕ)) (old new : Machine) (w : ℕ) → i < n → whole ≡ after_steps steps (run S (n - i) old) → IsStep S old new (Done w) → whole ≡ after_steps (steps ++ (old.pc, w) ∷ []) (run S (n - (i + 1)) new)
more_done S n i whole steps old new w less before step =
    before
    ∙ ap (λ (k : ℕ). after_steps steps (run S k old)) (let e : n - i ≡ suc (n - (i + 1)) = omega (arith, less) in e)
    ∙ ap (after_steps steps) (run-done S (n - (i + 1)) old new w step)
    ∙ after_steps-append steps ((old.pc, w) ∷ []) (run S (n - (i + 1)) new)

pub ends_there : (S : Program) (n i : ℕ) (whole : Run) (steps : List (ℕ × ℕ)) (old new : Machine) (e : End) → i < n → whole ≡ after_steps steps (run S (n - i) old) → IsStep S old new (Ended e) → after_steps steps (ended new e) ≡ whole
ends_there S n i whole steps old new e less before step =
    sym (before
    ∙ ap (λ (k : ℕ). after_steps steps (run S k old)) (let h : n - i ≡ suc (n - (i + 1)) = omega (arith, less) in h)
    ∙ ap (after_steps steps) (run-ended S (n - (i + 1)) old new e step))

pub ends_done : (S : Program) (n i : ℕ) (whole : Run) (steps : List (ℕ × ℕ)) (m : Machine) → n ≤ i → whole ≡ after_steps steps (run S (n - i) m) → after_steps steps (ended m Budget) ≡ whole
ends_done S n i whole steps m done before =
    sym (before ∙ ap (λ (k : ℕ). after_steps steps (run S k m)) (let h : n - i ≡ 0 = omega (arith, done) in h) ∙ ap (after_steps steps) (run-zero S m))
