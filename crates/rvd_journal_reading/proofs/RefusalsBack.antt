-- Refusals are read back, where no digit stands behind them. Use `refusal_law`.
use Rattle.std.proofs.Common.{◌≡◌, ℕ, ◌^◌, ◌<◌, ◌≤◌, false, List, ◌++◌, Some, refl, ap, arith}
use Rattle.std.specs.Fmt.{decimal}
use Rattle.rvd_text.specs.Hex.{hex8}
use Rattle.rvd_fact.specs.declared.keys.Key.{Key}
use Rattle.rvd_event.specs.declared.edits.EditRefusal.{EditRefusal}
use Rattle.rvd_event.specs.declared.edits.EditRefusal.TheVariants.{LeavesSpace, BlockOverlap, BlocksFull, Unaligned, NoBlock, NoBytes, Overlap, BadInstruction, NoSuch, Present, SlotsFull}
use Rattle.rvd_event.specs.declared.replies.Refusal.{Refusal}
use Rattle.rvd_event.specs.declared.replies.Refusal.TheVariants.{NoSession, NoTransaction, TooManyEntries, TransactionOpen, NothingToUndo, NothingToRedo, HasEntry, Cancelled, Misfit, Edit}
use Rattle.rvd_notation.specs.Words.{key_text}
use Rattle.rvd_reading.specs.Steps.{◌>>=◌, Step}
use Rattle.rvd_reading.specs.Numbers.{begins_with_digit}
use Rattle.rvd_reading.proofs.NumbersBack.{hex8-back, number-back}
use Rattle.rvd_reading.proofs.TextsBack.{key-back}
use Rattle.rvd_journal_text.specs.Replies.{edit_refusal_text, refusal_text}
use Rattle.rvd_journal_reading.specs.Asks.{at_of}
use Rattle.rvd_journal_reading.specs.Laws.{RefusalLaw}
use Rattle.rvd_journal_reading.specs.Refusals.{FitsEditRefusal, FitsRefusal, counted, edit_refusal_of, keyed, refusal_of}

at-back : {A : Type 0} (make : ℕ → A) (at : ℕ) (rest : List ℕ) → at < 2 ^ 32 → at_of make (hex8 at ++ rest) ≡ Some (make at, rest)
at-back {A} make at rest l = ap (λ (o : Step ℕ). o >>= (λ n. let s : Step A = Some (make n.0, n.1) in s)) (hex8-back at rest l)

keyed-back : {A : Type 0} (make : Key → A) (k : Key) (rest : List ℕ) → (k.at < 2 ^ 32) × (k.sub < 256) → begins_with_digit rest ≡ false → keyed make (key_text k ++ rest) ≡ Some (make k, rest)
keyed-back {A} make k rest l none = ap (λ (o : Step Key). o >>= (λ n. let s : Step A = Some (make n.0, n.1) in s)) (key-back k rest l.0 l.1 none)

counted-back : {A : Type 0} (make : ℕ → A) (max n : ℕ) (rest : List ℕ) → n ≤ max → n < 2 ^ 64 → begins_with_digit rest ≡ false → counted make max (decimal n ++ rest) ≡ Some (make n, rest)
counted-back {A} make max n rest within small none = ap (λ (o : Step ℕ). o >>= (λ m. let s : Step A = Some (make m.0, m.1) in s)) (number-back max n rest within small none)

-- a refused edit in its refusal
abbrev in_refusal : Step EditRefusal → Step Refusal
in_refusal o = o >>= (λ e. Some (Edit e.0, e.1))

-- a refused edit begins with no word of another refusal
refused_edit-back : (r : EditRefusal) (rest : List ℕ) → FitsEditRefusal r → begins_with_digit rest ≡ false → refusal_of (edit_refusal_text r ++ rest) ≡ Some (Edit r, rest)
unfolding refusal_of edit_refusal_of edit_refusal_text
refused_edit-back (NoBlock at) rest fits none = ap in_refusal (at-back NoBlock at rest fits)
refused_edit-back (Unaligned at) rest fits none = ap in_refusal (at-back Unaligned at rest fits)
refused_edit-back (NoBytes at) rest fits none = ap in_refusal (at-back NoBytes at rest fits)
refused_edit-back (Overlap at) rest fits none = ap in_refusal (at-back Overlap at rest fits)
refused_edit-back (BadInstruction word) rest fits none = ap in_refusal (at-back BadInstruction word rest fits)
refused_edit-back (NoSuch k) rest fits none = ap in_refusal (keyed-back NoSuch k rest fits none)
refused_edit-back (Present k) rest fits none = ap in_refusal (keyed-back Present k rest fits none)
refused_edit-back (BlockOverlap at) rest fits none = ap in_refusal (at-back BlockOverlap at rest fits)
refused_edit-back BlocksFull rest fits none = refl
refused_edit-back (LeavesSpace at) rest fits none = ap in_refusal (at-back LeavesSpace at rest fits)
refused_edit-back (SlotsFull at) rest fits none = ap in_refusal (at-back SlotsFull at rest fits)

refusal-back : (r : Refusal) (rest : List ℕ) → FitsRefusal r → begins_with_digit rest ≡ false → refusal_of (refusal_text r ++ rest) ≡ Some (r, rest)
unfolding refusal_of refusal_text
refusal-back NoSession rest fits none = refl
refusal-back NoTransaction rest fits none = refl
refusal-back TooManyEntries rest fits none = refl
refusal-back (TransactionOpen live) rest fits none = counted-back TransactionOpen 4294967295 live rest (omega (arith, fits)) (omega (arith, fits)) none
refusal-back NothingToUndo rest fits none = refl
refusal-back NothingToRedo rest fits none = refl
refusal-back (HasEntry live) rest fits none = counted-back HasEntry 4294967295 live rest (omega (arith, fits)) (omega (arith, fits)) none
refusal-back (Cancelled ticket) rest fits none = counted-back Cancelled 18446744073709551615 ticket rest (omega (arith, fits)) (omega (arith, fits)) none
refusal-back (Misfit place) rest fits none = counted-back Misfit 4294967295 place rest (omega (arith, fits)) (omega (arith, fits)) none
refusal-back (Edit refusal) rest fits none = refused_edit-back refusal rest fits none

pub refusal_law : RefusalLaw
refusal_law = record { refusal = refusal-back }
