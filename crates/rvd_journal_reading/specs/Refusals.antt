-- A refusal at the front of a text. Use `refusal_of`.
use Rattle.std.specs.Prelude.{ℕ, ◌^◌, ◌<◌, List, [], ◌∷◌, Some, codes}
use Rattle.rvd_fact.specs.declared.keys.Key.{Key}
use Rattle.rvd_event.specs.declared.edits.EditRefusal.{EditRefusal}
use Rattle.rvd_event.specs.declared.edits.EditRefusal.TheVariants.{LeavesSpace, BlockOverlap, BlocksFull, Unaligned, NoBlock, NoBytes, Overlap, BadInstruction, NoSuch, Present, SlotsFull}
use Rattle.rvd_event.specs.declared.replies.Refusal.{Refusal}
use Rattle.rvd_event.specs.declared.replies.Refusal.TheVariants.{NoSession, NoTransaction, TooManyEntries, TransactionOpen, NothingToUndo, NothingToRedo, HasEntry, Cancelled, Misfit, Edit}
use Rattle.rvd_reading.specs.Steps.{◌>>=◌, Step}
use Rattle.rvd_reading.specs.Fixed.{choose, just, nothing}
use Rattle.rvd_reading.specs.Numbers.{number_of}
use Rattle.rvd_reading.specs.Keys.{key_of}
use Rattle.rvd_journal_reading.specs.Asks.{at_of}

-- what is made of a key, and of a number
abbrev pub keyed : {A : Type 0} → (Key → A) → List ℕ → Step A
keyed make bytes = key_of bytes >>= (λ k. Some (make k.0, k.1))

abbrev pub counted : {A : Type 0} → (ℕ → A) → ℕ → List ℕ → Step A
counted make max bytes = number_of max bytes >>= (λ n. Some (make n.0, n.1))

abbrev pub edit_refusals : List (List ℕ × (List ℕ → Step EditRefusal))
edit_refusals =
    (codes "no block ", at_of NoBlock)
    ∷ (codes "unaligned ", at_of Unaligned)
    ∷ (codes "no bytes ", at_of NoBytes)
    ∷ (codes "overlap ", at_of Overlap)
    ∷ (codes "bad instruction ", at_of BadInstruction)
    ∷ (codes "no such ", keyed NoSuch)
    ∷ (codes "present ", keyed Present)
    ∷ (codes "block overlap ", at_of BlockOverlap)
    ∷ (codes "blocks full", just BlocksFull)
    ∷ (codes "leaves space ", at_of LeavesSpace)
    ∷ (codes "slots full ", at_of SlotsFull)
    ∷ []

unfoldable pub edit_refusal_of : List ℕ → Step EditRefusal
edit_refusal_of bytes = choose edit_refusals nothing bytes

abbrev pub refused_edit_of : List ℕ → Step Refusal
refused_edit_of bytes = edit_refusal_of bytes >>= (λ r. Some (Edit r.0, r.1))

abbrev pub refusals : List (List ℕ × (List ℕ → Step Refusal))
refusals =
    (codes "no session", just NoSession)
    ∷ (codes "no transaction", just NoTransaction)
    ∷ (codes "too many entries", just TooManyEntries)
    ∷ (codes "transaction open ", counted TransactionOpen 4294967295)
    ∷ (codes "nothing to undo", just NothingToUndo)
    ∷ (codes "nothing to redo", just NothingToRedo)
    ∷ (codes "has entry ", counted HasEntry 4294967295)
    ∷ (codes "cancelled ", counted Cancelled 18446744073709551615)
    ∷ (codes "misfit ", counted Misfit 4294967295)
    ∷ []

unfoldable pub refusal_of : List ℕ → Step Refusal
refusal_of bytes = choose refusals refused_edit_of bytes

-- the parts of a refusal are in their ranges
abbrev pub FitsEditRefusal : EditRefusal → Type 0
FitsEditRefusal BlocksFull = Unit {0}
FitsEditRefusal (NoSuch k) = (k.at < 2 ^ 32) × (k.sub < 256)
FitsEditRefusal (Present k) = (k.at < 2 ^ 32) × (k.sub < 256)
FitsEditRefusal (LeavesSpace at) = at < 2 ^ 32
FitsEditRefusal (BlockOverlap at) = at < 2 ^ 32
FitsEditRefusal (Unaligned at) = at < 2 ^ 32
FitsEditRefusal (NoBlock at) = at < 2 ^ 32
FitsEditRefusal (NoBytes at) = at < 2 ^ 32
FitsEditRefusal (Overlap at) = at < 2 ^ 32
FitsEditRefusal (BadInstruction word) = word < 2 ^ 32
FitsEditRefusal (SlotsFull at) = at < 2 ^ 32

abbrev pub FitsRefusal : Refusal → Type 0
FitsRefusal (TransactionOpen live) = live < 2 ^ 32
FitsRefusal (HasEntry live) = live < 2 ^ 32
FitsRefusal (Cancelled ticket) = ticket < 2 ^ 64
FitsRefusal (Misfit place) = place < 2 ^ 32
FitsRefusal (Edit refusal) = FitsEditRefusal refusal
FitsRefusal r = Unit {0}
