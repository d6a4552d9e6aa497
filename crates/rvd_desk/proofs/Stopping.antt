-- A desk that is stopped where a call failed. Use `failed_stops` for its cause, and `failed_unmade` for what stands then.
use Rattle.std.proofs.Common.{◌≡◌, ℕ, ◌+◌, ◌<◌, ◌≤◌, true, false, List, length, take, Some, sym, ap, ◌∙◌, subst, arith}
use Rattle.std.proofs.lemmas.List.{take_all}
use Rattle.rvd_event.specs.declared.events.Event.{Event}
use Rattle.rvd_journal.specs.declared.entries.Entry.{Entry}
use Rattle.rvd_machine.specs.Steps.{IsLegal, LegalIsBounded, has_room, kept_rooms, max_entries, state}
use Rattle.rvd_desk.specs.declared.answers.DeskError.{DeskError}
use Rattle.rvd_desk.specs.declared.answers.DeskError.TheVariants.{Refused, JournalFull, Stopped, OutOfMemory}
use Rattle.rvd_desk.specs.declared.answers.Halt.TheVariants.{Full}
use Rattle.rvd_desk.specs.Calls.{Failed, MayStopAfter, halt_after, is_refusal}
use Rattle.rvd_desk.specs.Story.{IsStoppedFor, MayStop, Story, state_of}
use Rattle.rvd_desk.specs.Turns.{SameStory, Unmade}
use Rattle.rvd_desk.proofs.Rooms.{no_room}

-- a journal without room for an event is one for which the desk may be stopped
full_stops : LegalIsBounded → (d : Story) (a n : ℕ) (e : Event) → IsLegal d.head d.journal → n ≡ length d.journal → has_room (state_of d) a e ≡ false → MayStop d (Full n)
full_stops bounds d a n e legal is none =
    let counted = (bounds d.head d.journal legal).count in
    let few = no_room (state_of d) a e none in
    let whole : take n d.journal ≡ d.journal = take_all n d.journal (omega (arith, is)) in (
      omega (arith, is),
      subst (λ (J : List Entry). max_entries < n + kept_rooms (state d.head J) + 2) (sym whole) (omega (arith, is, counted, few)),
    )

pub failed_stops : LegalIsBounded → (old new : Story) (a : ℕ) (e : Event) (error : DeskError) → IsLegal old.head old.journal → Failed old new a e error → MayStopAfter new error
failed_stops bounds old new a e (Refused r) legal failed = tt
failed_stops bounds old new a e (JournalFull n) legal failed = subst (λ (d : Story). MayStop d (Full n)) (sym failed.0) (full_stops bounds old a n e legal failed.2 failed.4)
failed_stops bounds old new a e (Stopped halt) legal failed = tt
failed_stops bounds old new a e OutOfMemory legal failed = tt

-- the desk that is then stopped tells the story that it told
still : (old mid new : Story) (error : DeskError) → mid ≡ old → new ≡ record mid { halt = halt_after mid.halt error } → SameStory old new
still old mid new error same stopped = (
  ap (λ (d : Story). d.head) stopped ∙ ap (λ (d : Story). d.head) same,
  ap (λ (d : Story). d.journal) stopped ∙ ap (λ (d : Story). d.journal) same,
)

pub failed_unmade : (old mid new : Story) (a : ℕ) (e : Event) (error : DeskError) → IsStoppedFor old old.halt → is_refusal error ≡ false → Failed old mid a e error → new ≡ record mid { halt = halt_after mid.halt error }
    → Unmade old new a e error
failed_unmade old mid new a e (Refused r) cause journaled failed stopped = absurd (let h : true ≡ false = journaled in cc)
failed_unmade old mid new a e (JournalFull n) cause journaled failed stopped = (still old mid new (JournalFull n) failed.0 stopped, failed.2, failed.4)
failed_unmade old mid new a e (Stopped halt) cause journaled failed stopped = (still old mid new (Stopped halt) failed.0 stopped, subst (IsStoppedFor old) failed.1 cause)
failed_unmade old mid new a e OutOfMemory cause journaled failed stopped = (still old mid new OutOfMemory failed.0 stopped, failed.1)
