-- What is printed of a reply, an event and an entry is read back, and the lines at the front of one text are the same. Of a block
-- in a verdict's answers, the text tells all but the bytes.
use Rattle.std.specs.Prelude.{◌≡◌, ℕ, ◌^◌, ◌<◌, true, List, [], ◌∷◌, ◌++◌, Some, codes}
use Rattle.rvd_event.specs.declared.queries.Names.{Names}
use Rattle.rvd_event.specs.declared.events.Event.{Event}
use Rattle.rvd_event.specs.declared.replies.Reply.{Reply}
use Rattle.rvd_journal.specs.declared.entries.Entry.{Entry}
use Rattle.rvd_journal_text.specs.Events.{event_text}
use Rattle.rvd_journal_text.specs.Replies.{reply_text}
use Rattle.rvd_journal_text.specs.Lines.{end_line, entry_line, full_line, head_line}
use Rattle.rvd_line_reading.specs.Replies.{FitsReply, are_formed, bare_reply, has_ended, reply_of}
use Rattle.rvd_line_reading.specs.Events.{FitsEvent, event_of}
use Rattle.rvd_line_reading.specs.Lines.{IsInRange, bare_entry, line_of}
use Rattle.rvd_line_reading.specs.Front.{AreNames}

-- where nothing, a semicolon or a line feed stands behind it
pub record ReplyLaw : Type 0 where
  pub reply : (r : Reply) (rest : List ℕ) → FitsReply r → are_formed r ≡ true → has_ended rest ≡ true → reply_of (reply_text r ++ rest) ≡ Some (bare_reply r, rest)

-- where the sign behind an event follows
pub record EventLaw : Type 0 where
  pub event : (e : Event) (more : List ℕ) → FitsEvent e → event_of (event_text e ++ (codes " = " ++ more)) ≡ Some (e, codes " = " ++ more)

pub record LineLaw : Type 0 where
  pub line : (names : Names) (number : ℕ) (e : Entry) → number < 2 ^ 64 → IsInRange names e → line_of names (entry_line names number e) ≡ Some (number, bare_entry e)
  pub bare : (names : Names) (number : ℕ) (e : Entry) → entry_line names number (bare_entry e) ≡ entry_line names number e

-- two lines at the front of one text: head lines of the same names, lines of entries that differ in no more than the bytes of
-- blocks; and an end line is no entry's
pub record FrontLaw : Type 0 where
  pub head : (a b : Names) (x y : List ℕ) → AreNames a → AreNames b → (head_line a ++ 10 ∷ []) ++ x ≡ (head_line b ++ 10 ∷ []) ++ y → (a ≡ b) × (x ≡ y)
  pub entry : (names : Names) (number : ℕ) (a b : Entry) (x y : List ℕ) → number < 2 ^ 64 → IsInRange names a → IsInRange names b → full_line names (number, a) ++ x ≡ full_line names (number, b) ++ y → (bare_entry a ≡ bare_entry b) × (x ≡ y)
  pub bare : (names : Names) (number : ℕ) (e : Entry) → full_line names (number, bare_entry e) ≡ full_line names (number, e)
  pub bare_range : (names : Names) (e : Entry) → IsInRange names e → IsInRange names (bare_entry e)
  pub apart : (names : Names) (number : ℕ) (e : Entry) (count : ℕ) (x y : List ℕ) → number < 2 ^ 64 → IsInRange names e → full_line names (number, e) ++ x ≡ (end_line count ++ 10 ∷ []) ++ y → ⊥
