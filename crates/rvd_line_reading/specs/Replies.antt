-- A reply at the front of a text: `reply_of`, and what it takes for the parts of one to be in their ranges: `FitsReply`.
use Rattle.std.specs.Prelude.{ℕ, ◌^◌, ◌<◌, Bool, true, ◌==◌, ◌||◌, List, [], ◌∷◌, length, map, Some, if◌then◌else◌, codes}
use Rattle.std.specs.List.{AllByRecursion, list_all}
use Rattle.rvd_ask.specs.declared.asks.Item.{Item}
use Rattle.rvd_event.specs.declared.verdicts.Verdict.{Verdict}
use Rattle.rvd_event.specs.declared.replies.Reply.{Reply}
use Rattle.rvd_event.specs.declared.replies.Reply.TheVariants.{Entry, Changed, Waiting, Committed, RolledBack, StepNo, At, SettledAt, Voided, Closed, Job, Verdicts, Refused}
use Rattle.rvd_event.specs.Verdicts.{has_forms}
use Rattle.rvd_reading.specs.Steps.{◌>>=◌, Step, behind}
use Rattle.rvd_reading.specs.Fixed.{analyzers, choose, fixed, just}
use Rattle.rvd_reading.specs.Numbers.{hex8_of, number_of}
use Rattle.rvd_reading.specs.Lists.{list_of}
use Rattle.rvd_journal_reading.specs.Refusals.{FitsRefusal, counted, refusal_of}
use Rattle.rvd_journal_reading.specs.Verdicts.{FitsVerdict, bare_verdict, verdict_of}

-- an item: its analyzer and its address
unfoldable pub item_of : List ℕ → Step Item
item_of bytes = do
  analyzer ← fixed analyzers bytes
  colon ← behind (codes ":") analyzer.1
  at ← hex8_of colon.1
  Some (record { analyzer = analyzer.0; at = at.0 }, at.1)

-- items, each with a space before it
unfoldable pub items_of : List ℕ → Step (List Item)
items_of bytes = list_of (length bytes) (codes " ") item_of bytes

abbrev pub job_of : List ℕ → Step Reply
job_of bytes = number_of 18446744073709551615 bytes >>= (λ n. items_of n.1 >>= (λ is. Some (Job n.0 is.0, is.1)))

-- verdicts, each with a space before it
unfoldable pub more_verdicts_of : List ℕ → Step (List Verdict)
more_verdicts_of bytes = list_of (length bytes) (codes " ") verdict_of bytes

abbrev pub some_verdicts_of : List ℕ → Step (List Verdict)
some_verdicts_of bytes = verdict_of bytes >>= (λ v. more_verdicts_of v.1 >>= (λ vs. Some (v.0 ∷ vs.0, vs.1)))

-- whether a reply has ended: nothing is left, or a semicolon or a line feed comes first
abbrev pub has_ended : List ℕ → Bool
has_ended [] = true
has_ended (c ∷ cs) = c == 59 || c == 10

-- verdicts with a space between two of them, of which there may be none
abbrev pub verdicts_of : List ℕ → Step (List Verdict)
verdicts_of bytes = if has_ended bytes then Some ([], bytes) else some_verdicts_of bytes

abbrev pub judged_of : List ℕ → Step Reply
judged_of bytes = verdicts_of bytes >>= (λ vs. Some (Verdicts vs.0, vs.1))

abbrev pub refused_of : List ℕ → Step Reply
refused_of bytes = refusal_of bytes >>= (λ r. Some (Refused r.0, r.1))

abbrev pub replies : List (List ℕ × (List ℕ → Step Reply))
replies =
    (codes "entry ", counted Entry 18446744073709551615)
    ∷ (codes "changed ", counted Changed 4294967295)
    ∷ (codes "waiting ", counted Waiting 4294967295)
    ∷ (codes "committed ", counted Committed 18446744073709551615)
    ∷ (codes "rolled back", just RolledBack)
    ∷ (codes "step ", counted StepNo 18446744073709551615)
    ∷ (codes "at ", counted At 18446744073709551615)
    ∷ (codes "settled ", counted SettledAt 18446744073709551615)
    ∷ (codes "voided", just Voided)
    ∷ (codes "closed ", counted Closed 4294967295)
    ∷ (codes "job ", job_of)
    ∷ (codes "refused ", refused_of)
    ∷ []

unfoldable pub reply_of : List ℕ → Step Reply
reply_of bytes = choose replies judged_of bytes

-- the parts of a reply are in their ranges
abbrev pub FitsItem : Item → Type 0
FitsItem item = item.at < 2 ^ 32

abbrev pub FitsReply : Reply → Type 0
FitsReply (Entry number) = number < 2 ^ 64
FitsReply (Changed changes) = changes < 2 ^ 32
FitsReply (Waiting live) = live < 2 ^ 32
FitsReply (Committed step) = step < 2 ^ 64
FitsReply (StepNo step) = step < 2 ^ 64
FitsReply (At steps) = steps < 2 ^ 64
FitsReply (SettledAt step) = step < 2 ^ 64
FitsReply (Closed aborted) = aborted < 2 ^ 32
FitsReply (Job ticket items) = (ticket < 2 ^ 64) × AllByRecursion FitsItem items
FitsReply (Verdicts verdicts) = AllByRecursion FitsVerdict verdicts
FitsReply (Refused refusal) = FitsRefusal refusal
FitsReply r = Unit {0}

-- whether each answer of a reply's verdicts has the form of its ask
abbrev pub are_formed : Reply → Bool
are_formed (Verdicts verdicts) = list_all has_forms verdicts
are_formed r = true

-- what the text of a reply tells of it: all but the bytes of blocks
abbrev pub bare_reply : Reply → Reply
bare_reply (Verdicts verdicts) = Verdicts (map bare_verdict verdicts)
bare_reply r = r
