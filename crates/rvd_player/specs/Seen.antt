-- What the sessions of a run see, and what is answered to their queries. A query is answered on the program of its session's
-- latest read, or on the program at the start where it has read none. Use `seen_after` for what entries let sessions see, and
-- `answers_of` for the answers to the queries among lines.
use Rattle.std.specs.Prelude.{ℕ, ◌-◌, List, [], ◌∷◌, ◌++◌, Option, Some, None, slice_index_or, slice_set}
use Rattle.rvd_fact.specs.Program.{Program}
use Rattle.rvd_journal.specs.declared.entries.Entry.{Entry}
use Rattle.rvd_machine.specs.State.{State}
use Rattle.rvd_machine.specs.Steps.{after, state_from}
use Rattle.rvd_desk.specs.declared.snapshots.Snapshot.{Snapshot}
use Rattle.rvd_desk.specs.Shown.{shown_by}
use Rattle.rvd_query.specs.Reply.{reply as text_of}
use Rattle.rvd_report.specs.declared.answer_lines.Answered.{Answered}
use Rattle.rvd_script.specs.declared.script_lines.EventLine.{EventLine}
use Rattle.rvd_script.specs.declared.script_lines.What1.{What1}
use Rattle.rvd_script.specs.declared.script_lines.What1.TheVariants.{Call, Ask, Settle}

-- for each session, the latest read
abbrev pub Seen : Type 0
Seen = List (Option Snapshot)

abbrev pub seen_with : Seen → ℕ → Option Snapshot → Seen
seen_with seen actor None = seen
seen_with seen actor (Some x) = slice_set seen (actor - 1) (Some x)

-- what sessions see after entries
abbrev pub seen_after : State → Seen → List Entry → Seen
seen_after s seen [] = seen
seen_after s seen (e ∷ es) = seen_after (after s e) (seen_with seen e.actor (shown_by s e.event e.reply)) es

-- the program that a session sees, where P is the one at the start
abbrev pub program_or : Program → Option Snapshot → Program
program_or P None = P
program_or P (Some x) = x.program

abbrev pub program_seen : Program → Seen → ℕ → Program
program_seen P seen actor = program_or P (slice_index_or seen (actor - 1) None)

-- a line is a query
abbrev pub IsAsk : What1 → Type 0
IsAsk (Call e) = ⊥
IsAsk (Ask query) = Unit {0}
IsAsk (Settle n) = ⊥

-- the answer to a line, where it is a query
abbrev pub answer_to : Program → Seen → EventLine → What1 → List Answered
answer_to P seen l (Call e) = []
answer_to P seen l (Ask query) = record { session = l.actor; line = l.line; answer = text_of (program_seen P seen l.actor) query } ∷ []
answer_to P seen l (Settle n) = []

-- the answers to lines in order, where each list of entries is that of its line
abbrev pub answers_of : Program → State → Seen → List EventLine → List (List Entry) → List Answered
answers_of P s seen [] parts = []
answers_of P s seen (l ∷ lines) [] = []
answers_of P s seen (l ∷ lines) (part ∷ parts) =
    answer_to P seen l l.what ++ answers_of P (state_from s part) (seen_after s seen part) lines parts
