-- Lines that the grammar of scripts and event files tells of, computed by the definitions.
use Rattle.std.proofs.Common.{◌≡◌, ℕ, List, [], ◌∷◌, ◌++◌, Ok, Err, true, refl}
use Rattle.std.specs.Prelude.{codes}
use Rattle.rvd_fact.specs.declared.causes.TextCause.TheVariants.{UnknownWord, MissingPart, ExtraPart, BadAddress, BadNumber, BadText}
use Rattle.rvd_fact.specs.declared.keys.Kind.TheVariants as kind
use Rattle.rvd_event.specs.declared.edits.Edit.TheVariants as edit
use Rattle.rvd_event.specs.declared.events.Event.TheVariants as event
use Rattle.rvd_event.specs.declared.queries.Query.TheVariants as query
use Rattle.rvd_script.specs.declared.errors.ScriptError.TheVariants.{Bad}
use Rattle.rvd_script.specs.declared.script_lines.What1.TheVariants.{Call, Ask, Settle}
use Rattle.rvd_script.specs.Lines.{lines_of}
use Rattle.rvd_script.specs.Words.{words_of}
use Rattle.rvd_script.specs.RangeLines.{ranges_of}
use Rattle.rvd_script.specs.EditLines.{body_of, label_of, release_of}
use Rattle.rvd_script.specs.EventLines.{query_of, session_line, worker_line}
use Rattle.rvd_script.specs.Files.{events_of, event_of, head_of}

-- a text between quotes
abbrev in_quotes : List ℕ → List ℕ
in_quotes text = 34 ∷ text ++ 34 ∷ []

label : session_line (words_of (codes "label 10054 " ++ in_quotes (codes "start"))) ≡ Ok (Call (event.Edit (edit.Label 65620 (codes "start"))))
unfolding session_line label_of
label = refl

commit : session_line (words_of (codes " commit  ")) ≡ Ok (Call (event.End true))
unfolding session_line
commit = refl

asked : session_line (words_of (codes "ask name 0x00010054")) ≡ Ok (Ask (query.Name 65620))
unfolding session_line query_of
asked = refl

body : session_line (words_of (codes "body 10060 10058-1005f 10054-10057 10060-10063")) ≡ Ok (Call (event.Edit (edit.Body 65632 ((65620, 65635) ∷ []))))
unfolding session_line body_of ranges_of
body = refl

release : session_line (words_of (codes "release unit 1005c 0")) ≡ Ok (Call (event.Edit (edit.Release kind.Unit 65628 0)))
unfolding session_line release_of
release = refl

settle : worker_line (words_of (codes "settle 064")) ≡ Ok (Settle 64)
unfolding worker_line
settle = refl

-- each cause once
unknown : session_line (words_of (codes "close")) ≡ Err UnknownWord
unfolding session_line
unknown = refl

missing : session_line (words_of (codes "body 10060")) ≡ Err MissingPart
unfolding session_line body_of ranges_of
missing = refl

extra : session_line (words_of (codes "undo 1")) ≡ Err ExtraPart
unfolding session_line
extra = refl

bad_address : session_line (words_of (codes "mark 123456789")) ≡ Err BadAddress
unfolding session_line
bad_address = refl

bad_number : worker_line (words_of (codes "take 65")) ≡ Err BadNumber
unfolding worker_line
bad_number = refl

bad_text : session_line (words_of (codes "begin " ++ 34 ∷ codes "x y")) ≡ Err BadText
unfolding session_line
bad_text = refl

-- a carriage return directly before a line feed is no part of the line, and one elsewhere is
ends : lines_of (codes "a" ++ 13 ∷ 10 ∷ 13 ∷ 13 ∷ 10 ∷ codes "b" ++ 13 ∷ []) ≡ codes "a" ∷ (13 ∷ []) ∷ (codes "b" ++ 13 ∷ []) ∷ []
ends = refl

-- a quoted word runs to its closing quote and on to the next space
quoted : words_of (codes "  a " ++ in_quotes (codes "b c") ++ codes "d  e ") ≡ codes "a" ∷ (in_quotes (codes "b c") ++ codes "d") ∷ codes "e" ∷ []
quoted = refl

-- a worker's number comes behind those of the sessions
event_file : events_of (codes "# one" ++ 10 ∷ codes "events 02 1" ++ 10 ∷ 10 ∷ codes "w1 take 4" ++ 10 ∷ codes "s2 close" ++ 10 ∷ [])
    ≡ Ok (record { sessions = 2; workers = 1; lines = record { line = 4; actor = 3; what = Call (event.Take 4) } ∷ record { line = 5; actor = 2; what = Call event.Close } ∷ [] })
unfolding events_of event_of head_of worker_line session_line
event_file = refl

no_actor : events_of (codes "events 1 1" ++ 10 ∷ codes "s0 read") ≡ Err (Bad 2 UnknownWord)
unfolding events_of event_of head_of
no_actor = refl

no_line : events_of (codes "#" ++ 10 ∷ codes " ") ≡ Err (Bad 1 MissingPart)
unfolding events_of
no_line = refl
