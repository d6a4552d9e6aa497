-- Lines of worked examples, as the definitions give them.
use Rattle.std.proofs.Common.{◌≡◌, refl, List, ℕ, [], ◌∷◌, ◌++◌, Some, None, codes, arith}
use Rattle.std.specs.Fmt.{decimal}
use Rattle.std.proofs.lemmas.Fmt.{decimal_digit, decimal_step}
use Rattle.rvd_fact.specs.declared.keys.Kind.TheVariants as kind
use Rattle.rvd_fact.specs.declared.values.Source.TheVariants as source
use Rattle.rvd_fact.specs.declared.values.Value.TheVariants as value
use Rattle.rvd_ask.specs.declared.asks.Analyzer.TheVariants as analyzer
use Rattle.rvd_ask.specs.declared.asks.Ask.TheVariants as ask
use Rattle.rvd_ask.specs.declared.answers.Answer.TheVariants as answer
use Rattle.rvd_event.specs.declared.queries.Names.{Names}
use Rattle.rvd_event.specs.declared.edits.Edit.TheVariants as edit
use Rattle.rvd_event.specs.declared.edits.EditRefusal.TheVariants as edit_refusal
use Rattle.rvd_event.specs.declared.events.Event.TheVariants as event
use Rattle.rvd_event.specs.declared.replies.Refusal.TheVariants as refusal
use Rattle.rvd_event.specs.declared.replies.Reply.TheVariants as reply
use Rattle.rvd_event.specs.declared.verdicts.Verdict.TheVariants as verdict
use Rattle.rvd_journal.specs.declared.entries.Entry.{Entry}
use Rattle.rvd_notation.specs.Values.{fact_text}
use Rattle.rvd_journal_text.specs.Edits.{edit_text}
use Rattle.rvd_journal_text.specs.Events.{event_text}
use Rattle.rvd_journal_text.specs.Answers.{ask_text, answer_text}
use Rattle.rvd_journal_text.specs.Verdicts.{verdict_text}
use Rattle.rvd_journal_text.specs.Replies.{edit_refusal_text, refusal_text, reply_text}
use Rattle.rvd_journal_text.specs.Lines.{call_text, entry_line, full_line, head_line, journal_text}

abbrev names : Names
names = record { sessions = 1; workers = 1 }

zero_digit : decimal 0 ≡ 48 ∷ []
zero_digit = decimal_digit 0 (omega arith)

one : decimal 1 ≡ 49 ∷ []
one = decimal_digit 1 (omega arith)

two : decimal 2 ≡ 50 ∷ []
two = decimal_digit 2 (omega arith)

three : decimal 3 ≡ 51 ∷ []
three = decimal_digit 3 (omega arith)

four : decimal 4 ≡ 52 ∷ []
four = decimal_digit 4 (omega arith)

five : decimal 5 ≡ 53 ∷ []
five = decimal_digit 5 (omega arith)

six : decimal 6 ≡ 54 ∷ []
six = decimal_digit 6 (omega arith)

seven : decimal 7 ≡ 55 ∷ []
seven = decimal_digit 7 (omega arith)

eight : decimal 8 ≡ 56 ∷ []
eight = decimal_digit 8 (omega arith)

nine : decimal 9 ≡ 57 ∷ []
nine = decimal_digit 9 (omega arith)

eleven : decimal 11 ≡ decimal 1 ++ 49 ∷ []
eleven = decimal_step 11 (omega arith) (omega arith)

sixty_four : decimal 64 ≡ decimal 6 ++ 52 ∷ []
sixty_four = decimal_step 64 (omega arith) (omega arith)

-- a name is set
abbrev labelled : Entry
labelled = record { actor = 1; event = event.Edit (edit.Label 0x10054 (codes "start")); reply = reply.Changed 1; settled = None }

line-labelled : entry_line names 2 labelled ≡ codes "2 s1 label 00010054 \"start\" = changed 1"
unfolding entry_line call_text event_text edit_text reply_text
line-labelled = rw (two, one) refl

-- an analyst made a datum where the offer had found none
abbrev outrun : Entry
outrun = record { actor = 2; event = event.Offer 1; reply = reply.Verdicts (verdict.Stale (ask.Cover 0x1005d) (answer.At None) (answer.At (Some 0x1005d)) ∷ []); settled = None }

line-outrun : entry_line names 6 outrun ≡ codes "6 w1 offer 1 = stale cover 0001005d none 0001005d"
unfolding entry_line call_text event_text reply_text verdict_text ask_text answer_text
line-outrun = rw (six, one) refl

-- the last offer of an analysis
abbrev settling : Entry
settling = record { actor = 2; event = event.Offer 5; reply = reply.Verdicts (verdict.Nothing ∷ verdict.Nothing ∷ verdict.Joined 1 ∷ []); settled = Some 7 }

line-settling : entry_line names 11 settling ≡ codes "11 w1 offer 5 = nothing nothing joined 1; settled 7"
unfolding entry_line call_text event_text reply_text verdict_text
line-settling = rw (eleven, one, five, seven) refl

-- a job of six items
abbrev job : Entry
job = record {
  actor = 2;
  event = event.Take 64;
  reply = reply.Job 4 (
      record { analyzer = analyzer.Flow; at = 0x10058 }
      ∷ record { analyzer = analyzer.Flow; at = 0x10060 }
      ∷ record { analyzer = analyzer.Refs; at = 0x10060 }
      ∷ record { analyzer = analyzer.Refs; at = 0x10064 }
      ∷ record { analyzer = analyzer.Funcs; at = 0x10060 }
      ∷ record { analyzer = analyzer.Body; at = 0x10060 }
      ∷ []
      );
  settled = None;
}

line-job : entry_line names 8 job ≡ codes "8 w1 take 64 = job 4 flow:00010058 flow:00010060 refs:00010060 refs:00010064 funcs:00010060 body:00010060"
unfolding entry_line call_text event_text reply_text
line-job = rw (eight, one, sixty_four, six, four) refl

-- a function that an earlier item of the offer has made
abbrev beaten : Entry
beaten = record {
  actor = 2;
  event = event.Offer 4;
  reply = reply.Verdicts (
      verdict.Nothing
      ∷ verdict.Joined 1
      ∷ verdict.Stale (ask.Cell (record { at = 0x10060; kind = kind.Func; sub = 0 })) (answer.Cell None) (answer.Cell (Some (record { source = source.Analysis; value = value.Func })))
      ∷ []
      );
  settled = None;
}

line-beaten : entry_line names 9 beaten ≡ codes "9 w1 offer 4 = nothing joined 1 stale cell func 00010060 0 none [analysis func]"
unfolding entry_line call_text event_text reply_text verdict_text ask_text answer_text fact_text
line-beaten = rw (nine, one, four, zero_digit) refl

-- a function that is there already
refused-present : reply_text (reply.Refused (refusal.Edit (edit_refusal.Present (record { at = 0x10060; kind = kind.Func; sub = 0 })))) ≡ codes "refused present func 00010060 0"
unfolding reply_text refusal_text edit_refusal_text
refused-present = rw zero_digit refl

-- an analysis that is cancelled while a job is out
abbrev cancelled : List Entry
cancelled =
    record { actor = 1; event = event.Full; reply = reply.StepNo 1; settled = None }
    ∷ record { actor = 2; event = event.Take 1; reply = reply.Job 1 (record { analyzer = analyzer.Flow; at = 0x10054 } ∷ []); settled = None }
    ∷ record { actor = 1; event = event.Cancel; reply = reply.StepNo 2; settled = None }
    ∷ record { actor = 2; event = event.Offer 1; reply = reply.Refused (refusal.Cancelled 1); settled = None }
    ∷ record { actor = 1; event = event.Wait; reply = reply.Voided; settled = None }
    ∷ []

abbrev line_end : List ℕ
line_end = 10 ∷ []

journal-cancelled : journal_text names cancelled ≡ codes "journal 1 1 1" ++ line_end
    ++ codes "1 s1 full = step 1" ++ line_end
    ++ codes "2 w1 take 1 = job 1 flow:00010054" ++ line_end
    ++ codes "3 s1 cancel = step 2" ++ line_end
    ++ codes "4 w1 offer 1 = refused cancelled 1" ++ line_end
    ++ codes "5 s1 wait = voided" ++ line_end
    ++ codes "end 5" ++ line_end
unfolding journal_text head_line full_line entry_line call_text event_text reply_text refusal_text
journal-cancelled = rw (one, two, three, four, five) refl
