-- The ranges of a reply's parts: those that the types of an entry keep where the machine leaves a choice, in the verdicts of
-- an offer. Use `is_reply` as the premise of whatever is said of every reply.
use Rattle.std.specs.Prelude.{ℕ, Bool, true, ◌&&◌, nat_lt, List, Option, Some, None}
use Rattle.std.specs.List.{list_all}
use Rattle.rvd_fact.specs.declared.keys.Key.{Key}
use Rattle.rvd_fact.specs.declared.values.Form.{Form}
use Rattle.rvd_fact.specs.declared.values.Form.TheVariants.{Str}
use Rattle.rvd_fact.specs.declared.values.RefClass.{RefClass}
use Rattle.rvd_fact.specs.declared.values.Value.{Value}
use Rattle.rvd_fact.specs.declared.values.Value.TheVariants as value
use Rattle.rvd_fact.specs.declared.cells.Cell.{Cell}
use Rattle.rvd_fact.specs.Ranges.{is_range_set}
use Rattle.rvd_fact.specs.Valid.{is_address, are_bytes, is_text}
use Rattle.rvd_ask.specs.declared.asks.Ask.{Ask}
use Rattle.rvd_ask.specs.declared.asks.Ask.TheVariants as ask
use Rattle.rvd_ask.specs.declared.answers.Answer.{Answer}
use Rattle.rvd_ask.specs.declared.answers.Answer.TheVariants as answer
use Rattle.rvd_event.specs.declared.replies.Reply.{Reply}
use Rattle.rvd_event.specs.declared.replies.Reply.TheVariants.{Verdicts}
use Rattle.rvd_event.specs.declared.verdicts.Verdict.{Verdict}
use Rattle.rvd_event.specs.declared.verdicts.Verdict.TheVariants.{Joined, Stale, Foreign}
use Rattle.rvd_journal.specs.Entries.{is_word}

-- whether a number is one of 8 bits, and whether it is one of 16
abbrev pub is_small : ℕ → Bool
is_small n = nat_lt n 256

abbrev pub is_half : ℕ → Bool
is_half n = nat_lt n 65536

-- an ask's parts
abbrev pub is_key : Key → Bool
is_key k = is_address k.at && is_small k.sub

abbrev pub is_ask : Ask → Bool
is_ask (ask.Cell k) = is_key k
is_ask (ask.Cover a) = is_address a
is_ask (ask.Block a) = is_address a
is_ask (ask.Bytes a n) = is_address a && is_half n
is_ask (ask.To a class) = is_address a
is_ask (ask.From a) = is_address a

-- an answer's parts
abbrev pub is_form : Form → Bool
is_form (Str n) = is_half n
is_form f = true

abbrev pub are_some_bytes : Option (List ℕ) → Bool
are_some_bytes None = true
are_some_bytes (Some bytes) = are_bytes bytes

abbrev pub is_value : Value → Bool
is_value (value.Block len perm bytes) = is_word len && are_some_bytes bytes
is_value (value.Body ranges) = is_range_set ranges
is_value (value.Symbol name) = is_text name
is_value (value.Comment text) = is_text text
is_value (value.Bookmark text) = is_text text
is_value (value.Code word) = is_word word
is_value (value.Plain form) = is_form form
is_value (value.Ref to class) = is_address to
is_value v = true

abbrev pub is_some_cell : Option Cell → Bool
is_some_cell None = true
is_some_cell (Some c) = is_value c.value

abbrev pub is_some_address : Option ℕ → Bool
is_some_address None = true
is_some_address (Some a) = is_address a

abbrev pub is_reference : ℕ × RefClass × ℕ → Bool
is_reference r = is_small r.0 && is_address r.2

abbrev pub is_answer : Answer → Bool
is_answer (answer.Cell c) = is_some_cell c
is_answer (answer.At a) = is_some_address a
is_answer (answer.Bytes bytes) = are_some_bytes bytes
is_answer (answer.Yes b) = true
is_answer (answer.Refs refs) = list_all is_reference refs

-- a verdict's parts
abbrev pub is_verdict : Verdict → Bool
is_verdict (Joined k) = is_word k
is_verdict (Stale ask was now) = is_ask ask && (is_answer was && is_answer now)
is_verdict (Foreign ask said was) = is_ask ask && (is_answer said && is_answer was)
is_verdict v = true

-- whether a reply's parts are in their ranges
abbrev pub is_reply : Reply → Bool
is_reply (Verdicts verdicts) = list_all is_verdict verdicts
is_reply r = true
