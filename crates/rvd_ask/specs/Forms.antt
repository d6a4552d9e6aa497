-- Which answers have the form of an ask. Use `has_form` as the promise of whatever pairs an ask with an
-- answer: a list of reads, and a verdict.
use Rattle.std.specs.Prelude.{Bool, true, false, ◌&&◌, nat_lt, ◌==◌, length, Some, None}
use Rattle.rvd_ask.specs.declared.asks.Ask.{Ask}
use Rattle.rvd_ask.specs.declared.asks.Ask.TheVariants as ask
use Rattle.rvd_ask.specs.declared.answers.Answer.{Answer}
use Rattle.rvd_ask.specs.declared.answers.Answer.TheVariants as answer

-- an answer of the ask's kind; for bytes nothing, or as many bytes as are asked for and at least one
abbrev pub has_form : Ask → Answer → Bool
has_form (ask.Cell k) (answer.Cell o) = true
has_form (ask.Cover a) (answer.At o) = true
has_form (ask.Block a) (answer.At o) = true
has_form (ask.Bytes a n) (answer.Bytes None) = true
has_form (ask.Bytes a n) (answer.Bytes (Some bytes)) = nat_lt 0 n && length bytes == n
has_form (ask.To a class) (answer.Yes b) = true
has_form (ask.From a) (answer.Refs refs) = true
has_form q a = false
