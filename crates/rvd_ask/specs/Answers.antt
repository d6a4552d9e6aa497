-- What a program answers to an ask, when two answers are the same, and when reads hold of a program. Use `Hold` for what
-- a list of reads says, and `told` for asks with the answers that a program gives.
use Rattle.std.specs.Prelude.{◌≡◌, Bool, true, false, List, [], ◌∷◌, map, Option, Some, None}
use Rattle.rvd_fact.specs.declared.cells.Cell.{Cell}
use Rattle.rvd_fact.specs.declared.values.Value.{Value}
use Rattle.rvd_fact.specs.declared.values.Value.TheVariants.{Block}
use Rattle.rvd_fact.specs.Program.{Program, cell_at}
use Rattle.rvd_fact.specs.Memory.{cover, block, bytes, has_ref_to, refs_from}
use Rattle.rvd_ask.specs.declared.asks.Ask.{Ask}
use Rattle.rvd_ask.specs.declared.asks.Ask.TheVariants as ask
use Rattle.rvd_ask.specs.declared.answers.Answer.{Answer}
use Rattle.rvd_ask.specs.declared.answers.Answer.TheVariants as answer

-- what a program answers to an ask
abbrev pub ans : Program → Ask → Answer
ans S (ask.Cell k) = answer.Cell (cell_at S k)
ans S (ask.Cover a) = answer.At (cover S a)
ans S (ask.Block a) = answer.At (block S a)
ans S (ask.Bytes a n) = answer.Bytes (bytes S a n)
ans S (ask.To a class) = answer.Yes (has_ref_to S a class)
ans S (ask.From a) = answer.Refs (refs_from S a)

-- a value without the bytes of an initialised block, which no change touches
abbrev pub plain_value : Value → Value
plain_value (Block len perm (Some bytes)) = Block len perm (Some [])
plain_value v = v

abbrev pub plain_cell : Option Cell → Option Cell
plain_cell None = None
plain_cell (Some c) = Some (record { value = plain_value c.value; source = c.source })

-- an answer without the bytes of an initialised block
abbrev pub shown : Answer → Answer
shown (answer.Cell o) = answer.Cell (plain_cell o)
shown a = a

-- two answers are the same, the bytes of an initialised block left aside
abbrev pub IsSame : Answer → Answer → Type 0
IsSame a b = shown a ≡ shown b

-- each answer is the same as the program's
abbrev pub Hold : Program → List (Ask × Answer) → Type 0
Hold S [] = Unit {0}
Hold S (r ∷ rs) = IsSame r.1 (ans S r.0) × Hold S rs

-- asks with the answers of a program
abbrev pub told : Program → List Ask → List (Ask × Answer)
told S qs = map (λ q. (q, ans S q)) qs

-- asks that are asked only where a test passes
abbrev pub only_if : Bool → List Ask → List Ask
only_if true qs = qs
only_if false qs = []
