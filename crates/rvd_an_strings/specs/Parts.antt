-- The parts of the rule of strings: how many bytes a block has from an address on, and what is asked first, of the block and
-- of its bytes. Use `strings_rule` and `strings_asks` of rvd_ask for the whole.
use Rattle.std.specs.Prelude.{ℕ, ◌-◌, not, nat_le, List, [], ◌∷◌, ◌++◌, length, Option, Some, None}
use Rattle.rvd_fact.specs.declared.cells.Cell.{Cell}
use Rattle.rvd_fact.specs.declared.values.RefClass.TheVariants.{Datum, Read}
use Rattle.rvd_fact.specs.declared.values.Value.{Value}
use Rattle.rvd_fact.specs.declared.values.Value.TheVariants.{Block}
use Rattle.rvd_fact.specs.Program.{Program, cell_at}
use Rattle.rvd_fact.specs.Memory.{block, block_key, has_ref_to}
use Rattle.rvd_ask.specs.declared.asks.Ask.{Ask}
use Rattle.rvd_ask.specs.declared.asks.Ask.TheVariants as ask
use Rattle.rvd_ask.specs.Answers.{only_if}
use Rattle.rvd_ask.specs.Flow.{block_asks}
use Rattle.rvd_ask.specs.Strings.{byte_asks, tail}

-- what is asked of the references to t
abbrev pub read_asks : Program → ℕ → List Ask
read_asks S t = ask.To t Datum ∷ only_if (not (has_ref_to S t Datum)) (ask.To t Read ∷ [])

-- how many bytes a block that begins at start has from t on, where it is initialised
abbrev pub value_room : ℕ → ℕ → Value → ℕ
value_room start t (Block len perm (Some bytes)) = len - (t - start)
value_room start t v = 0

abbrev pub cell_room : ℕ → ℕ → Option Cell → ℕ
cell_room start t None = 0
cell_room start t (Some c) = value_room start t c.value

abbrev pub block_room : Program → ℕ → Option ℕ → ℕ
block_room S t None = 0
block_room S t (Some start) = cell_room start t (cell_at S (block_key start))

-- what is asked of the block around t
abbrev pub room_asks : Program → ℕ → List Ask
room_asks S t = ask.Block t ∷ block_asks (block S t)

-- what is asked of the block and its bytes
abbrev pub text_asks : Program → ℕ → List Ask
text_asks S t = room_asks S t ++ only_if (nat_le 6 (length (tail S t))) (byte_asks t 255 (tail S t))
