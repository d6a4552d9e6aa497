-- The parts of the rule of references: whether a slot lacks a reference, and what is asked for the slots. Use `refs_rule` and
-- `refs_asks` of rvd_ask for the whole.
use Rattle.std.specs.Prelude.{ℕ, Bool, ◌&&◌, List, [], ◌∷◌, is_none, is_some}
use Rattle.rvd_decode.specs.Instruction.{Instruction}
use Rattle.rvd_fact.specs.declared.keys.Key.{Key}
use Rattle.rvd_fact.specs.Program.{Program, cell_at}
use Rattle.rvd_fact.specs.Memory.{block, unit_key}
use Rattle.rvd_ask.specs.declared.asks.Ask.{Ask}
use Rattle.rvd_ask.specs.declared.asks.Ask.TheVariants as ask
use Rattle.rvd_ask.specs.Answers.{only_if}
use Rattle.rvd_ask.specs.Places.{word_before}
use Rattle.rvd_ask.specs.Refs.{computed, computed_class, slot_asks}

-- whether a block has the target, and no cell is in the slot
abbrev pub is_lacking : Program → Key → ℕ → Bool
is_lacking S slot to = is_some (block S to) && is_none (cell_at S slot)

abbrev pub lacking_asks : Program → Key → ℕ → List Ask
lacking_asks S slot to = ask.Block to ∷ only_if (is_some (block S to)) (ask.Cell slot ∷ [])

-- what is asked for the instruction at an address
abbrev pub unit_asks : ℕ → List Ask
unit_asks a = ask.Cell (unit_key a) ∷ []

-- what is asked for slot 1
abbrev pub computed_asks : Program → ℕ → Instruction → List Ask
computed_asks S y i = only_if (is_some (computed_class i.op i.rd)) (ask.Cell (unit_key (word_before y)) ∷ slot_asks S y 1 (computed S y i))
