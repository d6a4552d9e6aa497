-- The rule of functions: the target of a call, where an instruction is there; and what the rule asks, in order. Use
-- `funcs_rule` and `funcs_asks` for the whole.
use Rattle.std.specs.Prelude.{ℕ, Bool, ◌&&◌, List, [], ◌∷◌, is_none, if◌then◌else◌}
use Rattle.rvd_fact.specs.declared.cells.Change.{Change}
use Rattle.rvd_fact.specs.declared.values.RefClass.TheVariants.{Call}
use Rattle.rvd_fact.specs.declared.values.Value.TheVariants.{Func}
use Rattle.rvd_fact.specs.Program.{Program, cell_at}
use Rattle.rvd_fact.specs.Memory.{func_key, unit_key, has_instruction, has_ref_to}
use Rattle.rvd_ask.specs.declared.asks.Ask.{Ask}
use Rattle.rvd_ask.specs.declared.asks.Ask.TheVariants as ask
use Rattle.rvd_ask.specs.Answers.{only_if}
use Rattle.rvd_ask.specs.Places.{addition}

-- whether a call goes to an instruction at t that no cell says to be a function
abbrev pub is_new_function : Program → ℕ → Bool
is_new_function S t = has_ref_to S t Call && (has_instruction S t && is_none (cell_at S (func_key t)))

-- the rule of functions
unfoldable pub funcs_rule : Program → ℕ → List Change
funcs_rule S t = if is_new_function S t then addition (func_key t) Func ∷ [] else []

-- what the rule of functions asks
unfoldable pub funcs_asks : Program → ℕ → List Ask
funcs_asks S t =
    ask.To t Call
    ∷ only_if (has_ref_to S t Call) (ask.Cell (unit_key t) ∷ only_if (has_instruction S t) (ask.Cell (func_key t) ∷ []))
