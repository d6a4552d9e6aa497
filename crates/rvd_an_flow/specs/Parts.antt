-- The parts of flow's work: what is asked for the starts of an address, what a start changes and asks, and the units of a
-- run. Use `decided`, `decided_asks` and `is_deciding` for a single start, `units` and `behind_asks` for the run that it
-- begins, and `first_decided` and `first_asks` for all starts.
use Rattle.std.specs.Prelude.{ℕ, suc, Bool, true, ◌&&◌, ◌||◌, List, [], ◌∷◌, ◌++◌, filter_map, find, is_none, Option, Some, None, if◌then◌else◌}
use Rattle.rvd_decode.specs.Instruction.{Instruction}
use Rattle.rvd_decode.specs.Flow.{falls_through}
use Rattle.rvd_fact.specs.declared.cells.Cell.{Cell}
use Rattle.rvd_fact.specs.declared.cells.Change.{Change}
use Rattle.rvd_fact.specs.declared.values.Value.{Value}
use Rattle.rvd_fact.specs.declared.values.Value.TheVariants.{Bookmark, Code}
use Rattle.rvd_fact.specs.Program.{Program, cell_at, is_present}
use Rattle.rvd_fact.specs.Memory.{func_key, unit_key, has_instruction, word}
use Rattle.rvd_ask.specs.declared.asks.Ask.{Ask}
use Rattle.rvd_ask.specs.declared.asks.Ask.TheVariants as ask
use Rattle.rvd_ask.specs.Answers.{only_if}
use Rattle.rvd_ask.specs.Places.{addition, error_key, mark_key, next_word}
use Rattle.rvd_ask.specs.Flow.{bad_instruction, code_addition, decides, decodes, flow_changes, is_ready, openable, openable_asks, run, run_asks, starts_asks}

-- what is asked for the starts of x
abbrev pub place_asks : Program → ℕ → List Ask
place_asks S x =
    ask.Cell (mark_key x) ∷ ask.Cell (func_key x) ∷ ask.Cell (unit_key x)
    ∷ only_if (has_instruction S x) (ask.From x ∷ [])

-- four bytes where they decode, and else nothing
abbrev pub code_word : Option ℕ → Option ℕ
code_word o = if decodes o then o else None

-- the word that a run goes on with at t, and what is asked for it
abbrev pub ready_word : Program → ℕ → Option ℕ
ready_word S t = if is_ready S t then word S t else None

unfoldable pub ready_asks : Program → ℕ → List Ask
ready_asks S t = openable_asks S t ++ only_if (openable S t) (ask.Bytes t 4 ∷ [])

-- the units of a run from t on that has room for n more behind t, and what is asked behind t
unfoldable pub units : Program → ℕ → ℕ → List Change
units S t n = filter_map (code_addition S) (run S t (suc n))

unfoldable pub behind_asks : Program → ℕ → ℕ → List Ask
behind_asks S t n = run_asks S t n

-- what an openable start changes and asks, by its word where that decodes; and whether it isn't passed over
abbrev pub coded_decides : Program → ℕ → Option ℕ → Bool
coded_decides S t None = is_none (cell_at S (error_key t))
coded_decides S t (Some w) = true

abbrev pub coded : Program → ℕ → Option ℕ → List Change
coded S t None = if is_none (cell_at S (error_key t)) then addition (error_key t) (Bookmark bad_instruction) ∷ [] else []
coded S t (Some w) = units S t 255

abbrev pub coded_asks : Program → ℕ → Option ℕ → List Ask
coded_asks S t None = ask.Cell (error_key t) ∷ []
coded_asks S t (Some w) = behind_asks S t 255

-- what a start changes, nothing where it is passed over; what is asked of it; and whether it isn't passed over
unfoldable pub decided : Program → ℕ → List Change
decided S t = if openable S t then coded S t (code_word (word S t)) else []

unfoldable pub decided_asks : Program → ℕ → List Ask
decided_asks S t = openable_asks S t ++ only_if (openable S t) (ask.Bytes t 4 ∷ coded_asks S t (code_word (word S t)))

unfoldable pub is_deciding : Program → ℕ → Bool
is_deciding S t = openable S t && coded_decides S t (code_word (word S t))

-- what the first of some starts that isn't passed over changes, and what is asked of them
unfoldable pub first_decided : Program → List ℕ → List Change
first_decided S ts = flow_changes S (find (decides S) ts)

unfoldable pub first_asks : Program → List ℕ → List Ask
first_asks S ts = starts_asks S ts

-- the word of an instruction's cell
abbrev pub value_code : Value → Option ℕ
value_code (Code w) = Some w
value_code v = None

abbrev pub cell_code : Option Cell → Option ℕ
cell_code None = None
cell_code (Some c) = value_code c.value

-- the first start of x, by its cells Mark and Func
abbrev pub given : Option Cell → Option Cell → ℕ → List ℕ
given mark func x = if is_present mark || is_present func then x ∷ [] else []

-- the start behind an instruction at x
abbrev pub following : Option Instruction → ℕ → List ℕ
following i x = if falls_through i then next_word x ∷ [] else []
