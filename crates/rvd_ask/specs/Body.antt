-- The rule of bodies: the body of a function is the bytes of its reach; and what the rule asks, whose order and
-- repetitions are free. Use `body_rule` and `body_asks` for the whole.
use Rattle.std.specs.Prelude.{ℕ, Bool, true, false, ◌&&◌, ◌==◌, List, [], ◌∷◌, flat_map, Option, Some, None, if◌then◌else◌}
use Rattle.rvd_fact.specs.declared.cells.Cell.{Cell}
use Rattle.rvd_fact.specs.declared.cells.Change.{Change}
use Rattle.rvd_fact.specs.declared.values.Source.{Source}
use Rattle.rvd_fact.specs.declared.values.Source.TheVariants.{Analysis}
use Rattle.rvd_fact.specs.declared.values.Value.{Value}
use Rattle.rvd_fact.specs.declared.values.Value.TheVariants.{Body}
use Rattle.rvd_fact.specs.Program.{Program, cell_at, is_present}
use Rattle.rvd_fact.specs.Memory.{func_key, unit_key, has_instruction}
use Rattle.rvd_ask.specs.declared.asks.Ask.{Ask}
use Rattle.rvd_ask.specs.declared.asks.Ask.TheVariants as ask
use Rattle.rvd_ask.specs.Answers.{only_if}
use Rattle.rvd_ask.specs.Places.{body_key}
use Rattle.rvd_ask.specs.Reach.{reach, spans, ways}

abbrev pub is_analysis : Source → Bool
is_analysis Analysis = true
is_analysis s = false

-- whether an analyzer may set a cell: there is none, or it is an analyzer's
abbrev pub is_open : Option Cell → Bool
is_open None = true
is_open (Some c) = is_analysis c.source

abbrev pub same_ranges : List (ℕ × ℕ) → List (ℕ × ℕ) → Bool
same_ranges [] [] = true
same_ranges [] (s ∷ ss) = false
same_ranges (r ∷ rs) [] = false
same_ranges (r ∷ rs) (s ∷ ss) = r.0 == s.0 && (r.1 == s.1 && same_ranges rs ss)

-- whether a cell is a body of these ranges
abbrev pub is_body_of : List (ℕ × ℕ) → Value → Bool
is_body_of rs (Body own) = same_ranges own rs
is_body_of rs v = false

abbrev pub has_body : List (ℕ × ℕ) → Option Cell → Bool
has_body rs None = false
has_body rs (Some c) = is_body_of rs c.value

-- the change that sets a body to ranges, where it isn't these
abbrev pub set_body : ℕ → Option Cell → List (ℕ × ℕ) → List Change
set_body e old rs =
    if has_body rs old then []
    else record { key = body_key e; before = old; after = Some (record { value = Body rs; source = Analysis }) } ∷ []

-- whether a function is at e whose body an analyzer may set
abbrev pub has_open_body : Program → ℕ → Bool
has_open_body S e = is_present (cell_at S (func_key e)) && is_open (cell_at S (body_key e))

-- the rule of bodies
unfoldable pub body_rule : Program → ℕ → List Change
body_rule S e = if has_open_body S e then set_body e (cell_at S (body_key e)) (spans (reach S e)) else []

-- what is asked of an address that the walk meets: whether a function begins there only where an instruction is
abbrev pub met_asks : Program → ℕ → List Ask
met_asks S w = ask.Cell (unit_key w) ∷ only_if (has_instruction S w) (ask.Cell (func_key w) ∷ [])

-- what is asked of a member
abbrev pub member_asks : Program → ℕ → List Ask
member_asks S y = ask.From y ∷ flat_map (met_asks S) (ways S y)

-- what the walk asks
abbrev pub reach_asks : Program → ℕ → List Ask
reach_asks S e = ask.Cell (unit_key e) ∷ flat_map (member_asks S) (reach S e)

-- what the rule of bodies asks
unfoldable pub body_asks : Program → ℕ → List Ask
body_asks S e =
    ask.Cell (func_key e)
    ∷ only_if (is_present (cell_at S (func_key e))) (ask.Cell (body_key e)
    ∷ only_if (is_open (cell_at S (body_key e))) (reach_asks S e))
