-- The rule of flow: where a disassembly may begin and how far it runs; and what the rule asks, in order. Use `flow_rule`
-- and `flow_asks` for the whole, and `openable` for the test of an address.
use Rattle.std.specs.Prelude.{ℕ, zero, suc, ◌+◌, ◌%◌, Bool, true, false, ◌&&◌, ◌||◌, not, nat_le, ◌==◌, List, [], ◌∷◌, ◌++◌, filter_map, find, codes, Option, Some, None, is_none, is_some, if◌then◌else◌}
use Rattle.std.specs.Option.{option_map}
use Rattle.rvd_decode.specs.Table.{instruction}
use Rattle.rvd_decode.specs.Flow.{falls_through}
use Rattle.rvd_fact.specs.declared.cells.Cell.{Cell}
use Rattle.rvd_fact.specs.declared.cells.Change.{Change}
use Rattle.rvd_fact.specs.declared.values.RefClass.{RefClass}
use Rattle.rvd_fact.specs.declared.values.RefClass.TheVariants.{Call, Jump, Cond}
use Rattle.rvd_fact.specs.declared.values.Value.{Value}
use Rattle.rvd_fact.specs.declared.values.Value.TheVariants.{Block, Bookmark, Code}
use Rattle.rvd_fact.specs.Program.{Program, cell_at, is_present}
use Rattle.rvd_fact.specs.Memory.{block_key, func_key, unit_key, block, cover, has_instruction, refs_from, word}
use Rattle.rvd_ask.specs.declared.asks.Ask.{Ask}
use Rattle.rvd_ask.specs.declared.asks.Ask.TheVariants as ask
use Rattle.rvd_ask.specs.Answers.{only_if}
use Rattle.rvd_ask.specs.Places.{addition, error_key, instruction_at, mark_key, next_word}

-- whether a block from b on is executable and initialised, and has the four bytes from t on
abbrev pub may_hold : ℕ → ℕ → Value → Bool
may_hold b t (Block len perm (Some bytes)) = perm.x && nat_le (t + 4) (b + len)
may_hold b t v = false

abbrev pub cell_may_hold : ℕ → ℕ → Option Cell → Bool
cell_may_hold b t None = false
cell_may_hold b t (Some c) = may_hold b t c.value

abbrev pub block_may_hold : Program → ℕ → Option ℕ → Bool
block_may_hold S t None = false
block_may_hold S t (Some b) = cell_may_hold b t (cell_at S (block_key b))

-- whether the four bytes from t on are executable and initialised, in one block
abbrev pub is_executable : Program → ℕ → Bool
is_executable S t = block_may_hold S t (block S t)

abbrev pub block_asks : Option ℕ → List Ask
block_asks None = []
block_asks (Some b) = ask.Cell (block_key b) ∷ []

-- no present unit has one of the n bytes from t on
abbrev pub is_free : Program → ℕ → ℕ → Bool
is_free S t zero = true
is_free S t (suc n) = is_none (cover S t) && is_free S (t + 1) n

abbrev pub free_asks : Program → ℕ → ℕ → List Ask
free_asks S t zero = []
free_asks S t (suc n) = ask.Cover t ∷ only_if (is_none (cover S t)) (free_asks S (t + 1) n)

-- whether an instruction may be put at t
unfoldable pub openable : Program → ℕ → Bool
openable S t = t % 4 == 0 && (is_executable S t && (is_free S t 4 && is_none (cell_at S (unit_key t))))

unfoldable pub openable_asks : Program → ℕ → List Ask
openable_asks S t =
    only_if (t % 4 == 0) (ask.Block t ∷ block_asks (block S t)
    ++ only_if (is_executable S t) (free_asks S t 4
    ++ only_if (is_free S t 4) (ask.Cell (unit_key t) ∷ [])))

-- whether the flow of control follows a reference
abbrev pub is_flow : RefClass → Bool
is_flow Call = true
is_flow Jump = true
is_flow Cond = true
is_flow class = false

abbrev pub flow_target : ℕ × RefClass × ℕ → Option ℕ
flow_target r = if is_flow r.1 then Some r.2 else None

-- where the instruction at x goes on: to the next word where it falls through, and to the targets of its references
abbrev pub next_starts : Program → ℕ → List ℕ
next_starts S x = (if falls_through (instruction_at S x) then next_word x ∷ [] else []) ++ filter_map flow_target (refs_from S x)

-- the starts of x, in order
abbrev pub starts : Program → ℕ → List ℕ
starts S x =
    (if is_present (cell_at S (mark_key x)) || is_present (cell_at S (func_key x)) then x ∷ [] else [])
    ++ (if has_instruction S x then next_starts S x else [])

-- whether four bytes decode
abbrev pub decodes : Option ℕ → Bool
decodes None = false
decodes (Some w) = is_some (instruction w)

-- whether the word after them is reached
abbrev pub word_falls : Option ℕ → Bool
word_falls None = false
word_falls (Some w) = falls_through (instruction w)

-- whether a run goes on with an instruction at t
abbrev pub is_ready : Program → ℕ → Bool
is_ready S t = openable S t && decodes (word S t)

-- whether a start isn't passed over: it is openable, and its word decodes or has no bookmark of an error yet
abbrev pub decides : Program → ℕ → Bool
decides S t = openable S t && (decodes (word S t) || is_none (cell_at S (error_key t)))

-- the addresses of a run of at most n instructions from t on
abbrev pub run : Program → ℕ → ℕ → List ℕ
run S t zero = []
run S t (suc n) = t ∷ (if word_falls (word S t) && is_ready S (next_word t) then run S (next_word t) n else [])

abbrev pub code_addition : Program → ℕ → Option Change
code_addition S t = option_map (λ w. addition (unit_key t) (Code w)) (word S t)

abbrev pub bad_instruction : List ℕ
bad_instruction = codes "Bad Instruction"

-- a run of at most 256 instructions where the word decodes, else the bookmark
abbrev pub start_changes : Program → ℕ → List Change
start_changes S t =
    if decodes (word S t) then filter_map (code_addition S) (run S t 256)
    else addition (error_key t) (Bookmark bad_instruction) ∷ []

abbrev pub flow_changes : Program → Option ℕ → List Change
flow_changes S None = []
flow_changes S (Some t) = start_changes S t

-- the rule of flow: the first start that isn't passed over decides
unfoldable pub flow_rule : Program → ℕ → List Change
flow_rule S x = flow_changes S (find (decides S) (starts S x))

-- what is asked of a start
abbrev pub start_asks : Program → ℕ → List Ask
start_asks S t =
    openable_asks S t
    ++ only_if (openable S t) (ask.Bytes t 4 ∷ only_if (not (decodes (word S t))) (ask.Cell (error_key t) ∷ []))

-- what is asked behind an instruction at t of a run that has room for n more
abbrev pub run_asks : Program → ℕ → ℕ → List Ask
run_asks S t zero = []
run_asks S t (suc n) =
    only_if (word_falls (word S t)) (openable_asks S (next_word t)
    ++ only_if (openable S (next_word t)) (ask.Bytes (next_word t) 4
    ∷ only_if (decodes (word S (next_word t))) (run_asks S (next_word t) n)))

-- what is asked of the starts, up to the one that decides and its run
abbrev pub starts_asks : Program → List ℕ → List Ask
starts_asks S [] = []
starts_asks S (t ∷ ts) = start_asks S t ++ (if decides S t then only_if (decodes (word S t)) (run_asks S t 255) else starts_asks S ts)

-- what the rule of flow asks
unfoldable pub flow_asks : Program → ℕ → List Ask
flow_asks S x =
    ask.Cell (mark_key x) ∷ ask.Cell (func_key x) ∷ ask.Cell (unit_key x)
    ∷ only_if (has_instruction S x) (ask.From x ∷ []) ++ starts_asks S (starts S x)
