-- The rule of strings: 5 to 255 bytes of text and a zero, in one block, that something refers to; and what the rule asks,
-- in order. Use `strings_rule` and `strings_asks` for the whole.
use Rattle.std.specs.Prelude.{ℕ, zero, suc, ◌+◌, ◌-◌, Bool, ◌&&◌, ◌||◌, not, nat_le, ◌==◌, List, [], ◌∷◌, ◌++◌, drop, length, find, Option, Some, None, is_none, if◌then◌else◌}
use Rattle.std.specs.Option.{option_map, option_map_or}
use Rattle.rvd_fact.specs.declared.keys.Key.{Key}
use Rattle.rvd_fact.specs.declared.cells.Cell.{Cell}
use Rattle.rvd_fact.specs.declared.cells.Change.{Change}
use Rattle.rvd_fact.specs.declared.values.Form.TheVariants.{Str}
use Rattle.rvd_fact.specs.declared.values.RefClass.TheVariants.{Datum, Read}
use Rattle.rvd_fact.specs.declared.values.Value.{Value}
use Rattle.rvd_fact.specs.declared.values.Value.TheVariants.{Block, Plain}
use Rattle.rvd_fact.specs.Program.{Program, cell_at}
use Rattle.rvd_fact.specs.Memory.{unit_key, block, has_ref_to, surrounds}
use Rattle.rvd_ask.specs.declared.asks.Ask.{Ask}
use Rattle.rvd_ask.specs.declared.asks.Ask.TheVariants as ask
use Rattle.rvd_ask.specs.Answers.{only_if}
use Rattle.rvd_ask.specs.Flow.{block_asks, free_asks, is_free}
use Rattle.rvd_ask.specs.Places.{addition}

-- whether data at t is referred to: its address is computed, or it is read
abbrev pub is_read_at : Program → ℕ → Bool
is_read_at S t = has_ref_to S t Datum || has_ref_to S t Read

-- a printing character, a tab, a line feed or a carriage return
abbrev pub is_text_byte : ℕ → Bool
is_text_byte b = (nat_le 32 b && nat_le b 126) || (b == 9 || (b == 10 || b == 13))

-- the bytes from t on of a block that begins at start, where it is initialised
abbrev pub tail_in : ℕ → ℕ → Value → List ℕ
tail_in start t (Block len perm (Some bytes)) = drop (t - start) bytes
tail_in start t v = []

-- the bytes from t on of the block around t
abbrev pub tail : Program → ℕ → List ℕ
tail S t = option_map_or (λ (e : Key × Cell). tail_in e.0.at t e.1.value) (find (surrounds t) S) []

-- how many bytes of text, at most n, bytes begin with before a zero; nothing where something else comes
abbrev pub text_len : ℕ → List ℕ → Option ℕ
text_len n [] = None
text_len zero (b ∷ bs) = if b == 0 then Some 0 else None
text_len (suc n) (b ∷ bs) =
    if b == 0 then Some 0
    else (if is_text_byte b then option_map (λ len. len + 1) (text_len n bs) else None)

-- the length of the string at t with its zero, where there is one: 5 to 255 bytes and a zero
abbrev pub string_len : Program → ℕ → Option ℕ
string_len S t = long_enough (text_len 255 (tail S t))
  where
    long_enough : Option ℕ → Option ℕ
    long_enough None = None
    long_enough (Some len) = if nat_le 5 len then Some (len + 1) else None

-- the unit is added where no present unit has one of the bytes and no cell is at Unit t
abbrev pub string_changes : Program → ℕ → Option ℕ → List Change
string_changes S t None = []
string_changes S t (Some len) =
    if is_free S t len && is_none (cell_at S (unit_key t)) then addition (unit_key t) (Plain (Str len)) ∷ []
    else []

-- the rule of strings
unfoldable pub strings_rule : Program → ℕ → List Change
strings_rule S t = if is_read_at S t then string_changes S t (string_len S t) else []

-- the bytes from t on, one by one, up to the first that is no text; at most n and one more
abbrev pub byte_asks : ℕ → ℕ → List ℕ → List Ask
byte_asks t n [] = []
byte_asks t zero (b ∷ bs) = ask.Bytes t 1 ∷ []
byte_asks t (suc n) (b ∷ bs) = ask.Bytes t 1 ∷ only_if (is_text_byte b) (byte_asks (t + 1) n bs)

-- what is asked of the bytes of a string, and of the cell at its unit
abbrev pub unit_asks : Program → ℕ → Option ℕ → List Ask
unit_asks S t None = []
unit_asks S t (Some len) = free_asks S t len ++ only_if (is_free S t len) (ask.Cell (unit_key t) ∷ [])

-- the block around t tells whether there is room for five bytes and a zero
abbrev pub string_asks : Program → ℕ → List Ask
string_asks S t =
    ask.Block t ∷ block_asks (block S t)
    ++ only_if (nat_le 6 (length (tail S t))) (byte_asks t 255 (tail S t) ++ unit_asks S t (string_len S t))

-- what the rule of strings asks
unfoldable pub strings_asks : Program → ℕ → List Ask
strings_asks S t =
    ask.To t Datum ∷ only_if (not (has_ref_to S t Datum)) (ask.To t Read ∷ [])
    ++ only_if (is_read_at S t) (string_asks S t)
