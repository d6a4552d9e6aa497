-- The lines of a text file. A line ends with a line feed, the last one perhaps without, and a carriage return directly
-- before the line feed is no part of the line. Use `lines_of` for the lines in order.
use Rattle.std.specs.Prelude.{◌≡◌, ℕ, suc, Bool, false, ◌&&◌, ◌==◌, List, [], ◌∷◌, drop, Option, Some, None, if◌then◌else◌}
use denote.Ref.{Bor}

-- whether a line feed comes first
abbrev pub begins_with_feed : List ℕ → Bool
begins_with_feed [] = false
begins_with_feed (b ∷ bs) = b == 10

-- the lines, with a byte in front of the first
abbrev pub with_byte : ℕ → List (List ℕ) → List (List ℕ)
with_byte b [] = (b ∷ []) ∷ []
with_byte b (l ∷ ls) = (b ∷ l) ∷ ls

-- the lines of these bytes; nothing behind the last line feed is no line
abbrev pub lines_of : List ℕ → List (List ℕ)
lines_of [] = []
lines_of (b ∷ bs) =
    if b == 10 then [] ∷ lines_of bs
    else (if b == 13 && begins_with_feed bs then lines_of bs
    else with_byte b (lines_of bs))

-- how many bytes the first line has, and what stands behind the end of it
abbrev pub line_len : List ℕ → ℕ
line_len [] = 0
line_len (b ∷ bs) = if b == 10 then 0 else (if b == 13 && begins_with_feed bs then 0 else suc (line_len bs))

abbrev pub behind_end : List ℕ → List ℕ
behind_end [] = []
behind_end (b ∷ bs) = if b == 10 then bs else drop 1 bs

-- the next line was taken, or there was none
abbrev pub IsLine : List (List ℕ) → List (List ℕ) → Option (Bor (List ℕ)) → Type 0
IsLine old new None = (old ≡ []) × (new ≡ [])
IsLine old new (Some l) = old ≡ l.now ∷ new
