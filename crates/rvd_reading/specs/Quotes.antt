-- A quoted text at the front of a text: it ends with the first quote behind its opening one that no backslash escapes.
use Rattle.std.specs.Prelude.{ℕ, suc, Bool, false, not, ◌&&◌, nat_le, ◌==◌, List, [], ◌∷◌, length, take, drop, Option, Some, None, if◌then◌else◌}
use Rattle.rvd_text.specs.Quoted.{text_of}
use Rattle.rvd_reading.specs.Steps.{◌>>=◌, Step}

-- whether a byte, behind an escaping backslash or not, is one of itself
abbrev pub is_bare : Bool → ℕ → ℕ → Bool
is_bare escaped byte c = not escaped && c == byte

-- how many bytes there are up to the closing quote and with it, behind an escaping backslash or not; all of them where there
-- is none
abbrev pub quote_len : Bool → List ℕ → ℕ
quote_len escaped [] = 0
quote_len escaped (c ∷ cs) = if is_bare escaped 34 c then 1 else suc (quote_len (is_bare escaped 92 c) cs)

-- how many bytes the quoted text in front has
abbrev pub quoted_len : List ℕ → ℕ
quoted_len [] = 0
quoted_len (c ∷ cs) = suc (quote_len false cs)

-- a text of at most 1,000 bytes
abbrev pub short : List ℕ → Option (List ℕ)
short text = if nat_le (length text) 1000 then Some text else None

-- the text that is quoted in front
unfoldable pub quoted_of : List ℕ → Step (List ℕ)
quoted_of bytes = text_of (take (quoted_len bytes) bytes) >>= (λ text. short text >>= (λ t. Some (t, drop (quoted_len bytes) bytes)))
