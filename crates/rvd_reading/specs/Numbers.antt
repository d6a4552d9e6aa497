-- Numbers at the front of a text: eight hexadecimal digits, and a run of decimal digits.
use Rattle.std.specs.Prelude.{◌≡◌, ℕ, suc, ◌+◌, ◌*◌, ◌^◌, ◌≤◌, Bool, false, ◌&&◌, nat_lt, nat_le, List, [], ◌∷◌, length, take, drop, Option, Some, None, if◌then◌else◌}
use Rattle.std.specs.Char.{digit_value, is_ascii_digit}
use Rattle.std.specs.Str.Parse.{digits_value}
use Rattle.rvd_text.specs.Hex.{hex_of}
use Rattle.rvd_reading.specs.Steps.{◌>>=◌, Step}

-- the number that the next eight bytes write
unfoldable pub hex8_of : List ℕ → Step ℕ
hex8_of bytes = if nat_le 8 (length bytes) then hex_of (take 8 bytes) >>= (λ n. Some (n, drop 8 bytes)) else None

-- how many decimal digits come first
abbrev pub digit_count : List ℕ → ℕ
digit_count [] = 0
digit_count (c ∷ cs) = if is_ascii_digit c then suc (digit_count cs) else 0

-- whether a decimal digit comes first
abbrev pub begins_with_digit : List ℕ → Bool
begins_with_digit [] = false
begins_with_digit (c ∷ cs) = is_ascii_digit c

-- the number that digits write, where there are some and it is at most so large
abbrev pub at_most : ℕ → List ℕ → Option ℕ
at_most max digits = if nat_lt 0 (length digits) && nat_le (digits_value 10 digits) max then Some (digits_value 10 digits) else None

-- the number that all decimal digits in front write, where it is at most so large
unfoldable pub number_of : ℕ → List ℕ → Step ℕ
number_of max bytes = at_most max (take (digit_count bytes) bytes) >>= (λ n. Some (n, drop (digit_count bytes) bytes))

-- the number that digits write, or None where it takes more than 64 bits
abbrev pub IsValue : List ℕ → Option ℕ → Type 0
IsValue digits None = 2 ^ 64 ≤ digits_value 10 digits
IsValue digits (Some n) = n ≡ digits_value 10 digits

-- a number with one more digit, or None where it takes more than 64 bits
abbrev pub IsAppended : ℕ → ℕ → Option ℕ → Type 0
IsAppended number digit None = 2 ^ 64 ≤ number * 10 + digit_value digit
IsAppended number digit (Some n) = n ≡ number * 10 + digit_value digit
