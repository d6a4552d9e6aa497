-- Hexadecimal numbers of 32 bits, as programs for RISC-V print addresses and words: the most significant digit first, each
-- digit the value of four bits. Digits are ASCII.
use Rattle.std.specs.Prelude.{◌≡◌, ℕ, ◌/◌, ◌%◌, ◌^◌, ◌<◌, ◌&&◌, nat_eq, nat_le, List, [], ◌∷◌, length, drop, Option, Some, None, if◌then◌else◌, codes}
use Rattle.std.specs.List.{list_all, starts_with}
use Rattle.std.specs.Char.{digit_char, is_ascii_hexdigit}
use Rattle.std.specs.Str.Parse.{digits_value}

-- eight lower-case digits
abbrev pub hex8 : ℕ → List ℕ
hex8 n =
    digit_char (n / 0x1000_0000 % 16) ∷ digit_char (n / 0x100_0000 % 16) ∷ digit_char (n / 0x10_0000 % 16) ∷ digit_char (n / 0x1_0000 % 16)
    ∷ digit_char (n / 0x1000 % 16) ∷ digit_char (n / 0x100 % 16) ∷ digit_char (n / 0x10 % 16) ∷ digit_char (n % 16) ∷ []

-- a word without its leading 0x, where it has one
abbrev pub without_prefix : List ℕ → List ℕ
without_prefix word = if starts_with nat_eq word (codes "0x") then drop 2 word else word

-- the number that a word stands for, where it is an optional 0x and 1 to 8 hexadecimal digits of either case
abbrev pub hex_of : List ℕ → Option ℕ
hex_of word =
    let digits = without_prefix word in
    if nat_le 1 (length digits) && (nat_le (length digits) 8 && list_all is_ascii_hexdigit digits) then Some (digits_value 16 digits) else None

-- a number of 32 bits is read back, so that no two are printed alike
pub record HexLaw : Type 0 where
  pub back : (n : ℕ) → n < 2 ^ 32 → hex_of (hex8 n) ≡ Some n
  pub unique : (m n : ℕ) → m < 2 ^ 32 → n < 2 ^ 32 → hex8 m ≡ hex8 n → m ≡ n
