-- Hexadecimal digits: a number of 32 bits is read back from its eight digits, and the bounds of a loop over digits.
use Rattle.std.proofs.Common.{◌≡◌, ℕ, ◌+◌, ◌*◌, ◌/◌, ◌%◌, ◌^◌, ◌<◌, ◌≤◌, Bool, true, false, cond, ◌&&◌, List, [], ◌∷◌, map, Some, None, refl, sym, ap, ◌∙◌, arith, length, drop, add-one}
use Rattle.std.specs.Prelude.{◌==◌, nat_le}
use Rattle.std.specs.Char.{digit_char, digit_value, is_ascii_hexdigit}
use Rattle.std.specs.List.{list_all, AllByRecursion}
use Rattle.std.specs.Int.Digits.{number_from_digits}
use Rattle.std.specs.Str.Parse.{digits_value}
use Rattle.std.proofs.lemmas.Int.Digits.{digits_value_is}
use Rattle.std.proofs.lemmas.Bool.Decides.{nat_tests}
use Rattle.std.proofs.Math.Nat.{pow-le-pow_right, pow-suc}
use Rattle.rvd_text.specs.Hex.{hex8, hex_of, without_prefix, HexLaw}

-- a digit is hexadecimal, has its value, and isn't the x of a prefix
is_digit : (d : ℕ) → d < 16 → is_ascii_hexdigit (digit_char d) ≡ true
is_digit d l = grind (arith, nat_tests)

value-digit : (d : ℕ) → d < 16 → digit_value (digit_char d) ≡ d
value-digit d l = grind (arith, nat_tests)

not_x : (d : ℕ) → d < 16 → (120 == digit_char d) ≡ false
not_x d l = grind (arith, nat_tests)

-- the same of a list of digits
all_digits : (ds : List ℕ) → AllByRecursion (λ d. d < 16) ds → list_all is_ascii_hexdigit (map digit_char ds) ≡ true
all_digits [] h = refl
all_digits (d ∷ ds) h = λ i. is_digit d h.0 i && all_digits ds h.1 i

all_values : (ds : List ℕ) → AllByRecursion (λ d. d < 16) ds → map digit_value (map digit_char ds) ≡ ds
all_values [] h = refl
all_values (d ∷ ds) h = λ i. value-digit d h.0 i ∷ all_values ds h.1 i

-- the digits of a number of 32 bits
abbrev eight : ℕ → List ℕ
eight n = n / 0x1000_0000 % 16 ∷ n / 0x100_0000 % 16 ∷ n / 0x10_0000 % 16 ∷ n / 0x1_0000 % 16 ∷ n / 0x1000 % 16 ∷ n / 0x100 % 16 ∷ n / 0x10 % 16 ∷ n % 16 ∷ []

-- each of them is below 16, and they make up the number
all_small : (n : ℕ) → AllByRecursion (λ d. d < 16) (eight n)
all_small n = (omega arith, (omega arith, (omega arith, (omega arith, (omega arith, (omega arith, (omega arith, (omega arith, tt))))))))

number_from-eight : (n : ℕ) → n < 2 ^ 32 → number_from_digits 16 (eight n) ≡ n
number_from-eight n l = omega arith

-- eight digits have no prefix
no_prefix : (a b : ℕ) (ds : List ℕ) → b < 16 → without_prefix (digit_char a ∷ digit_char b ∷ ds) ≡ digit_char a ∷ digit_char b ∷ ds
no_prefix a b ds l =
    elim (48 == digit_char a) as (λ q. cond (q && ((120 == digit_char b) && true)) ds (digit_char a ∷ digit_char b ∷ ds) ≡ digit_char a ∷ digit_char b ∷ ds) [
      | true ↦ ap (λ (q : Bool). cond (q && true) ds (digit_char a ∷ digit_char b ∷ ds)) (not_x b l)
      | false ↦ refl
    ]

pub hex_of-hex8 : (n : ℕ) → n < 2 ^ 32 → hex_of (hex8 n) ≡ Some n
hex_of-hex8 n l =
    let word = hex8 n in
    ap (λ (ds : List ℕ). cond (nat_le 1 (length ds) && (nat_le (length ds) 8 && list_all is_ascii_hexdigit ds)) (Some (digits_value 16 ds)) None) (no_prefix (n / 0x1000_0000 % 16) (n / 0x100_0000 % 16) (map digit_char (drop 2 (eight n))) (omega arith))
    ∙ ap (λ (q : Bool). cond q (Some (digits_value 16 word)) None) (all_digits (eight n) (all_small n))
    ∙ ap Some (digits_value_is 16 word ∙ ap (number_from_digits 16) (all_values (eight n) (all_small n)) ∙ number_from-eight n l)

pub hex_law : HexLaw
hex_law = record { back = hex_of-hex8; unique = λ m n l k e. let same : Some m ≡ Some n = sym (hex_of-hex8 m l) ∙ ap hex_of e ∙ hex_of-hex8 n k in cc }

-- a number of at most seven digits has room for one more
pub room : (i n v : ℕ) → i < 8 → n < 16 ^ i → v < 16 → n * 16 + v < 2 ^ 32
room i n v l small digit =
    let most : 16 ^ i ≤ 16 ^ 7 = pow-le-pow_right (omega arith) {i = i} {j = 7} (omega arith) in
    omega arith

pub small_more : (i n v : ℕ) → n < 16 ^ i → v < 16 → n * 16 + v < 16 ^ (i + 1)
small_more i n v small digit =
    let more : 16 ^ (i + 1) ≡ 16 ^ i * 16 = rw add-one (pow-suc 16 i) in
    omega arith
