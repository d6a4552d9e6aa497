-- Numbers are read back. Use `number_law`.
use Rattle.std.proofs.Common.{◌≡◌, ℕ, suc, ◌+◌, ◌%◌, ◌^◌, ◌<◌, ◌≤◌, Bool, true, false, cond, ◌&&◌, List, [], ◌∷◌, ◌++◌, Option, Some, None, length, refl, ap, ◌∙◌, arith}
use Rattle.std.specs.Prelude.{nat_le, nat_lt}
use Rattle.std.specs.List.{list_all}
use Rattle.std.specs.Char.{is_ascii_digit}
use Rattle.std.specs.Fmt.{decimal}
use Rattle.std.specs.Str.Parse.{digits_value}
use Rattle.std.proofs.Math.Seq.{take-append_seam, drop-append_seam}
use Rattle.std.proofs.lemmas.Bool.Decides.{nat_tests}
use Rattle.std.proofs.lemmas.List.Folds.{list_all-append}
use Rattle.std.proofs.lemmas.Fmt.{decimal_by_steps, decimal_is_IsNumeral, decimal_nonempty}
use Rattle.rvd_text.specs.Hex.{hex8, hex_of}
use Rattle.rvd_text.proofs.Digits.{hex_of-hex8}
use Rattle.rvd_reading.specs.Steps.{◌>>=◌}
use Rattle.rvd_reading.specs.Numbers.{at_most, begins_with_digit, digit_count, hex8_of, number_of}
use Rattle.rvd_reading.specs.Laws.{NumberLaw}

-- eight bytes and more
enough : (n : ℕ) (rest : List ℕ) → nat_le 8 (length (hex8 n ++ rest)) ≡ true
enough n rest = grind (arith, nat_tests)

pub hex8-back : (n : ℕ) (rest : List ℕ) → n < 2 ^ 32 → hex8_of (hex8 n ++ rest) ≡ Some (n, rest)
unfolding hex8_of
hex8-back n rest small =
    ap (λ (q : Bool). cond q (hex_of (hex8 n) >>= (λ m. Some (m, rest))) None) (enough n rest)
    ∙ ap (λ (o : Option ℕ). o >>= (λ m. Some (m, rest))) (hex_of-hex8 n small)

-- a decimal number has digits alone
pub decimal_digits : (n : ℕ) → n < 2 ^ 64 → list_all is_ascii_digit (decimal n) ≡ true
decimal_digits = decimal_by_steps (λ m ds. list_all is_ascii_digit ds ≡ true) (λ m l. one_digit m l) (λ m ds l h. rw (list_all-append, h) (one_digit (m % 10) (omega arith)))
  where
    one_digit : (d : ℕ) → d < 10 → list_all is_ascii_digit ((48 + d) ∷ []) ≡ true
    one_digit d l = grind (arith, nat_tests)

-- where no digit comes first, there are none
none_first : (rest : List ℕ) → begins_with_digit rest ≡ false → digit_count rest ≡ 0
none_first [] h = refl
none_first (c ∷ cs) h = rw h refl

-- the digits in front are counted
count-digits : (ds rest : List ℕ) → list_all is_ascii_digit ds ≡ true → begins_with_digit rest ≡ false → digit_count (ds ++ rest) ≡ length ds
count-digits [] rest all none = none_first rest none
count-digits (d ∷ ds) rest all none =
    elim (is_ascii_digit d) as (λ q. (q && list_all is_ascii_digit ds) ≡ true → cond q (suc (digit_count (ds ++ rest))) 0 ≡ suc (length ds)) [
      | true ↦ λ more. ap suc (count-digits ds rest more none)
      | false ↦ λ more. absurd (cc)
    ] all

-- what digits write
at_most-decimal : (max n : ℕ) → n ≤ max → n < 2 ^ 64 → at_most max (decimal n) ≡ Some n
at_most-decimal max n within small =
    let value : digits_value 10 (decimal n) ≡ n = (decimal_is_IsNumeral n small).1 in
    let some : nat_lt 0 (length (decimal n)) ≡ true = let l = decimal_nonempty n small in grind (arith, nat_tests, l) in
    let fits : nat_le n max ≡ true = grind (arith, nat_tests) in
    rw (value, some, fits) refl

pub number-back : (max n : ℕ) (rest : List ℕ) → n ≤ max → n < 2 ^ 64 → begins_with_digit rest ≡ false → number_of max (decimal n ++ rest) ≡ Some (n, rest)
unfolding number_of
number-back max n rest within small none =
    let count : digit_count (decimal n ++ rest) ≡ length (decimal n) = count-digits (decimal n) rest (decimal_digits n small) none in
    let value = at_most-decimal max n within small in
    rw (count, take-append_seam (decimal n) rest, drop-append_seam (decimal n) rest, value) refl

pub number_law : NumberLaw
number_law = record { hexadecimal = hex8-back; plain = number-back }
