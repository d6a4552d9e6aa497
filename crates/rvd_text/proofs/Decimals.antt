-- Decimal numbers: what is left of the digits makes a number no smaller. Use `too_large` where a number outgrows its type
-- before its last digit.
use Rattle.std.proofs.Common.{◌≡◌, ℕ, suc, ◌+◌, ◌*◌, ◌^◌, ◌<◌, ◌≤◌, List, [], ◌∷◌, arith, length, drop, get_or, drop-cons}
use Rattle.std.specs.Char.{digit_value}
use Rattle.std.specs.Str.Parse.{digits_value, digits_value_after}

grows : (n : ℕ) (ds : List ℕ) → n ≤ digits_value_after 10 n ds
grows n [] = omega arith
grows n (d ∷ ds) = let more = grows (n * 10 + digit_value d) ds in omega arith

pub too_large : (ds : List ℕ) (i n : ℕ) → i < length ds → digits_value_after 10 n (drop i ds) ≡ digits_value 10 ds → 2 ^ 64 ≤ n * 10 + digit_value (get_or ds i 0) → 2 ^ 64 ≤ digits_value 10 ds
too_large ds i n lt e large =
    let f : digits_value_after 10 n (get_or ds i 0 ∷ drop (suc i) ds) ≡ digits_value 10 ds = rw (drop-cons ds i 0) at e in
    let more = grows (n * 10 + digit_value (get_or ds i 0)) (drop (suc i) ds) in
    omega (arith, f)
