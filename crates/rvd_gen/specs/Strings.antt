-- The strings of an image: string i is the word `string`, a space, and i in eight decimal digits, with a zero byte at its end.
use Rattle.std.specs.Prelude.{ℕ, ◌+◌, ◌/◌, ◌%◌, List, [], ◌∷◌, ◌++◌, flat_map, codes}
use Rattle.std.specs.List.{range_with_len}

-- the decimal digit of a number at a place, by what a one is worth there
abbrev pub digit : ℕ → ℕ → ℕ
digit number worth = 48 + number / worth % 10

unfoldable pub string : ℕ → List ℕ
string i =
    codes "string " ++ digit i 10000000 ∷ digit i 1000000 ∷ digit i 100000 ∷ digit i 10000
    ∷ digit i 1000 ∷ digit i 100 ∷ digit i 10 ∷ digit i 1 ∷ 0 ∷ []

-- n strings
abbrev pub strings : ℕ → List ℕ
strings n = flat_map string (range_with_len 0 n)
