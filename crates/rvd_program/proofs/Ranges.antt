-- What a number, a list or a set of ranges owes by its type, as the tests that `suits` makes of it.
use Rattle.std.proofs.Common.{◌≡◌, ℕ, suc, ◌+◌, ◌<◌, Bool, true, false, not, ◌&&◌, List, [], ◌∷◌, get_or, refl, sym, ap, ◌∙◌}
use Rattle.std.specs.Prelude.{nat_lt}
use Rattle.std.specs.List.{list_any}
use Rattle.std.proofs.lemmas.Bool.{and_from, lt-ltb}
use Rattle.rvd_fact.specs.declared.values.Value.{Value}
use Rattle.rvd_fact.specs.Program.{Program}
use Rattle.rvd_fact.specs.Ranges.{AreRanges, is_range_set}
use Rattle.rvd_fact.specs.Valid.{are_bytes}
use Rattle.rvd_fact.proofs.RangeLists.{are_ranges_test}
use Rattle.rvd_program.specs.Checks.{crowds, is_free}

-- a list of numbers below 256 has bytes alone
pub bytes_all : (xs : List ℕ) → ((i : ℕ) → get_or xs i 0 < 256) → are_bytes xs ≡ true
bytes_all [] small = refl
bytes_all (x ∷ xs) small = and_from (nat_lt x 256) (are_bytes xs) (lt-ltb x 256 (small 0)) (bytes_all xs (λ i. small (suc i)))

pub with_bytes : (b : Bool) (xs : List ℕ) → ((i : ℕ) → get_or xs i 0 < 256) → b ≡ (b && are_bytes xs)
with_bytes true xs small = sym (bytes_all xs small)
with_bytes false xs small = refl

pub ranges_are : (rs : List (ℕ × ℕ)) → AreRanges rs → true ≡ is_range_set rs
ranges_are rs h = sym (are_ranges_test 0 rs h)

-- no bytes are crowded by nothing
pub none_crowds : (len : Value → ℕ) (a : ℕ) (T : Program) → list_any (crowds len a 0) T ≡ false
none_crowds len a [] = refl
none_crowds len a (e ∷ es) = none_crowds len a es

pub free_of_none : (len : Value → ℕ) (T : Program) (a n : ℕ) → n ≡ 0 → true ≡ is_free len T a n
free_of_none len T a n h = sym (ap (is_free len T a) h ∙ ap not (none_crowds len a T))
