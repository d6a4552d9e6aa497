-- A number that is read in a range lies in it.
use Rattle.std.proofs.Common.{◌≡◌, ℕ, ◌≤◌, Bool, true, false, cond, List, Option, Some, None, Result, Ok, Err, refl, subst}
use Rattle.std.specs.Prelude.{nat_le, ◌&&◌}
use Rattle.std.proofs.lemmas.Bool.{and_parts, leb-true}
use Rattle.rvd_fact.specs.declared.causes.TextCause.{TextCause}
use Rattle.rvd_fact.specs.declared.causes.TextCause.TheVariants.{BadNumber}
use Rattle.rvd_script.specs.Parts.{number_of, within, decimal_of}
use Rattle.rvd_script.specs.Steps.{given}

same_number : (m n : ℕ) → given BadNumber (Some m) ≡ Ok n → m ≡ n
same_number m n is = cc

in_range : (low high m n : ℕ) (b : Bool) → (nat_le low m && nat_le m high) ≡ b → given BadNumber (cond b (Some m) None) ≡ Ok n → (low ≤ n) × (n ≤ high)
in_range low high m n true b is =
    let parts = and_parts (nat_le low m) (nat_le m high) b in
    subst (λ (x : ℕ). (low ≤ x) × (x ≤ high)) (same_number m n is) (leb-true low m parts.0, leb-true m high parts.1)
in_range low high m n false b is = cc

read_in_range : (low high n : ℕ) (o : Option ℕ) → given BadNumber (within low high o) ≡ Ok n → (low ≤ n) × (n ≤ high)
read_in_range low high n None is = cc
read_in_range low high n (Some m) is = in_range low high m n (nat_le low m && nat_le m high) refl is

pub number_of-within : (low high : ℕ) (word : List ℕ) (n : ℕ) → number_of low high word ≡ Ok n → (low ≤ n) × (n ≤ high)
number_of-within low high word n is = read_in_range low high n (decimal_of word) is
