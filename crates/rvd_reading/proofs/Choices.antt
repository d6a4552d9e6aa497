-- Readers that choose by a first word. Use `choose-skips` where the bytes begin with none of the words, and `skips` for a
-- number in front.
use Rattle.std.proofs.Common.{◌≡◌, ℕ, ◌^◌, ◌<◌, Bool, true, false, cond, ◌&&◌, List, [], ◌∷◌, ◌++◌, length, drop, refl, ap, ◌∙◌, arith}
use Rattle.std.specs.Prelude.{nat_eq}
use Rattle.std.specs.List.{list_all, starts_with}
use Rattle.std.specs.Char.{is_ascii_digit}
use Rattle.std.proofs.lemmas.Bool.Decides.{nat_tests}
use Rattle.std.specs.Fmt.{decimal}
use Rattle.std.proofs.lemmas.Fmt.{decimal_nonempty}
use Rattle.rvd_reading.specs.Steps.{Step}
use Rattle.rvd_reading.specs.Fixed.{choose}
use Rattle.rvd_reading.proofs.NumbersBack.{decimal_digits}

-- the bytes begin with none of the words
abbrev pub Skips : {A : Type 0} → List ℕ → List (List ℕ × (List ℕ → Step A)) → Type 0
Skips bytes [] = Unit {0}
Skips bytes (entry ∷ entries) = (starts_with nat_eq bytes entry.0 ≡ false) × Skips bytes entries

pub choose-skips : {A : Type 0} (entries : List (List ℕ × (List ℕ → Step A))) (other : List ℕ → Step A) (bytes : List ℕ) → Skips bytes entries → choose entries other bytes ≡ other bytes
choose-skips [] other bytes h = refl
choose-skips (entry ∷ entries) other bytes h = ap (λ (q : Bool). cond q (entry.1 (drop (length entry.0) bytes)) (choose entries other bytes)) h.0 ∙ choose-skips entries other bytes h.1

-- no digit is a letter
differs : (w d : ℕ) → 57 < w → is_ascii_digit d ≡ true → nat_eq w d ≡ false
differs w d l h = grind (arith, nat_tests)

-- digits don't begin with a word of letters
word_skips : (ds rest : List ℕ) (w : ℕ) (ws : List ℕ) → 0 < length ds → list_all is_ascii_digit ds ≡ true → 57 < w → starts_with nat_eq (ds ++ rest) (w ∷ ws) ≡ false
word_skips [] rest w ws some all l = absurd (omega arith)
word_skips (d ∷ ds) rest w ws some all l =
    elim (is_ascii_digit d) as (λ q. is_ascii_digit d ≡ q → (q && list_all is_ascii_digit ds) ≡ true → starts_with nat_eq (d ∷ ds ++ rest) (w ∷ ws) ≡ false) [
      | true ↦ λ digit _. rw (differs w d l digit) refl
      | false ↦ λ _ none. absurd (cc)
    ] refl all

pub skips : (n : ℕ) (rest : List ℕ) (w : ℕ) (ws : List ℕ) → n < 2 ^ 64 → 57 < w → starts_with nat_eq (decimal n ++ rest) (w ∷ ws) ≡ false
skips n rest w ws small l = word_skips (decimal n) rest w ws (decimal_nonempty n small) (decimal_digits n small) l
