-- What stands behind a reply: nothing, a semicolon or a line feed. Use `closing` for what holds of both signs, and `ended` for what
-- none of the three begins with.
use Rattle.std.proofs.Common.{◌≡◌, ℕ, ◌==◌, Bool, true, false, ◌||◌, List, [], ◌∷◌, codes, refl, sym, subst}
use Rattle.std.specs.Prelude.{nat_eq}
use Rattle.std.specs.List.{starts_with}
use Rattle.std.proofs.lemmas.Bool.{eqb-true}
use Rattle.rvd_reading.specs.Numbers.{begins_with_digit}
use Rattle.rvd_line_reading.specs.Replies.{has_ended}

-- a semicolon or a line feed
pub closing : (P : ℕ → Type 0) → P 59 → P 10 → (c : ℕ) → (c == 59 || c == 10) ≡ true → P c
closing P some line c h =
    elim (c == 59) as (λ q. c == 59 ≡ q → (q || c == 10) ≡ true → P c) [
      | true ↦ λ is _. subst P (sym (eqb-true c 59 is)) some
      | false ↦ λ _ more. subst P (sym (eqb-true c 10 more)) line
    ] refl h

pub ended : (test : List ℕ → Bool) → test [] ≡ false → ((cs : List ℕ) → test (59 ∷ cs) ≡ false) → ((cs : List ℕ) → test (10 ∷ cs) ≡ false) → (rest : List ℕ) → has_ended rest ≡ true → test rest ≡ false
ended test none some line [] h = none
ended test none some line (c ∷ cs) h = closing (λ x. test (x ∷ cs) ≡ false) (some cs) (line cs) c h

pub no_digit : (rest : List ℕ) → has_ended rest ≡ true → begins_with_digit rest ≡ false
no_digit rest h = ended begins_with_digit refl (λ cs. refl) (λ cs. refl) rest h

pub no_space : (rest : List ℕ) → has_ended rest ≡ true → starts_with nat_eq rest (codes " ") ≡ false
no_space rest h = ended (λ bs. starts_with nat_eq bs (codes " ")) refl (λ cs. refl) (λ cs. refl) rest h

pub no_comma : (rest : List ℕ) → has_ended rest ≡ true → starts_with nat_eq rest (codes ",") ≡ false
no_comma rest h = ended (λ bs. starts_with nat_eq bs (codes ",")) refl (λ cs. refl) (λ cs. refl) rest h
