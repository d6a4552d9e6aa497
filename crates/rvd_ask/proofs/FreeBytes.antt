-- Bytes that no unit has, asked for one by one. Use `free-more`, `asks-more`, `free-end` and `asks-end` for the steps of a
-- loop over them, and `free_local` where another program answers the same.
use Rattle.std.proofs.Common.{◌≡◌, ℕ, zero, suc, ◌+◌, ◌-◌, ◌<◌, true, false, ◌&&◌, [], ◌∷◌, ◌++◌, Option, Some, None, refl, sym, ap, ◌∙◌, arith}
use Rattle.std.specs.Prelude.{is_none, is_some}
use Rattle.std.proofs.lemmas.Bool.{false≢true}
use Rattle.rvd_fact.specs.Program.{Program}
use Rattle.rvd_fact.specs.Memory.{cover}
use Rattle.rvd_ask.specs.declared.asks.Ask.TheVariants as ask
use Rattle.rvd_ask.specs.Answers.{only_if, told, Hold}
use Rattle.rvd_ask.specs.Flow.{free_asks, is_free}
use Rattle.rvd_ask.proofs.Told.{and_then, same_at, when_true}

unfound : (o : Option ℕ) → is_some o ≡ false → is_none o ≡ true
unfound None h = refl
unfound (Some x) h = absurd (false≢true (sym h))

taken : (o : Option ℕ) → is_some o ≡ true → is_none o ≡ false
taken None h = absurd (false≢true h)
taken (Some x) h = refl

-- the bytes at t + d and behind it, of n bytes from t on
module _ (S : Program) (t d n : ℕ) (low : d < n) where
  one_more : n - d ≡ suc (n - (d + 1))
  one_more = omega (arith, low)

  next_place : t + d + 1 ≡ t + (d + 1)
  next_place = omega arith

  pub free-more : is_some (cover S (t + d)) ≡ false → is_free S (t + d) (n - d) ≡ is_free S (t + (d + 1)) (n - (d + 1))
  free-more h =
      ap (is_free S (t + d)) one_more ∙ ap (λ b. b && is_free S (t + d + 1) (n - (d + 1))) (unfound (cover S (t + d)) h)
      ∙ ap (λ x. is_free S x (n - (d + 1))) next_place

  pub asks-more : is_some (cover S (t + d)) ≡ false → free_asks S (t + d) (n - d) ≡ (ask.Cover (t + d) ∷ []) ++ free_asks S (t + (d + 1)) (n - (d + 1))
  asks-more h =
      ap (free_asks S (t + d)) one_more ∙ ap (λ b. ask.Cover (t + d) ∷ only_if b (free_asks S (t + d + 1) (n - (d + 1)))) (unfound (cover S (t + d)) h)
      ∙ ap (λ x. ask.Cover (t + d) ∷ free_asks S x (n - (d + 1))) next_place

  pub free-end : is_some (cover S (t + d)) ≡ true → is_free S (t + d) (n - d) ≡ false
  free-end h = ap (is_free S (t + d)) one_more ∙ ap (λ b. b && is_free S (t + d + 1) (n - (d + 1))) (taken (cover S (t + d)) h)

  pub asks-end : is_some (cover S (t + d)) ≡ true → free_asks S (t + d) (n - d) ≡ ask.Cover (t + d) ∷ []
  asks-end h = ap (free_asks S (t + d)) one_more ∙ ap (λ b. ask.Cover (t + d) ∷ only_if b (free_asks S (t + d + 1) (n - (d + 1)))) (taken (cover S (t + d)) h)

-- a program that answers the same has the same bytes free
pub free_local : (P S : Program) (n t : ℕ) → Hold S (told P (free_asks P t n)) → is_free P t n ≡ is_free S t n
free_local P S zero t h = refl
free_local P S (suc n) t h =
    and_then (is_none (cover P t)) (is_none (cover S t)) (is_free P (t + 1) n) (is_free S (t + 1) n) (ap is_none (same_at (cover P t) (cover S t) h.0))
    (λ free. free_local P S n (t + 1) (when_true P S (is_none (cover P t)) (free_asks P (t + 1) n) free h.1))
