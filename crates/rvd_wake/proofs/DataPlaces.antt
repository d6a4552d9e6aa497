-- Where data is referred to, as a walk picks it. Use `data_are` for the starts of strings that may have one of some bytes.
use Rattle.std.proofs.Common.{◌≡◌, ℕ, ◌+◌, ◌<◌, Bool, true, false, cond, ◌&&◌, ◌||◌, refl, sym, ap, ◌∙◌}
use Rattle.std.specs.Prelude.{◌==◌, filter_map, nat_le, nat_lt, Option, Some, None}
use Rattle.std.specs.Option.{option_map_or}
use Rattle.std.proofs.Math.Bool.{and-false, and_assoc}
use Rattle.std.proofs.lemmas.Bool.{eqb-true, lt-ltb}
use Rattle.rvd_fact.specs.declared.keys.Key.{Key}
use Rattle.rvd_fact.specs.declared.cells.Cell.{Cell}
use Rattle.rvd_fact.specs.declared.values.RefClass.TheVariants.{Datum, Read}
use Rattle.rvd_fact.specs.Program.{Program}
use Rattle.rvd_fact.specs.Memory.{refers}
use Rattle.rvd_ask.specs.Strings.{is_read_at}
use Rattle.rvd_ask.specs.Wake.{meets_string}
use Rattle.rvd_wake.specs.Walks.{has_place}
use Rattle.rvd_wake.specs.Picks.{data_at, data_near, if_close, is_close}
use Rattle.rvd_wake.proofs.Bools.{any-filter_map, any_and, any_as, any_or}
use Rattle.rvd_wake.proofs.Picks.{data_is}

chosen : (b : Bool) (a t : ℕ) → option_map_or (λ p. p == t) (cond b (Some a) None) false ≡ (b && a == t)
chosen true a t = refl
chosen false a t = refl

-- a test of one of two numbers that are one
at_same : (test : ℕ → Bool) (a t : ℕ) → (test a && a == t) ≡ (test t && a == t)
at_same test a t = elim (a == t) as (λ b. (a == t) ≡ b → (test a && b) ≡ (test t && b)) [
  | true ↦ λ e. ap (λ k. test k && true) (eqb-true a t e)
  | false ↦ λ e. and-false (test a) ∙ sym (and-false (test t))
] refl

close_is : (z n t : ℕ) (o : Option ℕ) → option_map_or (λ p. p == t) (if_close z n o) false ≡ (is_close z n t && option_map_or (λ p. p == t) o false)
close_is z n t None = sym (and-false (is_close z n t))
close_is z n t (Some a) = chosen (is_close z n a) a t ∙ at_same (is_close z n) a t

regrouped : (p a b r : Bool) → p ≡ true → ((a && b) && r) ≡ (p && (a && (b && r)))
regrouped p a b r holds = and_assoc a b r ∙ sym (ap (λ q. q && (a && (b && r))) holds)

pub data_are : (S : Program) (z n t : ℕ) → 0 < n → has_place t (filter_map (λ (e : Key × Cell). data_near z n e.1.value) S) ≡ meets_string S z n t
data_are S z n t some =
    any-filter_map (λ p. p == t) (λ (e : Key × Cell). data_near z n e.1.value) S
    ∙ any_as _ (λ (e : Key × Cell). is_close z n t && (refers t Datum e.1.value || refers t Read e.1.value)) (λ e. close_is z n t (data_at e.1.value) ∙ ap (λ b. is_close z n t && b) (data_is t e.1.value)) S
    ∙ any_and (is_close z n t) (λ (e : Key × Cell). refers t Datum e.1.value || refers t Read e.1.value) S
    ∙ ap (λ b. is_close z n t && b) (any_or (λ (e : Key × Cell). refers t Datum e.1.value) (λ e. refers t Read e.1.value) S)
    ∙ regrouped (nat_lt 0 n) (nat_le z (t + 255)) (nat_lt t (z + n)) (is_read_at S t) (lt-ltb 0 n some)
