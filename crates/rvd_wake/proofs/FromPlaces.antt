-- The places of references, as walks pick them. Use `froms_are` for those to an address, and `near_are` for those to the
-- words that meet some bytes.
use Rattle.std.proofs.Common.{◌≡◌, ℕ, Bool, true, false, ◌&&◌, refl, sym, ap, ◌∙◌}
use Rattle.std.specs.Prelude.{◌==◌, filter_map}
use Rattle.std.specs.List.{list_any}
use Rattle.std.specs.Option.{option_map_or}
use Rattle.std.proofs.Math.Bool.{and-false, and-true}
use Rattle.std.proofs.lemmas.Bool.{and_from, and_parts, eq-eqb, eqb-true}
use Rattle.rvd_fact.specs.declared.keys.Key.{Key}
use Rattle.rvd_fact.specs.declared.cells.Cell.{Cell}
use Rattle.rvd_fact.specs.declared.values.Value.{Value}
use Rattle.rvd_fact.specs.declared.values.Value.TheVariants.{Ref}
use Rattle.rvd_fact.specs.Program.{Program}
use Rattle.rvd_ask.specs.Wake.{around, goes_to, is_from, meets}
use Rattle.rvd_wake.specs.Walks.{has_place}
use Rattle.rvd_wake.specs.Picks.{at_if, from_near, from_of, goes_near}
use Rattle.rvd_wake.proofs.Bools.{agree, any-filter_map, any_and, any_any, any_as, any_elim, any_none}
use Rattle.rvd_wake.proofs.Words.{in_around, met}

pub at_if_is : (b : Bool) (k : Key) (a : ℕ) → option_map_or (λ p. p == a) (at_if b k) false ≡ (k.at == a && b)
at_if_is true k a = sym (and-true (k.at == a))
at_if_is false k a = sym (and-false (k.at == a))

pub froms_are : (S : Program) (t a : ℕ) → has_place a (filter_map (λ (e : Key × Cell). from_of t e.0 e.1.value) S) ≡ is_from S t a
froms_are S t a = any-filter_map (λ p. p == a) (λ (e : Key × Cell). from_of t e.0 e.1.value) S ∙ any_as _ (λ (e : Key × Cell). e.0.at == a && goes_to t e.1.value) (λ e. at_if_is (goes_to t e.1.value) e.0 a) S

none_around : (z n : ℕ) (b : Bool) → false ≡ list_any (λ t. meets z n t && (b && false)) (around z n)
none_around z n b = sym (any_as (λ t. meets z n t && (b && false)) (λ t. false) (λ t. ap (λ c. meets z n t && c) (and-false b) ∙ and-false (meets z n t)) (around z n) ∙ any_none (around z n))

-- a reference goes to one of the words
near_is : (z n : ℕ) (b : Bool) (v : Value) → (b && goes_near z n v) ≡ list_any (λ t. meets z n t && (b && goes_to t v)) (around z n)
near_is z n b (Ref to class) =
    agree (b && meets z n to) (list_any (λ t. meets z n t && (b && to == t)) (around z n))
    (λ h.
    let parts = and_parts b (meets z n to) h in
    let m = met z n to parts.1 in
    in_around (λ t. meets z n t && (b && to == t)) z n to m.above m.below (and_from (meets z n to) (b && to == to) parts.1 (and_from b (to == to) parts.0 (eq-eqb to to refl))))
    (λ h. any_elim (λ t. meets z n t && (b && to == t)) (around z n) h (λ t passes.
    let parts = and_parts (meets z n t) (b && to == t) passes in
    let rest = and_parts b (to == t) parts.1 in
    and_from b (meets z n to) rest.0 (ap (meets z n) (eqb-true to t rest.1) ∙ parts.0)))
near_is z n b v = and-false b ∙ none_around z n b

pub near_are : (S : Program) (z n a : ℕ) → has_place a (filter_map (λ (e : Key × Cell). from_near z n e.0 e.1.value) S) ≡ list_any (λ t. meets z n t && is_from S t a) (around z n)
near_are S z n a =
    any-filter_map (λ p. p == a) (λ (e : Key × Cell). from_near z n e.0 e.1.value) S
    ∙ any_as _ (λ (e : Key × Cell). list_any (λ t. meets z n t && (e.0.at == a && goes_to t e.1.value)) (around z n)) (λ e. at_if_is (goes_near z n e.1.value) e.0 a ∙ near_is z n (e.0.at == a) e.1.value) S
    ∙ any_any (λ (e : Key × Cell) t. meets z n t && (e.0.at == a && goes_to t e.1.value)) S (around z n)
    ∙ any_as _ (λ t. meets z n t && is_from S t a) (λ t. any_and (meets z n t) (λ (e : Key × Cell). e.0.at == a && goes_to t e.1.value) S) (around z n)
