-- The functions by their bodies, as walks pick them. Use `bodies_are` for those that have one of some addresses, and
-- `near_places` for those that may change with what is at an address.
use Rattle.std.proofs.Common.{◌≡◌, ℕ, Bool, true, false, ◌&&◌, ◌||◌, List, [], ◌∷◌, ◌++◌, refl, sym, ap, ◌∙◌, inl, inr, arith}
use Rattle.std.specs.Prelude.{◌==◌, filter_map, Option, Some, None}
use Rattle.std.specs.List.{list_any}
use Rattle.std.specs.Option.{option_map_or}
use Rattle.std.specs.Ordering.{eq_by_cmp, nat_cmp}
use Rattle.std.proofs.Math.Bool.{and_assoc, and_comm, or-false, or_assoc, or_comm}
use Rattle.std.proofs.lemmas.Bool.{eqb-true, false≢true, or_cases, or_left, or_right}
use Rattle.std.proofs.lemmas.Bool.Decides.{nat_tests}
use Rattle.std.proofs.lemmas.List.Folds.{list_any-append}
use Rattle.rvd_fact.specs.declared.keys.Kind.{Kind}
use Rattle.rvd_fact.specs.declared.keys.Kind.TheVariants as kind
use Rattle.rvd_fact.specs.declared.keys.Key.{Key}
use Rattle.rvd_fact.specs.declared.cells.Cell.{Cell}
use Rattle.rvd_fact.specs.declared.values.Value.{Value}
use Rattle.rvd_fact.specs.declared.values.Value.TheVariants.{Body as BodyOf}
use Rattle.rvd_fact.specs.Program.{Program, cell_at}
use Rattle.rvd_fact.specs.Ranges.{in_range}
use Rattle.rvd_fact.specs.Valid.{IsValid}
use Rattle.rvd_ask.specs.Places.{body_key, word_before}
use Rattle.rvd_ask.specs.Wake.{body_has, body_has_from, body_with, cell_body_with, goes_to, is_near}
use Rattle.rvd_wake.specs.Walks.{has_place}
use Rattle.rvd_wake.specs.Picks.{at_if, body_meets, body_place, from_of, is_body}
use Rattle.rvd_wake.proofs.Bools.{agree, any-filter_map, any_any, any_as, any_none}
use Rattle.rvd_wake.proofs.FlowPlaces.{has_place-push}
use Rattle.rvd_wake.proofs.FromPlaces.{at_if_is}
use Rattle.rvd_wake.proofs.Picks.{at_key, cell_passes, stands, IsTold}

told_body : IsTold is_body kind.Body
told_body = record { passes = refl; only = only_body; single = refl }
  where
    only_body : (j : Kind) → is_body j ≡ true → j ≡ kind.Body
    only_body kind.Body h = refl
    only_body k h = absurd (false≢true h)

-- lists that have the same numbers pass the same tests
same_eq : (q x : ℕ) → eq_by_cmp nat_cmp q x ≡ (q == x)
same_eq q x = grind (arith, nat_tests)

found_in : (f : ℕ → Bool) (q : ℕ) (ys : List ℕ) → f q ≡ true → list_any (eq_by_cmp nat_cmp q) ys ≡ true → list_any f ys ≡ true
found_in f q [] holds h = absurd (false≢true h)
found_in f q (y ∷ ys) holds h = elim (or_cases (eq_by_cmp nat_cmp q y) (list_any (eq_by_cmp nat_cmp q) ys) h) [
  | inl here ↦ or_left (f y) (list_any f ys) (ap f (sym (eqb-true q y (sym (same_eq q y) ∙ here))) ∙ holds)
  | inr later ↦ or_right (f y) (list_any f ys) (found_in f q ys holds later)
]

itself : (q : ℕ) → eq_by_cmp nat_cmp q q ≡ true
itself q = grind (arith, nat_tests)

any_in : (f : ℕ → Bool) (xs ys : List ℕ) → ((q : ℕ) → list_any (eq_by_cmp nat_cmp q) xs ≡ true → list_any (eq_by_cmp nat_cmp q) ys ≡ true) → list_any f xs ≡ true → list_any f ys ≡ true
any_in f [] ys all h = absurd (false≢true h)
any_in f (x ∷ xs) ys all h = elim (or_cases (f x) (list_any f xs) h) [
  | inl here ↦ found_in f x ys here (all x (or_left (eq_by_cmp nat_cmp x x) (list_any (eq_by_cmp nat_cmp x) xs) (itself x)))
  | inr later ↦ any_in f xs ys (λ q has. all q (or_right (eq_by_cmp nat_cmp q x) (list_any (eq_by_cmp nat_cmp q) xs) has)) later
]

same_any : (f : ℕ → Bool) (xs ys : List ℕ) → ((q : ℕ) → list_any (eq_by_cmp nat_cmp q) xs ≡ list_any (eq_by_cmp nat_cmp q) ys) → list_any f xs ≡ list_any f ys
same_any f xs ys same = agree (list_any f xs) (list_any f ys) (any_in f xs ys (λ q has. sym (same q) ∙ has)) (any_in f ys xs (λ q has. same q ∙ has))

-- a body that has one of some addresses
value_meets : (addresses : List ℕ) (v : Value) → body_meets addresses v ≡ list_any (λ a. body_with a v) addresses
value_meets addresses (BodyOf ranges) = any_any (λ r a. in_range a r) ranges addresses
value_meets addresses v = sym (any_none addresses)

cell_meets : (addresses : List ℕ) (o : Option Cell) → cell_passes (body_meets addresses) o ≡ list_any (λ a. cell_body_with a o) addresses
cell_meets addresses None = sym (any_none addresses)
cell_meets addresses (Some c) = value_meets addresses c.value

and_turned : (a b c : Bool) → (a && (b && c)) ≡ (b && (c && a))
and_turned a b c = and_comm a (b && c) ∙ and_assoc b c a

pub bodies_are : (S : Program) (addresses list : List ℕ) (e : ℕ) → IsValid S → ((q : ℕ) → list_any (eq_by_cmp nat_cmp q) addresses ≡ list_any (eq_by_cmp nat_cmp q) list) → has_place e (filter_map (λ (x : Key × Cell). body_place addresses x.0 x.1.value) S) ≡ list_any (body_has S e) list
bodies_are S addresses list e valid same =
    any-filter_map (λ p. p == e) (λ (x : Key × Cell). body_place addresses x.0 x.1.value) S
    ∙ any_as _ (stands is_body (body_meets addresses) e) (λ x. at_if_is (is_body x.0.kind && body_meets addresses x.1.value) x.0 e ∙ and_turned (x.0.at == e) (is_body x.0.kind) (body_meets addresses x.1.value)) S
    ∙ at_key S is_body kind.Body (body_meets addresses) e valid told_body
    ∙ cell_meets addresses (cell_at S (body_key e))
    ∙ same_any (body_has S e) addresses list same

-- the bodies that have a from of z
picked_passes : (f : ℕ → Bool) (b : Bool) (k : Key) → option_map_or f (at_if b k) false ≡ (b && f k.at)
picked_passes f true k = refl
picked_passes f false k = refl

from_has : (S : Program) (z e : ℕ) → list_any (body_has S e) (filter_map (λ (x : Key × Cell). from_of z x.0 x.1.value) S) ≡ body_has_from S z e
from_has S z e = any-filter_map (body_has S e) (λ (x : Key × Cell). from_of z x.0 x.1.value) S ∙ any_as _ (λ (x : Key × Cell). goes_to z x.1.value && body_has S e x.0.at) (λ x. picked_passes (body_has S e) (goes_to z x.1.value) x.0) S

any-push : (f : ℕ → Bool) (xs : List ℕ) (y : ℕ) → list_any f (xs ++ y ∷ []) ≡ (list_any f xs || f y)
any-push f xs y = list_any-append f xs (y ∷ []) ∙ ap (λ b. list_any f xs || b) (or-false (f y))

or_four : (n a b f : Bool) → (((f || a) || b) || n) ≡ (n || (a || (b || f)))
or_four n a b f = or_comm ((f || a) || b) n ∙ ap (λ x. n || x) (or_assoc f a b ∙ or_comm f (a || b) ∙ or_assoc a b f)

pub near_places : (S : Program) (z e : ℕ) (froms some ways places all : List ℕ) → froms ≡ filter_map (λ (x : Key × Cell). from_of z x.0 x.1.value) S → some ≡ froms ++ z ∷ [] → ways ≡ some ++ word_before z ∷ [] → has_place e places ≡ list_any (body_has S e) ways → all ≡ places ++ z ∷ [] → has_place e all ≡ is_near S z e
near_places S z e froms some ways places all picked with_z with_word having pushed =
    let f = body_has S e in
    let of_froms : list_any f froms ≡ body_has_from S z e = ap (list_any f) picked ∙ from_has S z e in
    let of_some : list_any f some ≡ (body_has_from S z e || f z) = ap (list_any f) with_z ∙ any-push f froms z ∙ ap (λ b. b || f z) of_froms in
    let of_ways : list_any f ways ≡ ((body_has_from S z e || f z) || f (word_before z)) = ap (list_any f) with_word ∙ any-push f some (word_before z) ∙ ap (λ b. b || f (word_before z)) of_some in
    ap (has_place e) pushed ∙ has_place-push e z places ∙ ap (λ b. b || e == z) (having ∙ of_ways) ∙ or_four (e == z) (f z) (f (word_before z)) (body_has_from S z e)
