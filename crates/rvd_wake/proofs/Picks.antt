-- What the walks pick, by the cells of a valid program. Use `at_key` for the facts of a kind that has one fact at an address,
-- and `candidates_are` for the places of candidates.
use Rattle.std.proofs.Common.{◌≡◌, ℕ, ◌≤◌, Bool, true, false, ◌&&◌, ◌||◌, not, Option, Some, None, refl, sym, ap, ◌∙◌, cond, arith}
use Rattle.std.specs.Prelude.{◌==◌, nat_le, filter_map}
use Rattle.std.specs.List.{list_any}
use Rattle.std.specs.Option.{option_map_or}
use Rattle.std.proofs.Math.Bool.{and-false, and-or_distrib_right, and-true, or-false}
use Rattle.std.proofs.lemmas.Bool.{and_from, and_parts, eqb-true, eq-eqb, false≢true, leb-true}
use Rattle.rvd_fact.specs.declared.keys.Kind.{Kind}
use Rattle.rvd_fact.specs.declared.keys.Kind.TheVariants as kind
use Rattle.rvd_fact.specs.declared.keys.Key.{Key}
use Rattle.rvd_fact.specs.declared.cells.Cell.{Cell}
use Rattle.rvd_fact.specs.declared.values.RefClass.TheVariants.{Call, Datum, Read}
use Rattle.rvd_fact.specs.declared.values.Value.{Value}
use Rattle.rvd_fact.specs.declared.values.Value.TheVariants.{Ref}
use Rattle.rvd_fact.specs.Program.{Program, cell_at, is_gone, is_present}
use Rattle.rvd_fact.specs.Memory.{key_of, refers}
use Rattle.rvd_fact.specs.Valid.{IsValid, is_address, is_of, is_whole, may_stand, suits, top_sub}
use Rattle.rvd_fact.proofs.Scans.{found, scanned, Found}
use Rattle.rvd_ask.specs.declared.asks.Analyzer.{Analyzer}
use Rattle.rvd_ask.specs.declared.asks.Analyzer.TheVariants.{Flow, Refs, Funcs, Body, Strings}
use Rattle.rvd_ask.specs.Wake.{candidate_of}
use Rattle.rvd_wake.specs.Walks.{AreJust}
use Rattle.rvd_wake.specs.Picks.{called, candidate_place, data_at, is_func, is_unit, starts_flow}
use Rattle.rvd_wake.proofs.Bools.{agree, any-filter_map, any_as, any_or}
use Rattle.rvd_fact.proofs.Suiting.{sub_there}

-- whether a cell is there and its value passes
abbrev pub cell_passes : (Value → Bool) → Option Cell → Bool
cell_passes q None = false
cell_passes q (Some c) = q c.value

-- whether an entry is of a kind, passes and stands at an address
abbrev pub stands : (Kind → Bool) → (Value → Bool) → ℕ → Key × Cell → Bool
stands of_kind q a e = of_kind e.0.kind && (q e.1.value && e.0.at == a)

-- a kind that a test tells, with one fact at an address
pub record IsTold (of_kind : Kind → Bool) (k : Kind) : Type 0 where
  pub passes : of_kind k ≡ true
  pub only : (j : Kind) → of_kind j ≡ true → j ≡ k
  pub single : top_sub k ≡ 0

key_is : (S : Program) (of_kind : Kind → Bool) (k : Kind) (q : Value → Bool) (a : ℕ) → IsValid S → IsTold of_kind k → (f : Found (stands of_kind q a) S) → (f.key ≡ key_of k a) × (q f.cell.value ≡ true)
key_is S of_kind k q a valid told f =
    let parts = and_parts (of_kind f.key.kind) (q f.cell.value && f.key.at == a) f.passes in
    let rest = and_parts (q f.cell.value) (f.key.at == a) parts.1 in
    let same_kind : f.key.kind ≡ k = told.only f.key.kind parts.0 in
    let same_at : f.key.at ≡ a = eqb-true f.key.at a rest.1 in
    let bound : f.key.sub ≤ top_sub f.key.kind = sub_there f.key f.cell (valid.cells f.key f.cell f.here) in
    let top : top_sub f.key.kind ≡ 0 = ap top_sub same_kind ∙ told.single in
    let same_sub : f.key.sub ≡ 0 = omega arith in
    ((λ i. record { at = same_at i; kind = same_kind i; sub = same_sub i }), rest.0)

-- a walk over the facts of a kind finds the one at an address
pub at_key : (S : Program) (of_kind : Kind → Bool) (k : Kind) (q : Value → Bool) (a : ℕ) → IsValid S → IsTold of_kind k → list_any (stands of_kind q a) S ≡ cell_passes q (cell_at S (key_of k a))
at_key S of_kind k q a valid told =
    agree (list_any (stands of_kind q a) S) (cell_passes q (cell_at S (key_of k a)))
    (λ h.
    let f : Found (stands of_kind q a) S = found (stands of_kind q a) S valid.in_order h in
    let is = key_is S of_kind k q a valid told f in
    ap (λ (key : Key). cell_passes q (cell_at S key)) (sym is.0) ∙ ap (cell_passes q) f.here ∙ is.1)
    (λ h. back (cell_at S (key_of k a)) refl h)
  where
    back : (o : Option Cell) → cell_at S (key_of k a) ≡ o → cell_passes q o ≡ true → list_any (stands of_kind q a) S ≡ true
    back None e h = absurd (false≢true h)
    back (Some c) e h = scanned (stands of_kind q a) S (record { key = key_of k a; cell = c; here = e; passes = and_from (of_kind k) (q c.value && a == a) told.passes (and_from (q c.value) (a == a) h (eq-eqb a a refl)) })

-- the kinds of the walks
is_mark : Kind → Bool
is_mark kind.Mark = true
is_mark k = false

told_mark : IsTold is_mark kind.Mark
unfolding is_mark
told_mark = record { passes = refl; only = only_mark; single = refl }
  where
    only_mark : (j : Kind) → is_mark j ≡ true → j ≡ kind.Mark
    only_mark kind.Mark h = refl
    only_mark k h = absurd (false≢true h)

pub told_func : IsTold is_func kind.Func
told_func = record { passes = refl; only = only_func; single = refl }
  where
    only_func : (j : Kind) → is_func j ≡ true → j ≡ kind.Func
    only_func kind.Func h = refl
    only_func k h = absurd (false≢true h)

pub told_unit : IsTold is_unit kind.Unit
told_unit = record { passes = refl; only = only_unit; single = refl }
  where
    only_unit : (j : Kind) → is_unit j ≡ true → j ≡ kind.Unit
    only_unit kind.Unit h = refl
    only_unit k h = absurd (false≢true h)

-- a present fact
abbrev is_fact : Value → Bool
is_fact v = not (is_gone v)

present_is : (o : Option Cell) → cell_passes is_fact o ≡ is_present o
present_is None = refl
present_is (Some c) = refl

picked : (b g : Bool) (at a : ℕ) → option_map_or (λ p. p == a) (cond (b && g) (Some at) None) false ≡ (b && (g && at == a))
picked true true at a = refl
picked true false at a = refl
picked false g at a = refl

facts_of : (S : Program) (of_kind : Kind → Bool) (k : Kind) (a : ℕ) → IsValid S → IsTold of_kind k → list_any (stands of_kind is_fact a) S ≡ is_present (cell_at S (key_of k a))
facts_of S of_kind k a valid told = at_key S of_kind k is_fact a valid told ∙ present_is (cell_at S (key_of k a))

starts_is : (k : Kind) → starts_flow k ≡ (is_mark k || (is_func k || is_unit k))
unfolding is_mark
starts_is kind.Mark = refl
starts_is kind.Func = refl
starts_is kind.Unit = refl
starts_is k = refl

spread : (m f u r : Bool) → ((m || (f || u)) && r) ≡ ((m && r) || ((f && r) || (u && r)))
spread m f u r = and-or_distrib_right m (f || u) r ∙ ap (λ b. (m && r) || b) (and-or_distrib_right f u r)

called_is : (a : ℕ) (v : Value) → option_map_or (λ p. p == a) (called v) false ≡ refers a Call v
called_is a (Ref to Call) = sym (and-true (to == a))
called_is a (Ref to class) = sym (and-false (to == a))
called_is a v = refl

pub data_is : (a : ℕ) (v : Value) → option_map_or (λ p. p == a) (data_at v) false ≡ (refers a Datum v || refers a Read v)
data_is a (Ref to Datum) = sym ((λ i. and-true (to == a) i || and-false (to == a) i) ∙ or-false (to == a))
data_is a (Ref to Read) = sym (λ i. and-false (to == a) i || and-true (to == a) i)
data_is a (Ref to class) = sym (λ i. and-false (to == a) i || and-false (to == a) i)
data_is a v = refl

-- the places of an analyzer's candidates
pub candidates_are : (S : Program) (a : Analyzer) → IsValid S → AreJust (candidate_of a S) (filter_map (λ (e : Key × Cell). candidate_place a e.0 e.1.value) S)
candidates_are S a valid = λ x below. any-filter_map (λ p. p == x) (λ (e : Key × Cell). candidate_place a e.0 e.1.value) S ∙ told a x
  where
    told : (a : Analyzer) (x : ℕ) → list_any (λ (e : Key × Cell). option_map_or (λ p. p == x) (candidate_place a e.0 e.1.value) false) S ≡ candidate_of a S x
    told Flow x =
        any_as _ (λ (e : Key × Cell). stands is_mark is_fact x e || (stands is_func is_fact x e || stands is_unit is_fact x e)) (λ e. picked (starts_flow e.0.kind) (is_fact e.1.value) e.0.at x ∙ ap (λ b. b && (is_fact e.1.value && e.0.at == x)) (starts_is e.0.kind) ∙ spread (is_mark e.0.kind) (is_func e.0.kind) (is_unit e.0.kind) (is_fact e.1.value && e.0.at == x)) S
        ∙ any_or (stands is_mark is_fact x) (λ e. stands is_func is_fact x e || stands is_unit is_fact x e) S
        ∙ (λ i. facts_of S is_mark kind.Mark x valid told_mark i || (any_or (stands is_func is_fact x) (stands is_unit is_fact x) S ∙ (λ j. facts_of S is_func kind.Func x valid told_func j || facts_of S is_unit kind.Unit x valid told_unit j)) i)
    told Refs x = any_as _ (stands is_unit is_fact x) (λ e. picked (is_unit e.0.kind) (is_fact e.1.value) e.0.at x) S ∙ facts_of S is_unit kind.Unit x valid told_unit
    told Funcs x = any_as _ (λ (e : Key × Cell). refers x Call e.1.value) (λ e. called_is x e.1.value) S
    told Body x = any_as _ (stands is_func is_fact x) (λ e. picked (is_func e.0.kind) (is_fact e.1.value) e.0.at x) S ∙ facts_of S is_func kind.Func x valid told_func
    told Strings x = any_as _ (λ (e : Key × Cell). refers x Datum e.1.value || refers x Read e.1.value) (λ e. data_is x e.1.value) S ∙ any_or (λ (e : Key × Cell). refers x Datum e.1.value) (λ e. refers x Read e.1.value) S
