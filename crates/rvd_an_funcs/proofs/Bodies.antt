-- When the rule of bodies has no change: `no_change` for that it has none, `had_body` for what that tells, and `body_covers`
-- for the addresses of a body that is that of a reach.
use Rattle.std.proofs.Common.{◌≡◌, ℕ, true, cond, ◌&&◌, List, [], ◌∷◌, Option, Some, None, refl, sym, ap, ◌∙◌, inl, inr}
use Rattle.std.specs.Prelude.{◌==◌}
use Rattle.std.proofs.lemmas.Bool.{and_from, and_parts, cases_Bool, cond-true, cond_both, eq-eqb, eqb-true, false≢true}
use Rattle.rvd_fact.specs.declared.cells.Cell.{Cell}
use Rattle.rvd_fact.specs.declared.cells.Change.{Change}
use Rattle.rvd_fact.specs.declared.values.Value.{Value}
use Rattle.rvd_fact.specs.declared.values.Value.TheVariants.{Block, Mark, Func, Body, Symbol, Comment, Bookmark, Code, Plain, Ref, Gone}
use Rattle.rvd_fact.specs.Program.{Program, cell_at}
use Rattle.rvd_fact.specs.Ranges.{has_address}
use Rattle.rvd_ask.specs.Body.{body_rule, has_body, has_open_body, is_body_of, same_ranges, set_body}
use Rattle.rvd_ask.specs.Places.{body_key}
use Rattle.rvd_ask.specs.Reach.{has, reach, spans}
use Rattle.rvd_ask.specs.Wake.{body_with, cell_body_with}
use Rattle.rvd_an_funcs.proofs.BodyFitting.{body_cell}
use Rattle.rvd_an_funcs.proofs.Spans.{spans_member}

-- ranges are the same exactly where they are one list
pub same_ranges_itself : (rs : List (ℕ × ℕ)) → same_ranges rs rs ≡ true
same_ranges_itself [] = refl
same_ranges_itself (r ∷ rs) = and_from (r.0 == r.0) _ (eq-eqb r.0 r.0 refl) (and_from (r.1 == r.1) _ (eq-eqb r.1 r.1 refl) (same_ranges_itself rs))

pub same_ranges-true : (rs ss : List (ℕ × ℕ)) → same_ranges rs ss ≡ true → rs ≡ ss
same_ranges-true [] [] h = refl
same_ranges-true [] (s ∷ ss) h = absurd (false≢true h)
same_ranges-true (r ∷ rs) [] h = absurd (false≢true h)
same_ranges-true (r ∷ rs) (s ∷ ss) h =
    let first = and_parts (r.0 == s.0) (r.1 == s.1 && same_ranges rs ss) h in
    let second = and_parts (r.1 == s.1) (same_ranges rs ss) first.1 in
    let start : r.0 ≡ s.0 = eqb-true r.0 s.0 first.0 in
    let end : r.1 ≡ s.1 = eqb-true r.1 s.1 second.0 in
    let rest : rs ≡ ss = same_ranges-true rs ss second.1 in
    λ i. (start i, end i) ∷ rest i

-- a body of some ranges has their addresses
value_covers : (rs : List (ℕ × ℕ)) (a : ℕ) (v : Value) → is_body_of rs v ≡ true → has_address a rs ≡ true → body_with a v ≡ true
value_covers rs a (Body own) h has = ap (has_address a) (same_ranges-true own rs h) ∙ has
value_covers rs a (Block len perm bytes) h has = absurd (false≢true h)
value_covers rs a Mark h has = absurd (false≢true h)
value_covers rs a Func h has = absurd (false≢true h)
value_covers rs a (Symbol name) h has = absurd (false≢true h)
value_covers rs a (Comment text) h has = absurd (false≢true h)
value_covers rs a (Bookmark text) h has = absurd (false≢true h)
value_covers rs a (Code w) h has = absurd (false≢true h)
value_covers rs a (Plain f) h has = absurd (false≢true h)
value_covers rs a (Ref to class) h has = absurd (false≢true h)
value_covers rs a Gone h has = absurd (false≢true h)

pub body_covers : (zs : List ℕ) (z : ℕ) (o : Option Cell) → has_body (spans zs) o ≡ true → has z zs ≡ true → cell_body_with z o ≡ true
body_covers zs z None h m = absurd (false≢true h)
body_covers zs z (Some c) h m = value_covers (spans zs) z c.value h (spans_member z zs m)

-- where an analyzer may set the body, it is that of the reach
pub no_change : (S : Program) (e : ℕ) → (has_open_body S e ≡ true → has_body (spans (reach S e)) (cell_at S (body_key e)) ≡ true) → body_rule S e ≡ []
unfolding body_rule
no_change S e h =
    cond_both (has_open_body S e) (set_body e (cell_at S (body_key e)) (spans (reach S e))) [] (λ cs. cs ≡ [])
    (λ opened. cond-true (has_body (spans (reach S e)) (cell_at S (body_key e))) [] _ (h opened))
    (λ shut. refl)

-- a change isn't none
pub some_change : (c : Change) → c ∷ [] ≡ [] → ⊥
some_change c h = cc

pub had_body : (S : Program) (e : ℕ) → body_rule S e ≡ [] → has_open_body S e ≡ true → has_body (spans (reach S e)) (cell_at S (body_key e)) ≡ true
unfolding body_rule
had_body S e settled opened = elim (cases_Bool (has_body (spans (reach S e)) (cell_at S (body_key e)))) [
  | inl has ↦ has
  | inr lacks ↦
      let change : Change = record { key = body_key e; before = cell_at S (body_key e); after = Some (body_cell (spans (reach S e))) } in
      absurd (some_change change (sym (λ i. cond (opened i) (cond (lacks i) [] (change ∷ [])) []) ∙ settled))
]
