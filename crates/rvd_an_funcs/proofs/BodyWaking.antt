-- The wake law of bodies: a change that doesn't wake the rule at an entry, where the rule had no change, avoids the reach of
-- the entry or is at its body. `wakes_body_law` says it whole.
use Rattle.std.proofs.Common.{◌≡◌, ℕ, ◌+◌, ◌≤◌, ◌^◌, true, false, ◌&&◌, [], Option, Some, None, sym, ap, ◌∙◌, inl, inr, arith}
use Rattle.std.specs.Prelude.{is_none, ◌==◌}
use Rattle.std.proofs.lemmas.Bool.{and_cases, and_parts, both_ways, eq-eqb, false≢true, or_parts, true≢false}
use Rattle.rvd_fact.specs.declared.keys.Kind.{Kind}
use Rattle.rvd_fact.specs.declared.keys.Kind.TheVariants as kind
use Rattle.rvd_fact.specs.declared.keys.Key.{Key}
use Rattle.rvd_fact.specs.declared.cells.Cell.{Cell}
use Rattle.rvd_fact.specs.declared.cells.Change.{Change}
use Rattle.rvd_fact.specs.Order.{same_key}
use Rattle.rvd_fact.specs.Program.{Program, applied, cell_at, is_present}
use Rattle.rvd_fact.specs.Memory.{func_key}
use Rattle.rvd_fact.proofs.KeyOrder.{cases_key, same_key_itself}
use Rattle.rvd_fact.proofs.Validity.{cell_at_other, cell_at_placed}
use Rattle.rvd_ask.specs.declared.asks.Analyzer.TheVariants.{Body}
use Rattle.rvd_ask.specs.Body.{body_rule, has_body, has_open_body, is_open}
use Rattle.rvd_ask.specs.Places.{body_key, word_before}
use Rattle.rvd_ask.specs.Reach.{has, reach, spans, ways, IsReached}
use Rattle.rvd_ask.specs.Rules.{rule}
use Rattle.rvd_ask.specs.Wake.{body_has, body_has_from, cell_body_with, is_near, is_own, wakes, wakes_body, Leads, WakeLaw}
use Rattle.rvd_ask.proofs.CodeAddresses.{are_codes}
use Rattle.rvd_ask.proofs.ReachWalks.{member}
use Rattle.rvd_an_funcs.proofs.Bodies.{body_covers, had_body, no_change, some_change}
use Rattle.rvd_an_funcs.proofs.CodeOrder.{reach_ends}
use Rattle.rvd_an_funcs.proofs.Coming.{came_from}
use Rattle.rvd_an_funcs.proofs.Steps.{is_place, is_read, reach_stays, Avoids}

-- ---- what a change that doesn't wake is not
asleep_near : (T : Program) (c : Change) (e : ℕ) (K : Kind) → wakes_body K T c e ≡ false → is_place K ≡ true → is_near T c.key.at e ≡ false
asleep_near T c e kind.Unit h place = h
asleep_near T c e kind.Func h place = h
asleep_near T c e kind.Block h place = absurd (false≢true place)
asleep_near T c e kind.Mark h place = absurd (false≢true place)
asleep_near T c e kind.Body h place = absurd (false≢true place)
asleep_near T c e kind.Symbol h place = absurd (false≢true place)
asleep_near T c e kind.Comment h place = absurd (false≢true place)
asleep_near T c e kind.Bookmark h place = absurd (false≢true place)
asleep_near T c e kind.Ref h place = absurd (false≢true place)

-- not near z, in parts
record NotNear (T : Program) (z e : ℕ) : Type 0 where
  entry : (e == z) ≡ false
  here : body_has T e z ≡ false
  before : body_has T e (word_before z) ≡ false
  froms : body_has_from T z e ≡ false

not_near : (T : Program) (z e : ℕ) → is_near T z e ≡ false → NotNear T z e
not_near T z e h =
    let first = or_parts (e == z) _ h in
    let second = or_parts (body_has T e z) _ first.1 in
    let third = or_parts (body_has T e (word_before z)) (body_has_from T z e) second.1 in
    record { entry = first.0; here = second.0; before = third.0; froms = third.1 }

asleep_here : (T : Program) (c : Change) (e : ℕ) (K : Kind) → wakes_body K T c e ≡ false → is_read K ≡ true → body_has T e c.key.at ≡ false
asleep_here T c e kind.Unit h read = (not_near T c.key.at e h).here
asleep_here T c e kind.Func h read = (not_near T c.key.at e h).here
asleep_here T c e kind.Ref h read = h
asleep_here T c e kind.Block h read = absurd (false≢true read)
asleep_here T c e kind.Mark h read = absurd (false≢true read)
asleep_here T c e kind.Body h read = absurd (false≢true read)
asleep_here T c e kind.Symbol h read = absurd (false≢true read)
asleep_here T c e kind.Comment h read = absurd (false≢true read)
asleep_here T c e kind.Bookmark h read = absurd (false≢true read)

-- a cell that is set and may be set again is an analyzer's
own_open : (o : Option Cell) → is_none o ≡ false → is_open o ≡ true → is_own o ≡ true
own_open None h opened = absurd (true≢false h)
own_open (Some c) h opened = opened

module _ (S : Program) (c : Change) (e : ℕ) (l : Leads S c) (asleep : wakes_body c.key.kind (applied S c) c e ≡ false) (settled : body_rule S e ≡ []) where
  abbrev T : Program
  T = applied S c

  -- ---- a change at the body
  at_body : body_key e ≡ c.key → has_open_body T e ≡ true → ⊥
  at_body same opened =
      let here : (e == c.key.at) ≡ true = eq-eqb e c.key.at (ap (λ (q : Key). q.at) same) in
      let sets : (is_none c.after && e == c.key.at) ≡ false = ap (λ (q : Key). wakes_body q.kind T c e) same ∙ asleep in
      let is_set : is_none c.after ≡ false = elim (and_cases (is_none c.after) (e == c.key.at) sets) [
        | inl set ↦ set
        | inr there ↦ absurd (both_ways (e == c.key.at) there here)
      ] in
      let free : is_open c.after ≡ true = ap is_open (sym (cell_at_placed S c.key c.after) ∙ ap (cell_at T) (sym same)) ∙ (and_parts (is_present (cell_at T (func_key e))) (is_open (cell_at T (body_key e))) opened).1 in
      some_change c (sym (l.by_rule e (sym same) (own_open c.after is_set free)) ∙ settled)

  -- ---- a change elsewhere
  other_cell : (k : Key) → (k ≡ c.key → ⊥) → cell_at T k ≡ cell_at S k
  other_cell k other = cell_at_other S c.key c.after k other

  not_func : func_key e ≡ c.key → ⊥
  not_func same =
      let near : is_near T c.key.at e ≡ false = ap (λ (q : Key). wakes_body q.kind T c e) same ∙ asleep in
      both_ways (e == c.key.at) (not_near T c.key.at e near).entry (eq-eqb e c.key.at (ap (λ (q : Key). q.at) same))

  module _ (not_body : body_key e ≡ c.key → ⊥) (opened : has_open_body T e ≡ true) where
    same_body : cell_at T (body_key e) ≡ cell_at S (body_key e)
    same_body = other_cell (body_key e) not_body

    was_open : has_open_body S e ≡ true
    was_open = sym (λ i. is_present (other_cell (func_key e) not_func i) && is_open (same_body i)) ∙ opened

    had : has_body (spans (reach S e)) (cell_at S (body_key e)) ≡ true
    had = had_body S e settled was_open

    is_member : (y : ℕ) → IsReached S e y → has y (reach S e) ≡ true
    is_member y r = member S e (are_codes S l.before) y r

    -- the body has the members
    covered : (y : ℕ) → IsReached S e y → body_has T e y ≡ true
    covered y r = ap (cell_body_with y) same_body ∙ body_covers (reach S e) y (cell_at S (body_key e)) had (is_member y r)

    -- no member comes to the address of the change
    none_comes : is_place c.key.kind ≡ true → (y : ℕ) → IsReached S e y → has c.key.at (ways T y) ≡ true → ⊥
    none_comes place y r h =
        let far = not_near T c.key.at e (asleep_near T c e c.key.kind asleep place) in
        let low : y + 4 ≤ 2 ^ 32 = reach_ends S e y l.before (is_member y r) in
        elim (came_from T (body_has T e) y c.key.at (omega (arith, low)) (covered y r) h) [
          | inl before ↦ both_ways (body_has T e (word_before c.key.at)) far.before before
          | inr from ↦ both_ways (body_has_from T c.key.at e) far.froms from
        ]

    avoids : Avoids S T c.key e
    avoids = record {
      entry = λ place same. both_ways (e == c.key.at) (not_near T c.key.at e (asleep_near T c e c.key.kind asleep place)).entry (eq-eqb e c.key.at same);
      members = λ read r. both_ways (body_has T e c.key.at) (asleep_here T c e c.key.kind asleep read) (covered c.key.at r);
      coming = none_comes;
    }

    has_still : has_body (spans (reach T e)) (cell_at T (body_key e)) ≡ true
    has_still = (λ i. has_body (spans (reach_stays S c.key c.after e l.before l.after avoids i)) (same_body i)) ∙ had

  settled_still : body_rule T e ≡ []
  settled_still = no_change T e (λ opened. elim (cases_key (body_key e) c.key) [
    | inl same ↦ absurd (at_body same opened)
    | inr apart ↦ has_still (λ same. both_ways (same_key (body_key e) c.key) apart (ap (λ (q : Key). same_key (body_key e) q) (sym same) ∙ same_key_itself (body_key e))) opened
  ])

pub wakes_body_law : WakeLaw Body
unfolding rule wakes
wakes_body_law S c e small l asleep settled = settled_still S c e l asleep settled
