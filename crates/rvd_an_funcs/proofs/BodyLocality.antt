-- A valid program that answers the same to what the rule of bodies asks on another one has the same change by it: `same_rule`.
-- Use
-- `body_promise`, `body_held` and `body_asked` for a proposal by reads that ask just this.
use Rattle.std.proofs.Common.{◌≡◌, ℕ, zero, suc, Bool, true, false, cond, not, ◌&&◌, List, [], ◌∷◌, ◌++◌, map, Option, Some, None, refl, sym, ap, ◌∙◌, subst, inl, inr}
use Rattle.std.specs.Prelude.{Contains, filter_map}
use Rattle.std.proofs.lemmas.Bool.{and_from, and_parts, false≢true}
use Rattle.rvd_decode.specs.Flow.{falls_through}
use Rattle.rvd_fact.specs.declared.cells.Cell.{Cell}
use Rattle.rvd_fact.specs.declared.cells.Change.{Change}
use Rattle.rvd_fact.specs.declared.values.Value.{Value}
use Rattle.rvd_fact.specs.declared.values.Value.TheVariants.{Block, Mark, Func, Body, Symbol, Comment, Bookmark, Code, Plain, Ref, Gone}
use Rattle.rvd_fact.specs.Program.{Program, cell_at, is_present}
use Rattle.rvd_fact.specs.Memory.{func_key, unit_key, has_instruction, is_code, is_instruction, refs_from}
use Rattle.rvd_fact.specs.Valid.{is_of, IsValid}
use Rattle.rvd_fact.proofs.Validity.{suits-is_of}
use Rattle.rvd_ask.specs.declared.asks.Analyzer.TheVariants as analyzer
use Rattle.rvd_ask.specs.declared.asks.Ask.{Ask}
use Rattle.rvd_ask.specs.declared.asks.Ask.TheVariants as ask
use Rattle.rvd_ask.specs.declared.answers.Answer.{Answer}
use Rattle.rvd_ask.specs.Answers.{ans, only_if, plain_cell, plain_value, told, Hold, IsSame}
use Rattle.rvd_ask.specs.Body.{body_asks, body_rule, has_open_body, is_open, member_asks, met_asks, reach_asks, set_body}
use Rattle.rvd_ask.specs.Places.{body_key, cell_instruction, next_word}
use Rattle.rvd_ask.specs.Promise.{are_reads, AreAsks, KeepsPromise, Proposed}
use Rattle.rvd_ask.specs.Reach.{has, inner_target, may_join, reach, spans, ways, IsReached, Walk}
use Rattle.rvd_ask.specs.Rules.{asks, rule}
use Rattle.rvd_ask.specs.Wake.{item}
use Rattle.rvd_ask.proofs.Plain.{cell_instruction-plain, is_instruction-plain, is_present-plain}
use Rattle.rvd_ask.proofs.Proposing.{from_empty}
use Rattle.rvd_ask.proofs.Told.{and_then, are_reads-told, asks-told, hold-told, same_cell, same_refs, same_test}
use Rattle.rvd_an_funcs.specs.Walks.{Adds}
use Rattle.rvd_an_funcs.proofs.Lists.{contains_cases, contains_first, contains_in, contains_later, contains_none}
use Rattle.rvd_an_funcs.proofs.Walked.{reached_asks}
use Rattle.rvd_an_funcs.proofs.Walks.{same_reach, SameSteps}

-- two programs answer the same to these asks
abbrev pub Agree : Program → Program → List Ask → Type 0
Agree P S qs = (q : Ask) → Contains qs q → IsSame (ans P q) (ans S q)

pub agree : (P S : Program) (qs : List Ask) → Hold S (told P qs) → Agree P S qs
agree P S [] h q c = absurd (contains_none q c)
agree P S (p ∷ ps) h q c = elim (contains_cases p q ps c) [
  | inl is ↦ subst (λ (r : Ask). IsSame (ans P r) (ans S r)) is h.0
  | inr later ↦ agree P S ps h.1 q later
]

-- ---- tests that see no block's bytes
-- whether control goes on to the next word from a cell
abbrev falls_on : Option Cell → Bool
falls_on None = false
falls_on (Some c) = is_code c.value && falls_through (cell_instruction (Some c))

falls_on-plain : (o : Option Cell) → falls_on (plain_cell o) ≡ falls_on o
falls_on-plain None = refl
falls_on-plain (Some c) = λ i. is_instruction-plain (Some c) i && falls_through (cell_instruction-plain (Some c) i)

is_open-plain : (o : Option Cell) → is_open (plain_cell o) ≡ is_open o
is_open-plain None = refl
is_open-plain (Some c) = refl

-- a body isn't a block, so nothing of it is left aside
whole_value : (e : ℕ) (v : Value) → is_of (body_key e).kind v ≡ true → plain_value v ≡ v
whole_value e (Block len perm bytes) h = absurd (false≢true h)
whole_value e Mark h = refl
whole_value e Func h = refl
whole_value e (Body ranges) h = refl
whole_value e (Symbol name) h = refl
whole_value e (Comment text) h = refl
whole_value e (Bookmark text) h = refl
whole_value e (Code w) h = refl
whole_value e (Plain f) h = refl
whole_value e (Ref to class) h = refl
whole_value e Gone h = refl

whole_cell : (S : Program) (e : ℕ) → IsValid S → (o : Option Cell) → cell_at S (body_key e) ≡ o → plain_cell o ≡ o
whole_cell S e valid None here = refl
whole_cell S e valid (Some c) here =
    let same : plain_value c.value ≡ c.value = whole_value e c.value (suits-is_of (body_key e) c (valid.cells (body_key e) c here)) in
    λ i. Some (record { value = same i; source = c.source })

module _ (P S : Program) (e : ℕ) (valid : IsValid P) (valid_there : IsValid S) where
  -- ---- the walk
  module _ (asked : Agree P S (reach_asks P e)) where
    agree_member : (y : ℕ) → IsReached P e y → Agree P S (member_asks P y)
    agree_member y r q c = asked q (reached_asks P e valid y r q c)

    agree_met : (y w : ℕ) → IsReached P e y → has w (ways P y) ≡ true → Agree P S (met_asks P w)
    agree_met y w r way q c = agree_member y r q (contains_later (ask.From y) q _ (contains_in (met_asks P) w q (ways P y) way c))

    same_entry : IsSame (ans P (ask.Cell (unit_key e))) (ans S (ask.Cell (unit_key e)))
    same_entry = asked (ask.Cell (unit_key e)) (contains_first (ask.Cell (unit_key e)) _)

    same_joining : (y w : ℕ) → IsReached P e y → has w (ways P y) ≡ true → may_join P w ≡ may_join S w
    same_joining y w r way =
        let met = agree_met y w r way in
        and_then (has_instruction P w) (has_instruction S w) (not (is_present (cell_at P (func_key w)))) (not (is_present (cell_at S (func_key w))))
        (same_test is_instruction is_instruction-plain (cell_at P (unit_key w)) (cell_at S (unit_key w)) (met (ask.Cell (unit_key w)) (contains_first (ask.Cell (unit_key w)) _)))
        (λ there.
        let func = ask.Cell (func_key w) in
        ap not (same_test is_present is_present-plain (cell_at P (func_key w)) (cell_at S (func_key w))
        (met func (contains_later (ask.Cell (unit_key w)) func _ (subst (λ b. Contains (only_if b (func ∷ [])) func) (sym there) (contains_first func []))))))

    -- a member's own unit was met
    same_unit : (n y : ℕ) → Walk P e y n → IsSame (ans P (ask.Cell (unit_key y))) (ans S (ask.Cell (unit_key y)))
    same_unit zero y w = subst (λ (z : ℕ). IsSame (ans P (ask.Cell (unit_key z))) (ans S (ask.Cell (unit_key z)))) (sym w.0) same_entry
    same_unit (suc n) y w = agree_met w.0 y (n, w.1) (and_parts (has y (ways P w.0)) (may_join P y) w.2).0 (ask.Cell (unit_key y)) (contains_first (ask.Cell (unit_key y)) _)

    same_ways : (y : ℕ) → IsReached P e y → ways P y ≡ ways S y
    same_ways y r =
        let refs : refs_from P y ≡ refs_from S y = same_refs (refs_from P y) (refs_from S y) (agree_member y r (ask.From y) (contains_first (ask.From y) _)) in
        let falls : falls_on (cell_at P (unit_key y)) ≡ falls_on (cell_at S (unit_key y)) = same_test falls_on falls_on-plain (cell_at P (unit_key y)) (cell_at S (unit_key y)) (same_unit r.0 y r.1) in
        λ i. cond (falls i) (next_word y ∷ []) [] ++ filter_map inner_target (refs i)

    same_steps : SameSteps P S e
    same_steps = record {
      entry = sym (same_test is_instruction is_instruction-plain (cell_at P (unit_key e)) (cell_at S (unit_key e)) same_entry);
      old = λ y z r s f.
          let parts = and_parts (has z (ways P y)) (may_join P z) f in
          and_from (has z (ways S y)) (may_join S z) (ap (has z) (sym (same_ways y r)) ∙ parts.0) (sym (same_joining y z r parts.0) ∙ parts.1);
      new = λ y z r f.
          let parts = and_parts (has z (ways S y)) (may_join S z) f in
          let way : has z (ways P y) ≡ true = ap (has z) (same_ways y r) ∙ parts.0 in
          and_from (has z (ways P y)) (may_join P z) way (same_joining y z r way ∙ parts.1);
    }

    reach_same : reach S e ≡ reach P e
    reach_same = same_reach P S e valid valid_there same_steps

  -- ---- the rule
  module _ (asked : Agree P S (body_asks P e)) where
    same_func : is_present (cell_at P (func_key e)) ≡ is_present (cell_at S (func_key e))
    unfolding body_asks
    same_func = same_test is_present is_present-plain (cell_at P (func_key e)) (cell_at S (func_key e)) (asked (ask.Cell (func_key e)) (contains_first (ask.Cell (func_key e)) _))

    module _ (present : is_present (cell_at P (func_key e)) ≡ true) where
      behind : (q : Ask) → Contains (ask.Cell (body_key e) ∷ only_if (is_open (cell_at P (body_key e))) (reach_asks P e)) q → Contains (body_asks P e) q
      unfolding body_asks
      behind q c = contains_later (ask.Cell (func_key e)) q _ (subst (λ b. Contains (only_if b (ask.Cell (body_key e) ∷ only_if (is_open (cell_at P (body_key e))) (reach_asks P e))) q) (sym present) c)

      same_body : IsSame (ans P (ask.Cell (body_key e))) (ans S (ask.Cell (body_key e)))
      same_body = asked (ask.Cell (body_key e)) (behind (ask.Cell (body_key e)) (contains_first (ask.Cell (body_key e)) _))

      same_open : is_open (cell_at P (body_key e)) ≡ is_open (cell_at S (body_key e))
      same_open = same_test is_open is_open-plain (cell_at P (body_key e)) (cell_at S (body_key e)) same_body

      body_same : cell_at P (body_key e) ≡ cell_at S (body_key e)
      body_same = sym (whole_cell P e valid (cell_at P (body_key e)) refl) ∙ same_cell (cell_at P (body_key e)) (cell_at S (body_key e)) same_body ∙ whole_cell S e valid_there (cell_at S (body_key e)) refl

      walk_same : is_open (cell_at P (body_key e)) ≡ true → reach S e ≡ reach P e
      walk_same opened = reach_same (λ q c. asked q (behind q (contains_later (ask.Cell (body_key e)) q _ (subst (λ b. Contains (only_if b (reach_asks P e)) q) (sym opened) c))))

    -- tests with the same outcome, behind which the same lists stand, choose the same
    choose : (a b : Bool) (xs ys : List Change) → a ≡ b → (a ≡ true → xs ≡ ys) → cond a xs [] ≡ cond b ys []
    choose true b xs ys same rest = rest refl ∙ ap (λ c. cond c ys []) same
    choose false b xs ys same rest = ap (λ c. cond c ys []) same

    pub same_rule : body_rule P e ≡ body_rule S e
    unfolding body_rule
    same_rule =
        choose (has_open_body P e) (has_open_body S e) _ _
        (and_then (is_present (cell_at P (func_key e))) (is_present (cell_at S (func_key e))) _ _ same_func same_open)
        (λ both.
        let parts = and_parts (is_present (cell_at P (func_key e))) (is_open (cell_at P (body_key e))) both in
        λ i. set_body e (body_same parts.0 i) (spans (sym (walk_same parts.0 parts.1) i)))

-- ---- the proposal
-- reads from nothing on that ask just this
module _ (P : Program) (e : ℕ) (none reads : List (Ask × Answer)) (empty : none ≡ []) (added : Adds P none reads (body_asks P e)) where
  reads_are : reads ≡ told P added.asked
  reads_are = from_empty none reads (told P added.asked) empty added.reads

  -- they keep the promise of the rule's change
  pub body_promise : IsValid P → (before changes : List Change) → before ≡ [] → changes ≡ before ++ body_rule P e → KeepsPromise (record { item = item analyzer.Body e; reads = reads; changes = changes })
  unfolding rule
  body_promise valid before changes no_change found = record {
    reads = ap are_reads reads_are ∙ are_reads-told P added.asked;
    kept = λ S valid_there h.
        let agreed : Agree P S added.asked = agree P S added.asked (subst (Hold S) reads_are h) in
        sym (same_rule P S e valid valid_there (λ q c. agreed q ((added.just q).1 c))) ∙ sym (from_empty before changes (body_rule P e) no_change found);
  }

  module _ (p : Proposed) (changes : List Change) (is : p ≡ record { item = item analyzer.Body e; reads = reads; changes = changes }) where
    proposed_are : p.reads ≡ told P added.asked
    proposed_are = ap (λ (o : Proposed). o.reads) is ∙ reads_are

    pub body_held : Hold P p.reads
    body_held = subst (Hold P) (sym proposed_are) (hold-told P added.asked)

    pub body_asked : AreAsks p.reads (asks P p.item)
    unfolding asks
    body_asked q =
        let of_item : body_asks P e ≡ asks P p.item = sym (ap (λ (o : Proposed). asks P o.item) is) in
        let of_reads : map (λ r. r.0) p.reads ≡ added.asked = ap (λ rs. map (λ r. r.0) rs) proposed_are ∙ asks-told P added.asked in (
          λ c. subst (λ qs. Contains qs q) of_item ((added.just q).0 (subst (λ qs. Contains qs q) of_reads c)),
          λ c. subst (λ qs. Contains qs q) (sym of_reads) ((added.just q).1 (subst (λ qs. Contains qs q) (sym of_item) c)),
        )
