-- Which changes leave a reach: those that say nothing of the entry, of a member, and of an address that a member comes to
-- after them. Use `Avoids` for that, and `reach_stays`.
use Rattle.std.proofs.Common.{◌≡◌, ℕ, Bool, true, false, not, cond, ◌&&◌, ◌||◌, List, ◌∷◌, Option, Some, None, refl, sym, ap, ◌∙◌, subst}
use Rattle.std.specs.Prelude.{◌==◌}
use Rattle.std.specs.List.{cons_option}
use Rattle.std.proofs.lemmas.Bool.{and_from, and_parts, both_ways, cond_both, eqb-true, or_left, or_right}
use Rattle.rvd_fact.specs.declared.keys.Kind.{Kind}
use Rattle.rvd_fact.specs.declared.keys.Key.{Key}
use Rattle.rvd_fact.specs.declared.cells.Cell.{Cell}
use Rattle.rvd_fact.specs.declared.values.RefClass.{RefClass}
use Rattle.rvd_fact.specs.declared.values.Value.{Value}
use Rattle.rvd_fact.specs.declared.values.Value.TheVariants.{Block, Mark, Func, Body, Symbol, Comment, Bookmark, Code, Plain, Ref, Gone}
use Rattle.rvd_fact.specs.Order.{rank}
use Rattle.rvd_fact.specs.Program.{Program, cell_at, is_present, placed}
use Rattle.rvd_fact.specs.Memory.{func_key, is_instruction, ref_of, refs_from, unit_key}
use Rattle.rvd_fact.specs.Valid.{is_of, suits, IsValid}
use Rattle.rvd_fact.proofs.Placing.{scan-placed, PassesOver}
use Rattle.rvd_fact.proofs.Validity.{cell_at_other, cell_at_placed, suits-is_of}
use Rattle.rvd_ask.specs.Reach.{follows, has, may_join, reach, ways, ways_of, IsReached}
use Rattle.rvd_an_funcs.proofs.Walks.{same_reach}

-- whether cells of a kind say if an address may be a member, and whether a reach reads them
abbrev pub is_place : Kind → Bool
is_place K = rank K == 2 || rank K == 7

abbrev pub is_read : Kind → Bool
is_read K = is_place K || rank K == 8

-- what isn't of a reference's kind is no reference
no_ref : (slot : ℕ) (K : Kind) (v : Value) → is_of K v ≡ true → (rank K == 8) ≡ false → ref_of slot v ≡ None
no_ref slot K (Ref to class) of other = absurd (both_ways (rank K == 8) other of)
no_ref slot K (Block len perm bytes) of other = refl
no_ref slot K Mark of other = refl
no_ref slot K Func of other = refl
no_ref slot K (Body ranges) of other = refl
no_ref slot K (Symbol name) of other = refl
no_ref slot K (Comment text) of other = refl
no_ref slot K (Bookmark text) of other = refl
no_ref slot K (Code w) of other = refl
no_ref slot K (Plain f) of other = refl
no_ref slot K Gone of other = refl

abbrev ref_at : ℕ → Key × Cell → Option (ℕ × RefClass × ℕ)
ref_at y e = cond (e.0.at == y) (ref_of e.0.sub e.1.value) None

-- a change from S to T at a key says nothing of the entry or of a member of the reach in S, and none comes to its address in T
pub record Avoids (S T : Program) (k : Key) (e : ℕ) : Type 0 where
  pub entry : is_place k.kind ≡ true → e ≡ k.at → ⊥
  pub members : is_read k.kind ≡ true → IsReached S e k.at → ⊥
  pub coming : is_place k.kind ≡ true → (y : ℕ) → IsReached S e y → has k.at (ways T y) ≡ true → ⊥

module _ (S : Program) (k : Key) (o : Option Cell) (e : ℕ) (valid : IsValid S) (valid_after : IsValid (placed S k o)) (avoids : Avoids S (placed S k o) k e) where
  abbrev T : Program
  T = placed S k o

  unit_stays : (z : ℕ) → (is_place k.kind ≡ true → z ≡ k.at → ⊥) → cell_at T (unit_key z) ≡ cell_at S (unit_key z)
  unit_stays z other = cell_at_other S k o (unit_key z) (λ same. other (ap (λ (q : Key). is_place q.kind) (sym same)) (ap (λ (q : Key). q.at) same))

  func_stays : (z : ℕ) → (is_place k.kind ≡ true → z ≡ k.at → ⊥) → cell_at T (func_key z) ≡ cell_at S (func_key z)
  func_stays z other = cell_at_other S k o (func_key z) (λ same. other (ap (λ (q : Key). is_place q.kind) (sym same)) (ap (λ (q : Key). q.at) same))

  join_stays : (z : ℕ) → (is_place k.kind ≡ true → z ≡ k.at → ⊥) → may_join T z ≡ may_join S z
  join_stays z other = λ i. is_instruction (unit_stays z other i) && not (is_present (func_stays z other i))

  -- the change isn't at a member
  elsewhere : (y : ℕ) → IsReached S e y → is_read k.kind ≡ true → y ≡ k.at → ⊥
  elsewhere y r read same = avoids.members read (subst (λ z. IsReached S e z) same r)

  elsewhere_place : (y : ℕ) → IsReached S e y → is_place k.kind ≡ true → y ≡ k.at → ⊥
  elsewhere_place y r place same = elsewhere y r (or_left (is_place k.kind) _ place) same

  -- the references from a member stay
  over_refs : (y : ℕ) → IsReached S e y → (p : Option Cell) → ((d : Cell) → p ≡ Some d → suits k d ≡ true) → PassesOver (λ (x : Key × Cell) (rs : List (ℕ × RefClass × ℕ)). cons_option (ref_at y x) rs) k p
  over_refs y r None fits = tt
  over_refs y r (Some d) fits = λ rs. ap (λ p. cons_option p rs) (cond_both (k.at == y) (ref_of k.sub d.value) None (λ p. p ≡ None)
      (λ here. no_ref k.sub k.kind d.value (suits-is_of k d (fits d refl)) (no_ref_there (rank k.kind == 8) refl (sym (eqb-true k.at y here))))
      (λ h. refl))
    where
      no_ref_there : (b : Bool) → (rank k.kind == 8) ≡ b → y ≡ k.at → (rank k.kind == 8) ≡ false
      no_ref_there true is here = absurd (elsewhere y r (or_right (is_place k.kind) _ is) here)
      no_ref_there false is here = is

  by_steps : (y : ℕ) (x : Key × Cell) (es : Program) → refs_from (x ∷ es) y ≡ cons_option (ref_at y x) (refs_from es y)
  by_steps y x es = refl

  refs_stay : (y : ℕ) → IsReached S e y → refs_from T y ≡ refs_from S y
  refs_stay y r =
      scan-placed (λ es. refs_from es y) (λ (x : Key × Cell) (rs : List (ℕ × RefClass × ℕ)). cons_option (ref_at y x) rs) (by_steps y) k S o valid.in_order
      (over_refs y r (cell_at S k) (λ d h. valid.cells k d h))
      (over_refs y r o (λ d h. valid_after.cells k d (cell_at_placed S k o ∙ h)))

  ways_stay : (y : ℕ) → IsReached S e y → ways T y ≡ ways S y
  ways_stay y r = λ i. ways_of y (unit_stays y (elsewhere_place y r) i) (refs_stay y r i)

  old_step : (y z : ℕ) → IsReached S e y → IsReached S e z → follows S y z ≡ true → follows T y z ≡ true
  old_step y z r s h =
      let parts = and_parts (has z (ways S y)) (may_join S z) h in
      and_from (has z (ways T y)) (may_join T z) (ap (has z) (ways_stay y r) ∙ parts.0) (join_stays z (elsewhere_place z s) ∙ parts.1)

  new_step : (y z : ℕ) → IsReached S e y → follows T y z ≡ true → follows S y z ≡ true
  new_step y z r h =
      let parts = and_parts (has z (ways T y)) (may_join T z) h in
      let other = λ (place : is_place k.kind ≡ true) (same : z ≡ k.at). avoids.coming place y r (subst (λ w. has w (ways T y) ≡ true) same parts.0) in
      and_from (has z (ways S y)) (may_join S z) (ap (has z) (sym (ways_stay y r)) ∙ parts.0) (sym (join_stays z other) ∙ parts.1)

  pub reach_stays : reach T e ≡ reach S e
  reach_stays = same_reach S T e valid valid_after (record { entry = ap is_instruction (unit_stays e avoids.entry); old = old_step; new = new_step })

-- a change of a kind that a reach doesn't read
pub unread : (S T : Program) (k : Key) (e : ℕ) → is_read k.kind ≡ false → Avoids S T k e
unread S T k e h = record {
  entry = λ place. absurd (both_ways (is_read k.kind) h (or_left (is_place k.kind) _ place));
  members = λ read. absurd (both_ways (is_read k.kind) h read);
  coming = λ place. absurd (both_ways (is_read k.kind) h (or_left (is_place k.kind) _ place));
}
