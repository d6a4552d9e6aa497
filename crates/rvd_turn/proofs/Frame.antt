-- What a step leaves to the passes that don't take it. `frame` carries what the rule says of such a pass over a step; `each_set`, `each_snoc` and `held_set` put the stepping pass
-- and the others together. Use them in the proof of each kind of step.
use Rattle.std.proofs.Common.{◌≡◌, ℕ, ◌<◌, ◌≤◌, ◌≢◌, ◌⊎◌, true, List, [], ◌∷◌, ◌++◌, length, set, sym, ap, ◌∙◌, subst, inl, inr, ⊎_elim, arith, Some}
use Rattle.std.specs.Prelude.{Any}
use mathlib.Core.Option.{some, some-injective}
use mathlib.Core.Logic.{dite}
use native.Mathlib.Decide.{ℕ_discrete}
use lib.ListN.{get_elem?}
use Rattle.atomic_table.proofs.Lists.{at_set, set_here, set_else}
use Rattle.rvd_turn.specs.declared.view.View.{View}
use Rattle.rvd_turn.specs.Story.{owned, IsPrefix}
use Rattle.rvd_turn.specs.Known.{IsHeld}
use Rattle.rvd_turn.specs.Rule.{TurnState, kind_of, ticket_at, IsMet, Fits, Held}
use Rattle.rvd_turn.proofs.Lists.{Each-get, Each-imp, at_end, at_short}
use Rattle.rvd_turn.proofs.Prefixes.{prefix_trans}

module _ {H E : Type 0} (owner : E → ℕ) where
  -- The step from t to t' leaves what the pass at the seat j is told.
  pub record Spares (t t' : TurnState H E) (j : ℕ) : Type 0 where
    pub head : t'.head ≡ t.head
    pub log : IsPrefix t.log t'.log
    pub given : t.given ≤ t'.given
    pub role : (n : ℕ) → n < t.given → (t.role n).0 ≡ j → t'.role n ≡ t.role n
    pub own : (n : ℕ) → n < t.given → (t.role n).0 ≡ j → owned owner n t'.log ≡ owned owner n t.log
    pub lead : (t.role 0).0 ≡ j → (t'.given ≡ t.given) × (t'.passes ≡ t.passes)
    pub queued : (k n : ℕ) → (t.role n).0 ≡ j → get_elem? t.queue k ≡ some n → (k' : ℕ) × (get_elem? t'.queue k' ≡ some n) × (ticket_at t' k' ≡ ticket_at t k)
    pub turn : (n : ℕ) → (t.role n).0 ≡ j → get_elem? t.queue 0 ≡ some n → (get_elem? t'.queue 0 ≡ some n) × (t'.serving ≡ t.serving) × (t'.log ≡ t.log) × (t'.out ≡ t.out)

  -- How a pass holds a number: as its own, or by a meeting.
  pub hold_of : (t : TurnState H E) (j : ℕ) (v : View H E) (n : ℕ) → Fits owner t j v → IsHeld v.number v.met n → (t.role n ≡ (j, kind_of v.turn v.ticket)) ⊎ (t.role n ≡ (j, 0))
  hold_of t j v n f h = ⊎_elim
      (λ (e : v.number ≡ n). inl (subst (λ k. t.role k ≡ (j, kind_of v.turn v.ticket)) e f.role))
      (λ (e : Any (λ (m : ℕ × List E). m.0 ≡ n) v.met).
      let one = Each-get (IsMet owner t j) v.met e.0 e.1 f.met e.2 in
      inr (subst (λ k. t.role k ≡ (j, 0)) e.4 (subst (λ (m : ℕ × List E). t.role m.0 ≡ (j, 0)) e.3 one.1)))
      h

  pub seat_of : (t : TurnState H E) (j : ℕ) (v : View H E) (n : ℕ) → Fits owner t j v → IsHeld v.number v.met n → (t.role n).0 ≡ j
  seat_of t j v n f h = ⊎_elim
      (λ (e : t.role n ≡ (j, kind_of v.turn v.ticket)). ap (λ (z : ℕ × ℕ). z.0) e)
      (λ (e : t.role n ≡ (j, 0)). ap (λ (z : ℕ × ℕ). z.0) e)
      (hold_of t j v n f h)

  pub frame : (t t' : TurnState H E) (j : ℕ) (v : View H E) → Spares t t' j → Fits owner t j v → Fits owner t' j v
  frame t t' j v s f = let more = s.given in let few = f.number in let mine : (t.role v.number).0 ≡ j = ap (λ (z : ℕ × ℕ). z.0) f.role in record {
    head = f.head ∙ ap Some (sym s.head);
    seen = prefix_trans v.seen t.log t'.log f.seen s.log;
    before = f.before;
    number = omega arith;
    role = s.role v.number f.number mine ∙ f.role;
    own = s.own v.number f.number mine ∙ f.own;
    met = Each-imp (IsMet owner t j) (IsMet owner t' j) v.met
        (λ m h. let a = h.0 in let its : (t.role m.0).0 ≡ j = ap (λ (z : ℕ × ℕ). z.0) h.1 in (omega arith, s.role m.0 h.0 its ∙ h.1, s.own m.0 h.0 its ∙ h.2))
        f.met;
    zero = f.zero;
    lead = λ p. let l = f.lead p in let q = s.lead (seat_of t j v 0 f l.0) in (l.0, l.1 ∙ sym q.0, q.1 ∙ l.2);
    queued = λ n e. let q = f.queued n e in let r = s.queued q.0 v.number mine q.1 in (r.0, r.1, q.2 ∙ sym r.2);
    turn = λ e. let x = f.turn e in let y = s.turn v.number mine x.0 in (y.0, x.1 ∙ ap Some (sym y.1), x.2 ∙ sym y.2, y.3 ∙ x.3);
  }

  -- The views after the seat id has changed its own.
  pub each_set : (t : TurnState H E) (views : List (View H E)) (id : ℕ) (w : View H E) → ((j : ℕ) (u : View H E) → j ≢ id → get_elem? views j ≡ some u → u.live ≡ true → Fits owner t j u) → (w.live ≡ true → Fits owner t id w)
      → (j : ℕ) (u : View H E) → get_elem? (set views id w) j ≡ some u → u.live ≡ true → Fits owner t j u
  each_set t views id w others mine j u e live = ⊎_elim
      (λ (x : (j ≡ id) × (w ≡ u)). subst (λ (z : ℕ × View H E). z.1.live ≡ true → Fits owner t z.0 z.1) (λ i. (sym x.0 i, x.1 i)) mine live)
      (λ (x : (j ≢ id) × (get_elem? views j ≡ some u)). others j u x.0 x.1 live)
      (at_set views id j w u e)

  -- The views after a new seat has come with the view w.
  pub each_snoc : (t : TurnState H E) (views : List (View H E)) (w : View H E) → ((j : ℕ) (u : View H E) → j < length views → get_elem? views j ≡ some u → u.live ≡ true → Fits owner t j u) → (w.live ≡ true → Fits owner t (length views) w)
      → (j : ℕ) (u : View H E) → get_elem? (views ++ w ∷ []) j ≡ some u → u.live ≡ true → Fits owner t j u
  each_snoc t views w others mine j u e live = ⊎_elim
      (λ (x : (j < length views) × (get_elem? views j ≡ some u)). others j u x.0 x.1 live)
      (λ (x : (j ≡ length views) × (w ≡ u)). subst (λ (z : ℕ × View H E). z.1.live ≡ true → Fits owner t z.0 z.1) (λ i. (sym x.0 i, x.1 i)) mine live)
      (at_end views w u j e)

-- Each number is still held, where the seat id holds what it held, and numbers stay at their seats.
pub held_set : {H E : Type 0} (t t' : TurnState H E) (views : List (View H E)) (id : ℕ) (v w : View H E) → get_elem? views id ≡ some v → w.live ≡ true → t'.given ≡ t.given → ((n : ℕ) → (t'.role n).0 ≡ (t.role n).0)
    → ((n : ℕ) → IsHeld v.number v.met n → IsHeld w.number w.met n) → Held t views → Held t' (set views id w)
held_set {H} {E} t t' views id v w at live given seats more held n l =
    let h = held n (omega arith) in
    dite (ℕ_discrete (t.role n).0 id)
    (λ e. let same : v ≡ h.0 = some-injective v h.0 (sym at ∙ ap (get_elem? views) (sym e) ∙ h.1) in (
      w,
      ap (get_elem? (set views id w)) (seats n ∙ e) ∙ set_here views id w (at_short views id v at),
      live,
      more n (subst (λ (u : View H E). IsHeld u.number u.met n) (sym same) h.3),
    ))
    (λ ne. (h.0, ap (get_elem? (set views id w)) (seats n) ∙ set_else views id (t.role n).0 w ne ∙ h.1, h.2, h.3))
