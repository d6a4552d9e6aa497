-- The end of a turn: the pass that holds every number finds the value at home, since whoever had the turn would hold its number with it.
use Rattle.std.proofs.Common.{◌≡◌, ℕ, ◌<◌, ◌≤◌, true, false, List, [], ◌∷◌, sym, ap, ◌∙◌, subst, ⊎_elim, arith, Option, Some, None}
use Rattle.std.proofs.lemmas.Option.{same_Some}
use mathlib.Core.Option.{some, none, some-injective}
use lib.ListN.{get_elem?}
use Rattle.atomic_table.specs.Table.{State, Seen, Final}
use Rattle.atomic_table.specs.Seated.{TableId}
use Rattle.rvd_turn.specs.declared.view.View.{View}
use Rattle.rvd_turn.specs.Story.{owned}
use Rattle.rvd_turn.specs.Known.{Known, IsHeld, HoldsAll, known, Tells}
use Rattle.rvd_turn.specs.Steps.{Takes}
use Rattle.rvd_turn.specs.Rule.{kind_of, Waits, Kept}
use Rattle.rvd_turn.proofs.Lists.{Each-at}
use Rattle.rvd_turn.proofs.Frame.{hold_of}
use Rattle.rvd_turn.proofs.Told.{told, tells}

module _ {T H E : Type 0} (head_of : T → H) (entries : T → List E) (owner : E → ℕ) where
  abbrev R : State (Option T) (View H E) → Type 0
  R = Kept head_of entries owner

  -- Owners from n on have no entries.
  abbrev pub NoneFrom : ℕ → T → Type 0
  NoneFrom made x = (n : ℕ) → made ≤ n → owned owner n (entries x) ≡ []

  pub closes : (id : ℕ) (v : View H E) (s : State (Option T) (View H E)) → v.live ≡ true → v.turn ≡ false → v.ticket ≡ None → 0 < v.made → ((n : ℕ) → n < v.made → IsHeld v.number v.met n) → Seen R id v s
      → (x : T) × (get_elem? s.homes 0 ≡ some (some (Some x))) × Takes head_of entries owner v x × NoneFrom v.made x
  closes id v s live no_turn no_ticket leads every seen =
      let r = seen.0 in let t = r.state in let f = r.each id v seen.1 live in let o = r.sound in let l = f.lead leads in let g : v.made ≡ t.given = l.1 in
      let kind : kind_of v.turn v.ticket ≡ 1 = ap (λ b. kind_of b v.ticket) no_turn ∙ ap (kind_of false) no_ticket in
      ⊎_elim
      (λ (h : (x : T) × (s.homes ≡ some (Some x) ∷ []) × (head_of x ≡ t.head) × (entries x ≡ t.log) × (t.out ≡ false)).
      (h.0, ap (λ hs. get_elem? hs 0) h.1, told head_of entries owner t id v h.0 f h.2 h.3, λ n k. ap (owned owner n) h.3 ∙ o.none_later n (omega arith)))
      (λ (h : (n : ℕ) × (s.homes ≡ none ∷ []) × (get_elem? t.queue 0 ≡ some n) × ((t.role n).1 ≡ 3) × (t.out ≡ true)).
      let w = Each-at (Waits t) t.queue 0 h.0 o.waiting h.2 in
      let a = w.0 in let three = h.3 in
      absurd (⊎_elim
      (λ (e : t.role h.0 ≡ (id, kind_of v.turn v.ticket)). let k = ap (λ (z : ℕ × ℕ). z.1) e ∙ kind in omega arith)
      (λ (e : t.role h.0 ≡ (id, 0)). let k = ap (λ (z : ℕ × ℕ). z.1) e in omega arith)
      (hold_of owner t id v h.0 f (every h.0 (omega arith)))))
      r.slot

  -- A pass p between two calls, with the view v, that holds every number; the words, slots and the first slot's content as the table is closed.
  module _ (id : ℕ) (z : TableId) (v : View H E) (p : Known H E) (ws : List ℕ) (xs : List (Option T)) (found : Option T) (live : v.live ≡ true) (no_turn : v.turn ≡ false) (no_ticket : v.ticket ≡ None)
      (is : known z v ≡ p) (all : HoldsAll p) (last : Final (Seen R id v) ws xs) (got : get_elem? xs 0 ≡ some found) where
    finds : (x : T) × (found ≡ Some x) × Tells head_of entries owner p x × NoneFrom p.made x
    finds =
        let every = subst HoldsAll (sym is) all in
        let r = closes id v last.0 live no_turn no_ticket every.0 every.1 last.1 in (
          r.0,
          some-injective found (Some r.0) (sym got ∙ last.4 0 (Some r.0) r.1),
          subst (λ (k : Known H E). Tells head_of entries owner k r.0) is (tells head_of entries owner z v r.0 r.2),
          subst (λ (k : Known H E). NoneFrom k.made r.0) is r.3,
        )

    pub finds_some : (x : T) → found ≡ Some x → Tells head_of entries owner p x × NoneFrom p.made x
    finds_some x found_is = let r = finds in subst (λ (y : T). Tells head_of entries owner p y × NoneFrom p.made y) (same_Some r.0 x (sym r.1 ∙ found_is)) (r.2, r.3)

    pub finds_none : found ≡ None → ⊥
    finds_none found_is = let r = finds in let e = r.1 in absurd (cc)
