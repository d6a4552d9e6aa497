-- What a pass is told of the value whose story is the one story. Use it for a look that gives the turn, and when the turn is closed.
use Rattle.std.proofs.Common.{◌≡◌, ℕ, List, sym, ap, ◌∙◌, subst, Some}
use Rattle.std.proofs.lemmas.List.Elements.{All-from_recursion}
use Rattle.atomic_table.specs.Seated.{TableId}
use Rattle.rvd_turn.specs.declared.view.View.{View}
use Rattle.rvd_turn.specs.Story.{owned, IsPrefix}
use Rattle.rvd_turn.specs.Known.{known, Tells}
use Rattle.rvd_turn.specs.Steps.{Takes}
use Rattle.rvd_turn.specs.Rule.{TurnState, IsMet, Fits}
use Rattle.rvd_turn.proofs.Lists.{Each-imp}

module _ {T H E : Type 0} (head_of : T → H) (entries : T → List E) (owner : E → ℕ) where
  pub told : (t : TurnState H E) (j : ℕ) (v : View H E) (x : T) → Fits owner t j v → head_of x ≡ t.head → entries x ≡ t.log → Takes head_of entries owner v x
  told t j v x f hd en = record {
    head = f.head ∙ ap Some (sym hd);
    seen = subst (IsPrefix v.seen) (sym en) f.seen;
    own = ap (owned owner v.number) en ∙ f.own;
    met = Each-imp (IsMet owner t j) (λ (m : ℕ × List E). owned owner m.0 (entries x) ≡ m.1) v.met (λ m h. ap (owned owner m.0) en ∙ h.2) f.met;
  }

  -- The same, as a contract says it.
  pub tells : (z : TableId) (v : View H E) (x : T) → Takes head_of entries owner v x → Tells head_of entries owner (known z v) x
  tells z v x h = (h.head, h.seen, h.own, All-from_recursion (λ (m : ℕ × List E). owned owner m.0 (entries x) ≡ m.1) v.met h.met)
