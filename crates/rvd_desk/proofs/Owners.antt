-- What holds of each entry of one actor. Use `by_longer` where a story goes on without that actor, `by-push` for one more entry,
-- and `along_all` where it is known of each actor.
use Rattle.std.proofs.Common.{◌≡◌, ℕ, ◌+◌, eqb, cond, List, [], ◌∷◌, ◌++◌, length, refl, sym, ap, ◌∙◌, subst, arith, eq-eqb, ne_eqb, append-nil, length-append}
use mathlib.Core.Logic.{dite}
use native.Mathlib.Decide.{ℕ_discrete}
use Rattle.rvd_journal.specs.declared.entries.Entry.{Entry}
use Rattle.rvd_turn.proofs.Owned.{owned-append}
use Rattle.rvd_machine.specs.State.{State}
use Rattle.rvd_machine.specs.Steps.{after, state_from}
use Rattle.rvd_desk.specs.Owners.{AllBy, AllAlong}
use Rattle.rvd_desk.specs.Turns.{by}

-- a list that an added one leaves as it is was given none
nothing_added : {A : Type 0} (xs ys : List A) → xs ++ ys ≡ xs → ys ≡ []
nothing_added xs [] e = refl
nothing_added xs (y ∷ ys) e = let n = sym (length-append xs (y ∷ ys)) ∙ ap length e in absurd (omega (arith, n))

-- a story that goes on and has the same entries of an actor goes on without that actor
pub none_more : (a : ℕ) (seen rest own : List Entry) → by a seen ≡ own → by a (seen ++ rest) ≡ own → by a rest ≡ []
none_more a seen rest own here there =
    nothing_added (by a seen) (by a rest) (sym (owned-append (λ (e : Entry). e.actor) a seen rest) ∙ there ∙ sym here)

mine_not : (a : ℕ) (e : Entry) (es : List Entry) → by a (e ∷ es) ≡ [] → (e.actor ≡ a → ⊥) × (by a es ≡ [])
mine_not a e es none = dite (ℕ_discrete e.actor a)
    (λ is. absurd (let long = ap length (sym (ap (λ b. cond b (e ∷ by a es) (by a es)) (eq-eqb e.actor a is)) ∙ none) in omega (arith, long)))
    (λ ne. (ne, sym (ap (λ b. cond b (e ∷ by a es) (by a es)) (ne_eqb e.actor a ne)) ∙ none))

module _ (P : State → Entry → Type 0) where
  pub by_none : (a : ℕ) (s : State) (es : List Entry) → by a es ≡ [] → AllBy P a s es
  by_none a s [] none = tt
  by_none a s (e ∷ es) none = let n = mine_not a e es none in (λ is. absurd (n.0 is), by_none a (after s e) es n.1)

  pub by_append : (a : ℕ) (s : State) (J K : List Entry) → AllBy P a s J → AllBy P a (state_from s J) K → AllBy P a s (J ++ K)
  by_append a s [] K h g = g
  by_append a s (e ∷ J) K h g = (h.0, by_append a (after s e) J K h.1 g)

  -- a story that goes on with no more entries of an actor
  pub by_longer : (a : ℕ) (s : State) (seen rest own : List Entry) → by a seen ≡ own → by a (seen ++ rest) ≡ own → AllBy P a s seen → AllBy P a s (seen ++ rest)
  by_longer a s seen rest own here there h = by_append a s seen rest h (by_none a (state_from s seen) rest (none_more a seen rest own here there))

  -- one more entry
  pub by_push : (a : ℕ) (s : State) (J : List Entry) (e : Entry) → AllBy P a s J → (e.actor ≡ a → P (state_from s J) e) → AllBy P a s (J ++ e ∷ [])
  by_push a s J e h g = by_append a s J (e ∷ []) h (g, tt)

  -- where it is known of the entries of each actor it is known of each entry
  pub along_all : (s : State) (J : List Entry) → ((a : ℕ) → AllBy P a s J) → AllAlong P s J
  along_all s [] h = tt
  along_all s (e ∷ J) h = ((h e.actor).0 refl, along_all (after s e) J (λ a. (h a).1))
