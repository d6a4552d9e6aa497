-- What each kind of step tells the pass that takes it. A pass in a step is its view and the slots that it carries; a step reads a word and finds n there.
-- The kinds split, join, out and home tell no more than how they change views and slots.
use Rattle.std.specs.Prelude.{◌≡◌, ℕ, List, [], ◌∷◌, Option, Some, MatchBool}
use Rattle.std.specs.List.{AllByRecursion as Each}
use Rattle.atomic_table.specs.Table.{Me, Step}
use Rattle.rvd_turn.specs.declared.view.View.{View}
use Rattle.rvd_turn.specs.Story.{owned, IsPrefix}
use Rattle.rvd_turn.specs.Views.{drew, settled, ticketed, is_due, took, gave}

module _ {T H E : Type 0} (head_of : T → H) (entries : T → List E) (owner : E → ℕ) where
  -- A pass in a step.
  abbrev pub Stepper : Type 0
  Stepper = Me (Option T) (View H E)

  -- number: the pass holds the number drawn.
  abbrev pub Numbers : Step (Option T) → Stepper → ℕ → Stepper → Type 0
  Numbers st m n m' = m' ≡ (drew m.0, m.1)

  -- The look after a join: each list that was kept is a prefix of what is seen.
  abbrev pub Compares : Step (Option T) → Stepper → ℕ → Stepper → Type 0
  Compares st m n m' = (m' ≡ (settled m.0, m.1)) × Each (λ b. IsPrefix b m.0.seen) m.0.before

  -- ticket: the pass holds the ticket found.
  abbrev pub Draws : Step (Option T) → Stepper → ℕ → Stepper → Type 0
  Draws st m n m' = m' ≡ (ticketed m.0 n, m.1)

  -- The value x has the story's head, begins with all that the view has seen, and has of each number that it holds just the entries kept with it.
  pub record Takes (v : View H E) (x : T) : Type 0 where
    pub head : v.head ≡ Some (head_of x)
    pub seen : IsPrefix v.seen (entries x)
    pub own : owned owner v.number (entries x) ≡ v.own
    pub met : Each (λ m. owned owner m.0 (entries x) ≡ m.1) v.met

  -- look: where it finds the ticket, the pass has the turn and the slot, with the value x; else nothing changes.
  abbrev pub Looks : Step (Option T) → Stepper → ℕ → Stepper → Type 0
  Looks st m n m' = MatchBool (is_due m.0 n) ((x : T) × (m' ≡ (took m.0 (entries x), (0, Some x) ∷ m.1)) × Takes m.0 x) (m' ≡ m)

  -- on: with the value x in its slot, the pass gives the slot back, and the story has the entries of x.
  abbrev pub Serves : Step (Option T) → Stepper → ℕ → Stepper → Type 0
  Serves st m n m' = (x : T) → m.1 ≡ (0, Some x) ∷ [] → m' ≡ (gave m.0 (entries x), [])

  -- The pass drew some ticket, which was served, and the slot came to it with the value x.
  abbrev pub IsServed : Stepper → Stepper → Type 0
  IsServed m m' = (t : ℕ) × (x : T) × (m' ≡ (took (ticketed m.0 t) (entries x), (0, Some x) ∷ m.1)) × Takes m.0 x
