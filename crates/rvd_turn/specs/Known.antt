-- What a contract sees of a pass, and what each call of a turn makes of it: one equation for each call.
-- Callers cite this file and Story; the steps inside the calls are in Views and Steps.
use Rattle.std.specs.Prelude.{◌≡◌, ℕ, ◌+◌, ◌<◌, List, [], ◌∷◌, ◌++◌, length, drop, All, Any, Option, Some, None, Bool, true, false, cond, ◌⊎◌}
use Rattle.atomic_table.specs.Seated.{TableId}
use Rattle.atomic_table.specs.Table.{Me}
use Rattle.rvd_turn.specs.declared.view.View.{View}
use Rattle.rvd_turn.specs.Story.{owned, longer, IsPrefix}

-- A pass, as contracts see it: of which turn it is, the head of the story, its number and its own entries, the numbers of the passes that met it, each with
-- that pass's own entries, the entries that it has seen, how many numbers there are (at the pass that holds number 0; 0 elsewhere), and whether it has the turn.
pub record Known (H E : Type 0) : Type 0 where
  pub turn_id : TableId
  pub head : Option H
  pub number : ℕ
  pub own : List E
  pub met : List (ℕ × List E)
  pub seen : List E
  pub made : ℕ
  pub turn : Bool

-- The number n is the pass's own, or that of a pass that met it.
abbrev pub IsHeld : {E : Type 0} → ℕ → List (ℕ × List E) → ℕ → Type 0
IsHeld number met n = (number ≡ n) ⊎ Any (λ m. m.0 ≡ n) met

module _ {H E : Type 0} where
  -- The pass holds the number n.
  abbrev pub Holds : Known H E → ℕ → Type 0
  Holds p n = IsHeld p.number p.met n

  -- The pass holds every number that was made, number 0 among them: each other pass has met it.
  abbrev pub HoldsAll : Known H E → Type 0
  HoldsAll p = (0 < p.made) × ((n : ℕ) → n < p.made → Holds p n)

  -- The first pass of the turn z, whose story has the head h.
  abbrev pub first_pass : TableId → H → Known H E
  first_pass z h = record { turn_id = z; head = Some h; number = 0; own = []; met = []; seen = []; made = 1; turn = false }

  -- The pass that is split off p.
  abbrev pub split_off : Known H E → Known H E
  split_off p = record { turn_id = p.turn_id; head = p.head; number = p.made; own = []; met = []; seen = p.seen; made = 0; turn = false }

  -- The pass p, after it met q.
  abbrev pub met_by : Known H E → Known H E → Known H E
  met_by p q = record p { met = p.met ++ (q.number, q.own) ∷ q.met; seen = longer p.seen q.seen; made = p.made + q.made }

  -- The pass p, after it met each of the passes in turn.
  abbrev pub met_all : Known H E → List (Known H E) → Known H E
  met_all p [] = p
  met_all p (q ∷ qs) = met_all (met_by p q) qs

  -- The pass p, after it took the value whose story has these entries.
  abbrev pub taken_by : Known H E → List E → Known H E
  taken_by p log = record p { seen = log; turn = true }

  -- The pass p, after it gave back the value whose story has these entries: the new ones are its own.
  abbrev pub given_by : Known H E → List E → Known H E
  given_by p log = record p { own = p.own ++ drop (length p.seen) log; seen = log; turn = false }

  -- What contracts see of a pass of the turn z with the view v.
  abbrev pub known : TableId → View H E → Known H E
  known z v = record { turn_id = z; head = v.head; number = v.number; own = v.own; met = v.met; seen = v.seen; made = v.made; turn = v.turn }

-- The value's story begins with all that the pass has seen, and has of each number that it holds just the entries kept with it.
module _ {T H E : Type 0} (head_of : T → H) (entries : T → List E) (owner : E → ℕ) where
  abbrev pub Tells : Known H E → T → Type 0
  Tells p x = (p.head ≡ Some (head_of x)) × IsPrefix p.seen (entries x) × (owned owner p.number (entries x) ≡ p.own) × All (λ m. owned owner m.0 (entries x) ≡ m.1) p.met

-- The slots that a pass carries: the one slot, emptied, where it has the turn.
abbrev pub carried : {T : Type 0} → Bool → List (ℕ × Option T)
carried {T} b = cond b ((0, None) ∷ []) []

-- A pass between two calls: it exists, compared what it had seen, gave the numbers that it drew, and has a ticket and the slot only with the turn.
pub record Rests {T H E : Type 0} (me : Me (Option T) (View H E)) : Type 0 where
  pub live : me.0.live ≡ true
  pub before : me.0.before ≡ []
  pub drawn : me.0.drawn ≡ false
  pub ticket : me.0.turn ≡ false → me.0.ticket ≡ None
  pub slot : me.1 ≡ carried me.0.turn
