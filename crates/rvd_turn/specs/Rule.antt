-- The rule of the turn: what holds between any two steps, of the three words, the slot and the views of all passes that exist.
-- There is one story, a queue of the numbers whose passes have a ticket, and of each number the seat whose pass holds it; the words, the slot and the views agree with these.
use Rattle.std.specs.Prelude.{◌≡◌, ℕ, ◌+◌, ◌%◌, ◌^◌, ◌<◌, ◌≤◌, List, [], ◌∷◌, length, Option, Some, None, Bool, true, false, cond, ◌⊎◌, ◌≢◌, ⊤}
use Rattle.std.specs.List.{AllByRecursion as Each}
use mathlib.Core.Option.{some, none}
use mathlib.Core.Option.{Option as Maybe}
use lib.ListN.{get_elem?}
use Rattle.atomic_table.specs.Table.{State}
use Rattle.rvd_turn.specs.declared.view.View.{View}
use Rattle.rvd_turn.specs.Story.{owned, IsPrefix}
use Rattle.rvd_turn.specs.Known.{IsHeld}

-- How a pass holds a number: it met the pass of that number, or the number is its own, and the pass has no ticket, a ticket, or the turn.
abbrev pub by_meeting : ℕ
by_meeting = 0

abbrev pub at_rest : ℕ
at_rest = 1

abbrev pub with_ticket : ℕ
with_ticket = 2

abbrev pub with_turn : ℕ
with_turn = 3

-- How a pass holds its own number, by whether it has the turn, and its ticket.
abbrev pub kind_of : {A : Type 0} → Bool → Option A → ℕ
kind_of true t = with_turn
kind_of false None = at_rest
kind_of false (Some t) = with_ticket

-- No number stands twice.
abbrev pub Apart : List ℕ → Type 0
Apart [] = ⊤
Apart (x ∷ xs) = Each (λ y. y ≢ x) xs × Apart xs

-- What the words, the slot and the views stand for together: the one story (its head and its log), the queue of numbers, from the one served on, `role`, which is of each number
-- the seat whose pass holds it and how, whether the slot is out, the ticket served, how many numbers passes have, and how many were drawn.
pub record TurnState (H E : Type 0) : Type 0 where
  pub head : H
  pub log : List E
  pub queue : List ℕ
  pub role : ℕ → ℕ × ℕ
  pub out : Bool
  pub serving : ℕ
  pub given : ℕ
  pub passes : ℕ

module _ {H E : Type 0} where
  -- The ticket of the k-th number of the queue.
  abbrev pub ticket_at : TurnState H E → ℕ → ℕ
  ticket_at t k = (t.serving + k) % 2 ^ 64

  -- Part 1. `serving`, `ticket` and `passes`: as many tickets are out as the queue is long.
  abbrev pub words_of : TurnState H E → List ℕ
  words_of t = t.serving ∷ ticket_at t (length t.queue) ∷ t.passes ∷ []

  -- The number n is that of a pass with a ticket.
  abbrev pub Waits : TurnState H E → ℕ → Type 0
  Waits t n = (n < t.given) × (with_ticket ≤ (t.role n).1)

  -- The number m.0 was met by the pass at the seat j, and m.1 are the entries of that owner.
  abbrev pub IsMet : (E → ℕ) → TurnState H E → ℕ → ℕ × List E → Type 0
  IsMet owner t j m = (m.0 < t.given) × (t.role m.0 ≡ (j, by_meeting)) × (owned owner m.0 t.log ≡ m.1)

  -- Parts 1, 4 and 5 as far as they speak of no view: the queue has numbers of passes with a ticket, each once; owners without a pass have no entries; there are at most 2^63 numbers.
  pub record Sound (owner : E → ℕ) (t : TurnState H E) : Type 0 where
    pub small : t.serving < 2 ^ 64
    pub few : t.passes ≤ 2 ^ 63
    pub all_given : t.given ≤ t.passes
    pub waiting : Each (Waits t) t.queue
    pub apart : Apart t.queue
    pub none_later : (n : ℕ) → t.given ≤ n → owned owner n t.log ≡ []

  -- Part 2. The slot is at home with the value, whose story is the one story, or it is out with the pass that has the turn, which is the first of the queue.
  abbrev pub Slot : {T : Type 0} → (T → H) → (T → List E) → TurnState H E → List (Maybe (Option T)) → Type 0
  Slot {T} head_of entries t homes = ((x : T) × (homes ≡ some (Some x) ∷ []) × (head_of x ≡ t.head) × (entries x ≡ t.log) × (t.out ≡ false))
      ⊎ ((n : ℕ) × (homes ≡ none ∷ []) × (get_elem? t.queue 0 ≡ some n) × ((t.role n).1 ≡ with_turn) × (t.out ≡ true))

  -- What the rule says of the pass at the seat j with the view v.
  pub record Fits (owner : E → ℕ) (t : TurnState H E) (j : ℕ) (v : View H E) : Type 0 where
    -- Part 3. It has seen a prefix of the story, and what two passes had seen when they met are prefixes of that.
    pub head : v.head ≡ Some t.head
    pub seen : IsPrefix v.seen t.log
    pub before : Each (λ b. IsPrefix b v.seen) v.before
    -- Part 4. The numbers that it holds are held by no other pass, and the entries of these owners are those kept with them.
    pub number : v.number < t.given
    pub role : t.role v.number ≡ (j, kind_of v.turn v.ticket)
    pub own : owned owner v.number t.log ≡ v.own
    pub met : Each (IsMet owner t j) v.met
    -- Part 5. `made` is above 0 just where it holds number 0, and is then how many numbers passes have; one more is drawn where it holds a drawn number.
    pub zero : IsHeld v.number v.met 0 → 0 < v.made
    pub lead : 0 < v.made → IsHeld v.number v.met 0 × (v.made ≡ t.given) × (t.passes ≡ v.made + cond v.drawn 1 0)
    -- Part 1. Its ticket is the one of its place in the queue.
    pub queued : (n : ℕ) → v.ticket ≡ Some n → (k : ℕ) × (get_elem? t.queue k ≡ some v.number) × (n ≡ ticket_at t k)
    -- Part 2. Where it has the turn, it is the first of the queue, its ticket is served, it has seen the whole story, and the slot is out.
    pub turn : v.turn ≡ true → (get_elem? t.queue 0 ≡ some v.number) × (v.ticket ≡ Some t.serving) × (v.seen ≡ t.log) × (t.out ≡ true)

  -- Part 4. Each number that was given is held by a pass that exists.
  abbrev pub Held : TurnState H E → List (View H E) → Type 0
  Held t views = (n : ℕ) → n < t.given → (v : View H E) × (get_elem? views (t.role n).0 ≡ some v) × (v.live ≡ true) × IsHeld v.number v.met n

-- The rule.
pub record Kept {T H E : Type 0} (head_of : T → H) (entries : T → List E) (owner : E → ℕ) (s : State (Option T) (View H E)) : Type 0 where
  pub state : TurnState H E
  pub sound : Sound owner state
  pub words : s.words ≡ words_of state
  pub slot : Slot head_of entries state s.homes
  pub held : Held state s.views
  pub each : (j : ℕ) (v : View H E) → get_elem? s.views j ≡ some v → v.live ≡ true → Fits owner state j v
