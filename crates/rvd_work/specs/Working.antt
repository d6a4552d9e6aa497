-- What a worker's pass tells. Use `ArePairsOf` for the entries that it adds, `Worked` for the whole loop, and `TookIn` and
-- `OfferedIn` for one turn.
use Rattle.std.specs.Prelude.{◌≡◌, ℕ, ◌+◌, ◌≤◌, Bool, true, false, List, [], ◌∷◌, ◌++◌, length, Option, Some, None, ◌⊎◌}
use Rattle.rvd_ask.specs.declared.asks.Item.{Item}
use Rattle.rvd_ask.specs.Promise.{Proposed}
use Rattle.rvd_event.specs.declared.events.Event.{Event}
use Rattle.rvd_event.specs.declared.events.Event.TheVariants as event
use Rattle.rvd_event.specs.declared.replies.Reply.{Reply}
use Rattle.rvd_event.specs.declared.replies.Reply.TheVariants as reply
use Rattle.rvd_journal.specs.declared.entries.Entry.{Entry}
use Rattle.rvd_wake.specs.Made.{AreMadeOn}
use Rattle.rvd_machine.specs.Exact.{IsExactReply}
use Rattle.rvd_machine.specs.Proper.{IsProper}
use Rattle.rvd_machine.specs.Replies.{is_finished}
use Rattle.rvd_machine.specs.State.{State, work}
use Rattle.rvd_machine.specs.Steps.{Head, IsStep, is_worker, start_of, state}
use Rattle.rvd_turn.specs.Story.{IsPrefix}
use Rattle.rvd_desk.specs.declared.answers.Job.{Job as Given}
use Rattle.rvd_desk.specs.declared.answers.Took.{Took}
use Rattle.rvd_desk.specs.declared.answers.Took.TheVariants.{Job, Idle, Finished}
use Rattle.rvd_desk.specs.Calls.{IsCall}
use Rattle.rvd_desk.specs.Owners.{AllBy}
use Rattle.rvd_desk.specs.Story.{entry_of}
use Rattle.rvd_desk.specs.Turns.{Looked, Passing, TurnOf, added, by}

-- ---- the entries of a worker
-- an offer of a ticket
pub record IsOfferOf (worker ticket : ℕ) (offer : Entry) : Type 0 where
  pub caller : offer.actor ≡ worker
  pub event : offer.event ≡ event.Offer ticket

-- a take of n items, and the offer of the ticket that it gave
pub record IsPairOf (worker n : ℕ) (take offer : Entry) : Type 0 where
  pub ticket : ℕ
  pub items : List Item
  pub taken : IsCall worker (event.Take n) (reply.Job ticket items) take
  pub offered : IsOfferOf worker ticket offer

abbrev pub ArePairsOf : ℕ → ℕ → List Entry → Type 0
ArePairsOf worker n [] = Unit {0}
ArePairsOf worker n (take ∷ []) = ⊥
ArePairsOf worker n (take ∷ offer ∷ entries) = IsPairOf worker n take offer × ArePairsOf worker n entries

-- a take without its offer
pub record IsTakeOf (worker n ticket : ℕ) (take : Entry) : Type 0 where
  pub items : List Item
  pub taken : IsCall worker (event.Take n) (reply.Job ticket items) take

-- the tickets of the offers, in order
abbrev pub offered_by : Event → List ℕ
offered_by (event.Offer ticket) = ticket ∷ []
offered_by e = []

abbrev pub tickets_of : List Entry → List ℕ
tickets_of [] = []
tickets_of (e ∷ es) = offered_by e.event ++ tickets_of es

-- ---- what a pass knows of its own entries: they are those of its number along what it has seen, and each is proper there
pub record Knows (head : Head) (p : Passing) : Type 0 where
  pub mine : by p.number p.seen ≡ p.own
  pub proper : AllBy IsProper p.number (start_of head) p.seen

-- ---- the loop
-- what is so behind each round: the pass gained pairs, and the proposer their tickets
pub record Rounds (head : Head) (old new : Passing) (n : ℕ) (tickets tickets' : List ℕ) : Type 0 where
  pub entries : List Entry
  pub pairs : ArePairsOf old.number n entries
  pub rest : new ≡ record old { own = old.own ++ entries; seen = new.seen }
  pub begins : IsPrefix old.seen new.seen
  pub gained : tickets' ≡ tickets ++ tickets_of entries
  pub known : Knows head old → Knows head new

-- a loop that ends before its end: perhaps behind one more take, whose ticket the proposer may have
pub record Breaks (head : Head) (old new : Passing) (n : ℕ) (tickets tickets' : List ℕ) : Type 0 where
  pub entries : List Entry
  pub take : Entry
  pub ticket : ℕ
  pub pairs : ArePairsOf old.number n entries
  pub last : IsTakeOf old.number n ticket take
  pub rest : new ≡ record old { own = old.own ++ (entries ++ take ∷ []); seen = new.seen }
  pub begins : IsPrefix old.seen new.seen
  pub gained : (tickets' ≡ tickets ++ tickets_of entries) ⊎ (tickets' ≡ tickets ++ (tickets_of entries ++ ticket ∷ []))
  pub known : Knows head old → Knows head new

-- where it answers true the pass has seen a finished state
abbrev pub WorkedBy : Head → Passing → Passing → ℕ → List ℕ → List ℕ → Bool → Type 0
WorkedBy head old new n tickets tickets' true = Rounds head old new n tickets tickets' × (is_finished (state head new.seen) ≡ true)
WorkedBy head old new n tickets tickets' false = Rounds head old new n tickets tickets' ⊎ Breaks head old new n tickets tickets'

pub record Worked (old new : Passing) (n : ℕ) (tickets tickets' : List ℕ) (ended : Bool) : Type 0 where
  pub head : Head
  pub about : old.head ≡ Some head
  pub worked : WorkedBy head old new n tickets tickets' ended

-- the pass is of a worker of the head, and doesn't have the turn
pub record IsWorker (p : Passing) (worker : ℕ) : Type 0 where
  pub head : Head
  pub about : p.head ≡ Some head
  pub number : p.number ≡ worker
  pub idle : p.turn ≡ false
  pub of_head : is_worker (start_of head) worker ≡ true

-- ---- one turn
-- a take that gave a job: its program is the working program behind the story that the pass took
pub record TookIn (old new : Passing) (n : ℕ) (job : Given) : Type 0 where
  pub head : Head
  pub log : List Entry
  pub turn : TurnOf old head log
  pub step : IsStep (state head log) (entry_of (state head log) old.number (event.Take n) (reply.Job job.ticket job.items))
  pub pass : new ≡ added old log (entry_of (state head log) old.number (event.Take n) (reply.Job job.ticket job.items))
  pub program : job.program ≡ work (state head log)

abbrev pub TookTurn : Passing → Passing → ℕ → Took → Type 0
TookTurn old new n (Job job) = TookIn old new n job
TookTurn old new n Idle = Looked old new
TookTurn old new n Finished = (l : Looked old new) × (is_finished (state l.head l.log) ≡ true)

-- an offer that was answered, by the one reply to these proposals
pub record OfferedIn (old new : Passing) (ticket : ℕ) (proposals : List Proposed) (r : Reply) : Type 0 where
  pub head : Head
  pub log : List Entry
  pub turn : TurnOf old head log
  pub step : IsStep (state head log) (entry_of (state head log) old.number (event.Offer ticket) r)
  pub exact : IsExactReply (state head log) ticket proposals r
  pub pass : new ≡ added old log (entry_of (state head log) old.number (event.Offer ticket) r)

-- a job that was proposed for and offered, or for which the desk was stopped
abbrev pub DidJob : Passing → Passing → Given → List ℕ → List ℕ → Bool → Type 0
DidJob old new job tickets tickets' true =
    (proposals : List Proposed) × (r : Reply) × AreMadeOn job.program job.items proposals × OfferedIn old new job.ticket proposals r
    × (tickets' ≡ tickets ++ job.ticket ∷ [])
DidJob old new job tickets tickets' false = Looked old new × ((tickets' ≡ tickets) ⊎ (tickets' ≡ tickets ++ job.ticket ∷ []))
