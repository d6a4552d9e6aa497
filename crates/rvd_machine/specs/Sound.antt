-- No event is lost. Use `Sound` for what every state keeps that a legal journal leads to: its programs are valid, and while a
-- whole analysis stands, whatever an enabled analyzer would change is queued, taken or kept. `AreClosed` says the same of
-- the ends of analyses: nothing is left to change. `JoinedIsSparing` says what joins.
use Rattle.std.specs.Prelude.{◌≡◌, ℕ, Bool, true, false, List, [], ◌∷◌, ◌++◌, length, map, Option, Some, None, ◌⊎◌}
use Rattle.rvd_fact.specs.Program.{Program}
use Rattle.rvd_fact.specs.Valid.{IsValid}
use Rattle.rvd_ask.specs.declared.asks.Item.{Item}
use Rattle.rvd_ask.specs.Rules.{rule, Spares}
use Rattle.rvd_ask.specs.Unsettled.{has_item, IsClosed}
use Rattle.rvd_event.specs.declared.events.Event.TheVariants.{Offer}
use Rattle.rvd_event.specs.declared.replies.Reply.TheVariants.{SettledAt, Verdicts}
use Rattle.rvd_event.specs.declared.verdicts.Verdict.{Verdict}
use Rattle.rvd_event.specs.declared.verdicts.Verdict.TheVariants.{Joined}
use Rattle.rvd_journal.specs.declared.entries.Entry.{Entry}
use Rattle.rvd_machine.specs.Enabled.{Enabled, is_on, enabled_analyzers}
use Rattle.rvd_machine.specs.State.{State, Open, Job, base, work, waits, job_of}
use Rattle.rvd_machine.specs.Verdicts.{Batch, first_batch, judged}
use Rattle.rvd_machine.specs.Steps.{Head, start_of, state, after, IsLegal}

-- each item of an enabled analyzer that a test doesn't name is settled
abbrev pub IsSettledBut : Enabled → Program → (Item → Bool) → Type 0
IsSettledBut E S named = (i : Item) → is_on E i.analyzer ≡ true → named i ≡ false → rule S i ≡ []

-- whether an item is kept; where nothing is open there is nothing to keep
abbrev pub is_kept : Option Open → Item → Bool
is_kept None i = true
is_kept (Some o) i = has_item i o.kept

-- while a whole analysis stands, what is unsettled in the working program is queued or taken, and with a transaction open
-- what is unsettled in the committed program is kept
pub record IsNoneLost (s : State) : Type 0 where
  pub work : s.whole ≡ true → IsSettledBut s.enabled (work s) (waits s)
  pub base : s.whole ≡ true → IsSettledBut s.enabled (base s) (is_kept s.current)

-- each program of the state is valid: the committed one, the working one, those before and after them in the history, and
-- those of the jobs that are taken
abbrev pub AreValid : List Program → Type 0
AreValid [] = Unit {0}
AreValid (S ∷ programs) = IsValid S × AreValid programs

abbrev pub programs_of : List Job → List Program
programs_of jobs = map (λ (job : Job). job.program) jobs

pub record AreAllValid (s : State) : Type 0 where
  pub base : IsValid (base s)
  pub work : IsValid (work s)
  pub past : AreValid s.history.past
  pub undone : AreValid s.history.undone
  pub taken : AreValid (programs_of s.taken)

pub record Sound (s : State) : Type 0 where
  pub valid : AreAllValid s
  pub none_lost : IsNoneLost s

-- the state after each legal journal is sound
abbrev pub LegalIsSound : Type 0
LegalIsSound = (h : Head) (J : List Entry) → IsLegal h J → Sound (state h J)

-- at each entry that names a Settled step, and at each that answers SettledAt, no enabled analyzer would change the
-- committed program, where s is the state before these entries
abbrev pub IsClosedAt : State → Entry → Type 0
IsClosedAt s e = (n : ℕ) → (e.settled ≡ Some n) ⊎ (e.reply ≡ SettledAt n) → IsClosed (base s) (enabled_analyzers s.enabled)

abbrev pub AreClosed : State → List Entry → Type 0
AreClosed s [] = Unit {0}
AreClosed s (e ∷ es) = IsClosedAt (after s e) e × AreClosed (after s e) es

-- so it is along each legal journal
abbrev pub SettledIsClosed : Type 0
SettledIsClosed = (h : Head) (J : List Entry) → IsLegal h J → AreClosed (start_of h) J

-- each item that joined had as many changes as its rule on the working program that it joined, and they spare what is
-- protected there
abbrev pub JoinsSparing : Batch → Item → Verdict → Type 0
JoinsSparing b i (Joined k) = (k ≡ length (rule b.work i)) × Spares b.work (rule b.work i)
JoinsSparing b i v = Unit {0}

abbrev pub AllJoinSparing : Enabled → Batch → List Item → List Verdict → Type 0
AllJoinSparing E b [] verdicts = Unit {0}
AllJoinSparing E b (i ∷ items) [] = Unit {0}
AllJoinSparing E b (i ∷ items) (v ∷ verdicts) = JoinsSparing b i v × AllJoinSparing E (judged E b i v) items verdicts

-- so it is at each offer of a legal journal that is answered with verdicts
abbrev pub JoinedIsSparing : Type 0
JoinedIsSparing =
    (h : Head) (J : List Entry) (e : Entry) (ticket : ℕ) (job : Job) (verdicts : List Verdict) → IsLegal h (J ++ e ∷ [])
    → e.event ≡ Offer ticket → e.reply ≡ Verdicts verdicts → job_of ticket (state h J).taken ≡ Some job
    → AllJoinSparing (state h J).enabled (first_batch (state h J)) job.items verdicts
