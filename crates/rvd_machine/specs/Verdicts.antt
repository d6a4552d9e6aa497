-- What becomes of the items of a job that is offered, one after the other, each on the working program as the earlier ones
-- left it. Use `judged_all` for what verdicts make of a batch, and `AreVerdicts` for which verdicts may be given.
use Rattle.std.specs.Prelude.{◌≡◌, ℕ, ◌+◌, ◌<◌, Bool, true, false, List, [], ◌∷◌, length, if◌then◌else◌}
use Rattle.rvd_fact.specs.declared.cells.Change.{Change}
use Rattle.rvd_fact.specs.Program.{Program, applied_all}
use Rattle.rvd_ask.specs.declared.asks.Analyzer.{Analyzer}
use Rattle.rvd_ask.specs.declared.asks.Analyzer.TheVariants as analyzer
use Rattle.rvd_ask.specs.declared.asks.Item.{Item}
use Rattle.rvd_ask.specs.Answers.{ans, IsSame}
use Rattle.rvd_ask.specs.Forms.{has_form}
use Rattle.rvd_ask.specs.Rules.{rule}
use Rattle.rvd_event.specs.declared.verdicts.Verdict.{Verdict}
use Rattle.rvd_event.specs.declared.verdicts.Verdict.TheVariants.{Joined, Nothing, Off, Stale, Foreign}
use Rattle.rvd_queue.specs.Sets.{with}
use Rattle.rvd_machine.specs.Enabled.{Enabled, is_on, woken_into}
use Rattle.rvd_machine.specs.State.{State, work}

-- what an offer works on: the working program, the queue, how many changes were made, and whether an item joined
pub record Batch : Type 0 where
  pub work : Program
  pub queue : List Item
  pub changes : ℕ
  pub joined : Bool

abbrev pub first_batch : State → Batch
first_batch s = record { work = work s; queue = s.queue; changes = 0; joined = false }

abbrev pub is_body : Analyzer → Bool
is_body analyzer.Body = true
is_body a = false

-- an item that joined returns to the queue, unless it is a body item
abbrev pub returned : Item → List Item → List Item
returned i queue = if is_body i.analyzer then queue else with i queue

abbrev pub joined_by : Enabled → Batch → Item → List Change → Batch
joined_by E b i changes = record {
  work = applied_all b.work changes;
  queue = returned i (woken_into E b.work changes b.queue);
  changes = b.changes + length changes;
  joined = true;
}

-- an item that is stale or foreign returns to the queue too; with the others nothing happens
abbrev pub judged : Enabled → Batch → Item → Verdict → Batch
judged E b i (Joined k) = joined_by E b i (rule b.work i)
judged E b i Nothing = b
judged E b i Off = b
judged E b i (Stale ask was now) = record b { queue = with i b.queue }
judged E b i (Foreign ask said was) = record b { queue = with i b.queue }

abbrev pub judged_all : Enabled → Batch → List Item → List Verdict → Batch
judged_all E b [] verdicts = b
judged_all E b (i ∷ items) [] = b
judged_all E b (i ∷ items) (v ∷ verdicts) = judged_all E (judged E b i v) items verdicts

-- the verdicts that may be given on an item of a job with the program P
abbrev pub IsVerdict : Enabled → Program → Batch → Item → Verdict → Type 0
IsVerdict E P b i (Joined k) = (is_on E i.analyzer ≡ true) × (0 < k) × (k ≡ length (rule b.work i))
IsVerdict E P b i Nothing = (is_on E i.analyzer ≡ true) × (rule b.work i ≡ [])
IsVerdict E P b i Off = is_on E i.analyzer ≡ false
IsVerdict E P b i (Stale ask was now) =
    (is_on E i.analyzer ≡ true) × IsSame was (ans P ask) × IsSame now (ans b.work ask) × (¬ IsSame was now)
IsVerdict E P b i (Foreign ask said was) =
    (is_on E i.analyzer ≡ true) × (has_form ask said ≡ true) × IsSame was (ans P ask) × (¬ IsSame said (ans P ask)) × (¬ IsSame said (ans b.work ask))

-- one verdict for each item
abbrev pub AreVerdicts : Enabled → Program → Batch → List Item → List Verdict → Type 0
AreVerdicts E P b [] [] = Unit {0}
AreVerdicts E P b [] (v ∷ verdicts) = ⊥
AreVerdicts E P b (i ∷ items) [] = ⊥
AreVerdicts E P b (i ∷ items) (v ∷ verdicts) = IsVerdict E P b i v × AreVerdicts E P (judged E b i v) items verdicts
