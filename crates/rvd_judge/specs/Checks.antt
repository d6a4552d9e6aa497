-- Which verdicts may be given, told by the two programs that they are told by. Use `MayBe` for one item, with P the job's
-- program and W the working one; it is the relation `IsVerdict` of the machine on any batch with that program.
use Rattle.std.specs.Prelude.{◌≡◌, ◌<◌, true, false, [], length}
use Rattle.rvd_fact.specs.Program.{Program}
use Rattle.rvd_ask.specs.declared.answers.Answer.{Answer}
use Rattle.rvd_ask.specs.declared.asks.Ask.{Ask}
use Rattle.rvd_ask.specs.declared.asks.Item.{Item}
use Rattle.rvd_ask.specs.Answers.{ans, IsSame}
use Rattle.rvd_ask.specs.Forms.{has_form}
use Rattle.rvd_ask.specs.Rules.{rule}
use Rattle.rvd_event.specs.declared.verdicts.Verdict.{Verdict}
use Rattle.rvd_event.specs.declared.verdicts.Verdict.TheVariants.{Joined, Nothing, Off, Stale, Foreign}
use Rattle.rvd_machine.specs.Enabled.{Enabled, is_on}

-- an ask's answers on the two programs, which differ
abbrev pub MayBeStale : Program → Program → Ask → Answer → Answer → Type 0
MayBeStale P W ask was now = IsSame was (ans P ask) × IsSame now (ans W ask) × (¬ IsSame was now)

-- an answer of the ask's form that is neither program's, beside the job's
abbrev pub MayBeForeign : Program → Program → Ask → Answer → Answer → Type 0
MayBeForeign P W ask said was =
    (has_form ask said ≡ true) × IsSame was (ans P ask) × (¬ IsSame said (ans P ask)) × (¬ IsSame said (ans W ask))

abbrev pub MayBe : Enabled → Program → Program → Item → Verdict → Type 0
MayBe E P W i (Joined k) = (is_on E i.analyzer ≡ true) × (0 < k) × (k ≡ length (rule W i))
MayBe E P W i Nothing = (is_on E i.analyzer ≡ true) × (rule W i ≡ [])
MayBe E P W i Off = is_on E i.analyzer ≡ false
MayBe E P W i (Stale ask was now) = (is_on E i.analyzer ≡ true) × MayBeStale P W ask was now
MayBe E P W i (Foreign ask said was) = (is_on E i.analyzer ≡ true) × MayBeForeign P W ask said was
