-- The verdict at the first read that differs. Use `IsVerdictAtFirst` for it where some read differs, with P the job's program
-- and W the working one.
use Rattle.std.specs.Prelude.{◌≡◌, Some, List, ◌⊎◌}
use Rattle.rvd_fact.specs.Program.{Program}
use Rattle.rvd_ask.specs.declared.answers.Answer.{Answer}
use Rattle.rvd_ask.specs.declared.asks.Ask.{Ask}
use Rattle.rvd_ask.specs.Answers.{ans, IsSame}
use Rattle.rvd_event.specs.declared.verdicts.Verdict.{Verdict}
use Rattle.rvd_event.specs.declared.verdicts.Verdict.TheVariants.{Stale, Foreign}
use Rattle.rvd_machine.specs.Exact.{IsFirstDiffering, IsVerdictAt}

-- the verdict at a read to which the working program answers by `now`
abbrev pub IsVerdictWith : Program → Ask → Answer → Answer → Verdict → Type 0
IsVerdictWith P ask said now v =
    (IsSame said (ans P ask) × (v ≡ Stale ask (ans P ask) now))
    ⊎ ((¬ IsSame said (ans P ask)) × (v ≡ Foreign ask said (ans P ask)))

abbrev pub IsVerdictAtFirst : Program → Program → List (Ask × Answer) → Verdict → Type 0
IsVerdictAtFirst P W reads v = (r : Ask × Answer) × IsFirstDiffering W reads (Some r) × IsVerdictAt P W r v
