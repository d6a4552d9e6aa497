use Rattle.std.proofs.Common.{Option, refl, subst}
use Rattle.std.specs.Prelude.{MatchOption}
use Rattle.rvd_engine.specs.Admitted.{AreIllegal, IsChecked}
use Rattle.rvd_engine.specs.declared.offers.Outcome.{Outcome}
use Rattle.rvd_engine.proofs.machine.Machine.admit_verdicts.Goals as goal

pub returns-in-None-clause-ok : goal.returns-in-None-clause-ok
returns-in-None-clause-ok c =
    let s = c.args.self.now in (
      refl,
      λ is. (subst (λ (o : Option Outcome). MatchOption o (AreIllegal s c.args.ticket c.args.verdicts.now) (IsChecked s c.args.ticket c.args.verdicts.now)) c.in-None.is c.in_ok-found.ensures.checked) c.args.actor is.reply,
    )
