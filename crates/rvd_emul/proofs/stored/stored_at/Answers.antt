use Rattle.std.proofs.Common.{Some, ap, ◌∙◌}
use Rattle.rvd_emul.proofs.StoredBytes.{find-newest}
use Rattle.rvd_emul.proofs.stored.stored_at.Goals as goal

pub returns-in-None : goal.returns-in-None
returns-in-None c = c.in-None.ensures ∙ find-newest c.args.stored.now c.args.at

pub returns-in-Some : goal.returns-in-Some
returns-in-Some c = ap Some c.byte.ensures ∙ c.in-Some.ensures ∙ find-newest c.args.stored.now c.args.at
