use Rattle.std.proofs.Common.{ap, ◌∙◌}
use Rattle.rvd_ask.specs.Reach.{has}
use Rattle.rvd_an_funcs.proofs.MetSet.{has-insert_key}
use Rattle.rvd_an_funcs.proofs.walk.note.Goals as goal

pub returns-clause-met : goal.returns-clause-met
returns-clause-met c = λ z. ap (has z) c.in_ok-new.ensures.keys ∙ has-insert_key z c.args.at c.args.met.now.keys
