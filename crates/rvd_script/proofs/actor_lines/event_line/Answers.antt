use Rattle.rvd_script.proofs.ActorLemmas.{of_actor}
use Rattle.rvd_script.proofs.actor_lines.event_line.Goals as goal

pub returns-clause-legal : goal.returns-clause-legal
returns-clause-legal c = of_actor c.args.names.now c.in_ok-actor.actor c.actor_number-number.result c.in_ok-what.what c.in_ok-actor.ensures.legal c.in_ok-what.ensures.legal c.actor_number-number.ensures
