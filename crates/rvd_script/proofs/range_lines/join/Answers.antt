use Rattle.rvd_script.proofs.Joins.{joins}
use Rattle.rvd_script.proofs.range_lines.join.Goals as goal

pub returns-clause-value : goal.returns-clause-value
returns-clause-value c = joins c.add.result c.args.set.now c.add.new.self c.args.first c.args.last c.requires.ranges c.requires.order c.ranges.last.fits c.add.ensures.ok
