use Rattle.std.proofs.Common.{◌<◌, rules}
use Rattle.rvd_line_reading.proofs.Types.{each, small_bytes}
use Rattle.rvd_line_reading.proofs.parts.bytes_in_range.Goals as goal

pub returns-clause-each : goal.returns-clause-each
returns-clause-each c = small_bytes c.args.list.now (search rules)

pub returns-clause-all : goal.returns-clause-all
returns-clause-all c = each (λ b. b < 256) c.args.list.now (small_bytes c.args.list.now (search rules))
