use Rattle.std.proofs.Common.{rules}
use Rattle.rvd_program.proofs.Ranges.{bytes_all}
use Rattle.rvd_engine.proofs.parts.bytes_in_range.Goals as goal

pub returns : goal.returns
returns c = bytes_all c.args.list.now (search rules)
