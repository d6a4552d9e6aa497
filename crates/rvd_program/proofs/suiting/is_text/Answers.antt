use Rattle.std.proofs.Common.{length, rules}
use Rattle.std.specs.Prelude.{nat_le}
use Rattle.rvd_program.proofs.Ranges.{with_bytes}
use Rattle.rvd_program.proofs.suiting.is_text.Goals as goal

pub returns : goal.returns
returns c = with_bytes (nat_le (length c.args.list.now) 1000) c.args.list.now (search rules)
