use Rattle.std.proofs.Common.{◌∙◌, ap, length, rules}
use Rattle.std.specs.Prelude.{◌==◌}
use Rattle.rvd_program.proofs.Ranges.{with_bytes}
use Rattle.rvd_program.proofs.suiting.has_len.Goals as goal

pub returns : goal.returns
returns c = ap (◌==◌ (length c.args.list.now)) c.from.ensures ∙ with_bytes (length c.args.list.now == c.args.len) c.args.list.now (search rules)
