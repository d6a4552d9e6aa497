use Rattle.std.proofs.Common.{◌<◌}
use Rattle.rvd_decode.proofs.Names.{get_or-texts}
use Rattle.rvd_decode.proofs.printing.register.Goals as goal

pub returns : goal.returns
returns c = let h : c.args.number < 32 = c.requires in rw get_or-texts
