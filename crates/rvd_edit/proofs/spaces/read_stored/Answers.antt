use Rattle.std.proofs.Common.{◌∙◌, sym}
use Rattle.rvd_edit.proofs.BytesLength.{bytes-length}
use Rattle.rvd_edit.proofs.spaces.read_stored.Goals as goal

pub returns-in-Some-clause-len : goal.returns-in-Some-clause-len
returns-in-Some-clause-len c = bytes-length c.args.program.now c.args.at c.args.n c.in-Some.bytes (sym c.in_ok-bytes.ensures ∙ c.in-Some.is)
