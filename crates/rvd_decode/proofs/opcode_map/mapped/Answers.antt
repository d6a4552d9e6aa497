use Rattle.rvd_decode.proofs.Places.{placed}
use Rattle.rvd_decode.proofs.opcode_map.mapped.Goals as goal

pub returns : goal.returns
returns c = placed c.args.word
