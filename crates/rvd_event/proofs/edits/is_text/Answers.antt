use Rattle.std.proofs.Common.{arith}
use Rattle.rvd_event.proofs.Texts.{text_test}
use Rattle.rvd_event.proofs.edits.is_text.Goals as goal

pub returns : goal.returns
returns c = text_test c.args.bytes.now (λ k. omega (arith, c.type_inv.bytes k))
