use Rattle.std.proofs.Common.{length, sym, ◌∙◌, arith}
use Rattle.std.proofs.lemmas.Bool.{le-leb}
use Rattle.rvd_event.proofs.Texts.{text_test}
use Rattle.rvd_admission.proofs.callers.tell_text.Goals as goal

pub returns : goal.returns
returns c = sym (text_test c.args.bytes.now (λ k. omega (arith, c.type_inv.bytes k))) ∙ le-leb (length c.args.bytes.now) 1000 c.requires
