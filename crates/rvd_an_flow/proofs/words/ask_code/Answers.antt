use Rattle.std.proofs.Common.{sym, subst, length, ◌≡◌, IfSome}
use Rattle.rvd_an_flow.proofs.Steps.{four_bytes}
use Rattle.rvd_an_flow.proofs.words.ask_code.Goals as goal

pub word_in-requires : goal.word_in-requires
word_in-requires g c = subst (λ o. IfSome o (λ list. length list ≡ 4)) (sym c.in_ok-bytes.ensures.answer) (four_bytes (g.V.View.program c.args.view.now) c.args.at)
