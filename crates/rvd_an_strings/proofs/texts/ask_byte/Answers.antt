use Rattle.std.proofs.Common.{◌≡◌, length, Some, sym, ap, ◌∙◌, arith}
use Rattle.rvd_fact.specs.Memory.{bytes}
use Rattle.rvd_an_strings.proofs.Rooms.{one_told}
use Rattle.rvd_an_strings.proofs.texts.ask_byte.Goals as goal

pub bounds-list-0 : goal.bounds-list-0
bounds-list-0 g c =
    let P = g.V.View.program c.args.view.now in
    let told : bytes P c.args.at 1 ≡ Some c.in-Some.bytes = sym c.in_ok-ask_bytes.ensures.answer ∙ c.in-Some.is in
    let one : length c.list.result.now ≡ 1 = ap length c.list.ensures ∙ one_told P c.args.at c.in-Some.bytes told in
    omega (arith, one)
