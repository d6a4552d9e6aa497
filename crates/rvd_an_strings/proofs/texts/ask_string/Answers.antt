use Rattle.std.proofs.Common.{◌≡◌, ◌<◌, length, Some, take, sym, ◌∙◌, subst, arith}
use Rattle.std.proofs.lemmas.List.{length-take}
use Rattle.rvd_ask.specs.Strings.{tail, text_len}
use Rattle.rvd_an_strings.proofs.Rooms.{within}
use Rattle.rvd_an_strings.proofs.Strings.{no_room, text_shorter}
use Rattle.rvd_an_strings.proofs.TextBytes.{Shorter}
use Rattle.rvd_an_strings.proofs.texts.ask_string.Given as given
use Rattle.rvd_an_strings.proofs.texts.ask_string.Goals as goal

pub returns-then-room-from-clause-answer : goal.returns-then-room-from-clause-answer
returns-then-room-from-clause-answer g c =
    let P = g.V.View.program c.args.view.now in
    let small : length (tail P c.args.at) < 6 = omega (arith, c.if-room-from.true, c.from.ensures, c.in_ok-room.ensures.answer) in
    sym (no_room P c.args.at small)

-- a text ends within the bytes that are looked at
short_text : (g : given.Over) (c : goal.Then-len-ge-SHORTEST g) → c.in-Some.len < length (take 256 (tail (g.V.View.program c.args.view.now) c.args.at))
short_text g c =
    let P = g.V.View.program c.args.view.now in
    let is : text_len 255 (tail P c.args.at) ≡ Some c.in-Some.len = sym c.in_ok-len.ensures.answer ∙ c.in-Some.is in
    subst (Shorter (length (take 256 (tail P c.args.at)))) is (text_shorter P c.args.at)

pub overflow_add-result : goal.overflow_add-result
overflow_add-result g c =
    let short = short_text g c in
    let size = length-take 256 (tail (g.V.View.program c.args.view.now) c.args.at) in
    omega (arith, short, size)

pub returns-in-Some-clause-within : goal.returns-in-Some-clause-within
returns-in-Some-clause-within g c =
    let P = g.V.View.program c.args.view.now in
    let short = short_text g c in
    let size = length-take 256 (tail P c.args.at) in
    let top = (within P c.requires c.args.at (omega (arith, short, size))).top in
    omega (arith, short, size, top)
