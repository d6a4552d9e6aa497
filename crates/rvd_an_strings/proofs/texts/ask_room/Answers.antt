use Rattle.std.proofs.Common.{◌≡◌, Some, sym, ap, ◌∙◌}
use Rattle.rvd_fact.specs.Memory.{block}
use Rattle.rvd_an_strings.specs.Parts.{block_room, cell_room}
use Rattle.rvd_an_strings.proofs.Rooms.{length-tail}
use Rattle.rvd_an_strings.proofs.texts.ask_room.Goals as goal

pub returns-clause-answer : goal.returns-clause-answer
returns-clause-answer g c =
    let P = g.V.View.program c.args.view.now in
    let found : block P c.args.at ≡ Some c.in-Some.start = sym c.in_ok-start.ensures.answer ∙ c.in-Some.is in
    c.cell_room.ensures ∙ ap (cell_room c.in-Some.start c.args.at) c.in_ok-cell.ensures.answer
    ∙ sym (length-tail P c.requires c.args.at ∙ ap (block_room P c.args.at) found)
