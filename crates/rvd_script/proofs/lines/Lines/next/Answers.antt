use Rattle.std.proofs.Common.{◌<◌, length, sym, ◌∙◌, arith}
use Rattle.std.proofs.lemmas.List.{take_rest}
use Rattle.std.proofs.lemmas.Bool.Decides.{nat_tests}
use Rattle.rvd_script.proofs.LineLemmas.{first_line}
use Rattle.rvd_script.proofs.lines.Lines.next.Goals as goal

pub returns : goal.returns
returns c =
    let rest = c.self.inside.rest.now in
    let some : 0 < length c.self.inside.rest.now = grind (arith, nat_tests, c.if-is_empty.false, c.is_empty.ensures) in
    sym c.self.view_is ∙ rw (c.behind_end-self-inside.ensures, take_rest, c.line_len-len.ensures.value) (first_line rest some)
