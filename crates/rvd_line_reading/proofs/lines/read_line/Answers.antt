use Rattle.std.proofs.Common.{Err, subst}
use Rattle.rvd_reading.specs.declared.errors.ReadError.{ReadError}
use Rattle.rvd_line_reading.specs.Lines.{ReadsLine, line_of}
use Rattle.rvd_line_reading.proofs.LinesBack.{out_of_range, spelled_otherwise, unread}
use Rattle.rvd_line_reading.proofs.lines.read_line.Goals as goal

pub returns-in-Err-Unread-clause-bad : goal.returns-in-Err-Unread-clause-bad
returns-in-Err-Unread-clause-bad c = λ _. unread c.args.names c.args.line.now (subst (λ (e : ReadError). ReadsLine (Err e) (line_of c.args.names c.args.line.now)) c.in-Err-Unread.field-0-is c.in-Err-Unread.ensures)

pub returns-then-not-is_in_range-clause-bad : goal.returns-then-not-is_in_range-clause-bad
returns-then-not-is_in_range-clause-bad c = λ _. out_of_range c.args.names c.args.line.now c.in-Ok.read c.in-Ok.ensures (c.is_in_range.ensures.no c.if-not-is_in_range.true)

pub returns-in-Ok-false-clause-bad : goal.returns-in-Ok-false-clause-bad
returns-in-Ok-false-clause-bad c =
    λ _. spelled_otherwise c.args.names c.args.line.now c.in-Ok.read c.in-Ok.ensures
    (λ same. let yes = c.in-Ok-false.ensures.1 same in let no = c.in-Ok-false.field-0-test in absurd (cc))
