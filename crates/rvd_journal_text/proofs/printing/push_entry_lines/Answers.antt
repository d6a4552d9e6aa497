use Rattle.std.proofs.Common.{◌+◌, ◌++◌, take, subst, ap, ◌∙◌, OnErr, Ok, Err}
use Rattle.std.specs.List.{enumerate_from}
use Rattle.rvd_notation.specs.Pieces.{Keeps}
use Rattle.rvd_notation.proofs.Kept.{Keeps-front}
use Rattle.rvd_journal_text.specs.Lines.{full_line, entry_lines}
use Rattle.rvd_journal_text.proofs.EntryLines.{lines_all, lines_more}
use Rattle.rvd_journal_text.proofs.printing.push_entry_lines.Goals as goal

pub returns-in_err-push_full_line-clause-err : goal.returns-in_err-push_full_line-clause-err
returns-in_err-push_full_line-clause-err c =
    let kept = subst (λ old. Keeps old c.push_full_line.new.out.items) c.loop-index.invariant c.in_err-push_full_line.ensures.err in
    let front = Keeps-front c.args.out.now.items (entry_lines c.args.names (take c.loop-index.index (enumerate_from 1 c.args.entries.now))) c.push_full_line.new.out.items kept in
    elim c.from_residual.result as (λ r. OnErr r (Keeps c.args.out.now.items c.push_full_line.new.out.items)) [ Ok _ ↦ tt | Err _ ↦ front ]

pub loop-index-preserved : goal.loop-index-preserved
loop-index-preserved c =
    c.in_ok-push_full_line.ensures.ok
    ∙ ap (λ text. text ++ full_line c.args.names (c.loop-index.index + 1, c.index-entries-index.result)) c.loop-index.invariant
    ∙ lines_more c.args.out.now.items c.args.names c.args.entries.now c.loop-index.index c.index-entries-index.result c.loop-index-test.true c.index-entries-index.is

pub returns-clause-ok : goal.returns-clause-ok
returns-clause-ok c = c.loop-index.invariant ∙ ap (λ lines. c.args.out.now.items ++ lines) (lines_all c.args.names c.args.entries.now c.loop-index.index c.loop-index-test.false)
