use Rattle.std.proofs.Common.{subst, take, OnErr, Ok, Err}
use Rattle.rvd_notation.specs.Words.{more_ranges}
use Rattle.rvd_notation.specs.Pieces.{Keeps}
use Rattle.rvd_notation.proofs.Kept.{Keeps-front}
use Rattle.rvd_notation.proofs.keys.push_more_ranges.Goals as goal

pub returns-in_err-push_next_range-clause-err : goal.returns-in_err-push_next_range-clause-err
returns-in_err-push_next_range-clause-err c =
    let kept = subst (λ old. Keeps old c.push_next_range.new.out.items) c.loop-range.invariant c.in_err-push_next_range.ensures.err in
    let front = Keeps-front c.args.out.now.items (more_ranges (take c.loop-range.range-index c.args.ranges.now)) c.push_next_range.new.out.items kept in
    elim c.from_residual.result as (λ r. OnErr r (Keeps c.args.out.now.items c.push_next_range.new.out.items)) [ Ok _ ↦ tt | Err _ ↦ front ]
