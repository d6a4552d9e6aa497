use Rattle.std.proofs.Common.{◌++◌, codes, flat_map, subst, take, OnErr, Ok, Err}
use Rattle.rvd_query.specs.Reply.{xref_text}
use Rattle.rvd_notation.specs.Pieces.{Keeps}
use Rattle.rvd_notation.proofs.Kept.{Keeps-front}
use Rattle.rvd_query.proofs.words.push_more_xrefs.Goals as goal

pub returns-in_err-push_next_xref-clause-err : goal.returns-in_err-push_next_xref-clause-err
returns-in_err-push_next_xref-clause-err c =
    let kept = subst (λ old. Keeps old c.push_next_xref.new.out.items) c.loop-xref.invariant c.in_err-push_next_xref.ensures.err in
    let front = Keeps-front c.args.out.now.items (flat_map (λ x. codes " " ++ xref_text x) (take c.loop-xref.xref-index c.args.xrefs.now)) c.push_next_xref.new.out.items kept in
    elim c.from_residual.result as (λ r. OnErr r (Keeps c.args.out.now.items c.push_next_xref.new.out.items)) [ Ok _ ↦ tt | Err _ ↦ front ]
