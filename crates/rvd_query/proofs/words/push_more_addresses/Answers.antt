use Rattle.std.proofs.Common.{◌++◌, codes, flat_map, subst, take, OnErr, Ok, Err}
use Rattle.rvd_text.specs.Hex.{hex8}
use Rattle.rvd_notation.specs.Pieces.{Keeps}
use Rattle.rvd_notation.proofs.Kept.{Keeps-front}
use Rattle.rvd_query.proofs.words.push_more_addresses.Goals as goal

pub returns-in_err-push_next_address-clause-err : goal.returns-in_err-push_next_address-clause-err
returns-in_err-push_next_address-clause-err c =
    let kept = subst (λ old. Keeps old c.push_next_address.new.out.items) c.loop-at.invariant c.in_err-push_next_address.ensures.err in
    let front = Keeps-front c.args.out.now.items (flat_map (λ a. codes " " ++ hex8 a) (take c.loop-at.at-index c.args.addresses.now)) c.push_next_address.new.out.items kept in
    elim c.from_residual.result as (λ r. OnErr r (Keeps c.args.out.now.items c.push_next_address.new.out.items)) [ Ok _ ↦ tt | Err _ ↦ front ]
