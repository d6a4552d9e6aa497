use Rattle.std.proofs.Common.{◌<◌, ◌≤◌, length, subst, arith}
use Rattle.std.proofs.lemmas.List.{take_all}
use Rattle.rvd_an_funcs.proofs.Lists.{has_at}
use Rattle.rvd_an_funcs.proofs.RangesOf.{words_all, HasWords}
use Rattle.rvd_an_funcs.proofs.ranges.ranges_of.Goals as goal

pub overflow_add-at : goal.overflow_add-at
overflow_add-at c =
    let within : c.loop-at.at-index < length c.args.members.now = omega arith in
    omega (arith, c.requires.ends _ (has_at c.args.members.now c.loop-at.at-index within))

pub returns : goal.returns
returns c =
    let all : length c.args.members.now ≤ c.loop-at.at-index = omega arith in
    words_all c.loop-at.set c.args.members.now c.requires.ranges (subst (HasWords c.loop-at.set) (take_all c.loop-at.at-index c.args.members.now all) c.loop-at.invariant)
