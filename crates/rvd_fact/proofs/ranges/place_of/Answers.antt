use Rattle.std.proofs.Common.{◌≡◌, ◌+◌, ◌-◌, ◌<◌, length, arith, subst}
use Rattle.std.specs.List.{AllWithin}
use Rattle.rvd_fact.proofs.RangeLists.{below_upto}
use Rattle.rvd_fact.proofs.ranges.place_of.Goals as goal

pub place_from-requires-clause-known : goal.place_from-requires-clause-known
place_from-requires-clause-known c =
    let count : (length c.args.ranges.now - 2) + 1 ≡ length c.args.ranges.now - 1 = omega arith in
    subst (λ n. AllWithin (λ r. r.1 < c.args.at) c.args.ranges.now 0 n) count
    (below_upto c.args.at (length c.args.ranges.now - 2) c.args.ranges.now c.requires (omega arith) c.if-ranges-count.true)
