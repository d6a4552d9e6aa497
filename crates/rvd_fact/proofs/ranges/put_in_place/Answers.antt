use Rattle.std.proofs.Common.{◌≡◌, ◌∷◌, ◌++◌, suc, take, drop, arith, subst}
use Rattle.std.proofs.Math.ListN.{set}
use Rattle.std.proofs.lemmas.List.{set_split}
use Rattle.rvd_fact.proofs.ranges.put_in_place.Goals as goal

pub returns-then-to-from-eq1-clause-ok : goal.returns-then-to-from-eq1-clause-ok
returns-then-to-from-eq1-clause-ok c =
    let next : suc c.args.from ≡ c.args.to = omega arith in
    subst (λ n. set c.args.ranges.now.items c.args.from c.args.range ≡ take c.args.from c.args.ranges.now.items ++ c.args.range ∷ drop n c.args.ranges.now.items)
    next (set_split c.args.ranges.now.items c.args.from c.args.range (omega (arith, c.requires.bound)))
