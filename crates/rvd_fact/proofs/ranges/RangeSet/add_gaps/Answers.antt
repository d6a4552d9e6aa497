use Rattle.std.proofs.Common.{◌<◌, ◌≤◌, length, get_or, arith, rules}
use Rattle.rvd_fact.proofs.RangeGaps.{gaps_none, walk_read, walk_inside, walk_end}
use Rattle.rvd_fact.proofs.RangeLists.{begun, begun_not}
use Rattle.rvd_fact.proofs.ranges.RangeSet.add_gaps.Goals as goal

pub loop-self-init : goal.loop-self-init
loop-self-init c = record {
  order = c.requires.order;
  walk = record {
    start = omega arith;
    bound = search rules;
    below = search rules;
    above = search rules;
    out = gaps_none c.args.self.now c.args.out.now c.args.first c.requires.out;
  };
}

pub loop-self-preserved : goal.loop-self-preserved
loop-self-preserved c =
    let here : (c.loop-self.place < length c.args.self.now) × ((get_or c.args.self.now c.loop-self.place (0, 0)).0 ≤ c.args.last) = begun _ _ c.args.self.now _ (search rules) c.loop-self-test.ensures in
    record {
      order = omega arith;
      walk = walk_read c.args.self.now c.args.out.now c.loop-self.out c.add_up_to.new.self c.args.first c.loop-self.from c.loop-self.place c.index.result.now (search rules) here.0 (search rules) c.loop-self.invariant.walk c.in_ok-add_up_to.ensures;
    }

pub returns-then-last-end : goal.returns-then-last-end
returns-then-last-end c =
    let here : (c.loop-self.place < length c.args.self.now) × ((get_or c.args.self.now c.loop-self.place (0, 0)).0 ≤ c.args.last) = begun _ _ c.args.self.now _ (search rules) c.loop-self-test.ensures in
    walk_inside c.args.self.now c.args.out.now c.add_up_to.new.self c.args.first c.args.last c.loop-self.place _ c.index.result.now here.0 (search rules) here.1 c.if-last-end.true
    (walk_read c.args.self.now c.args.out.now c.loop-self.out c.add_up_to.new.self c.args.first c.loop-self.from c.loop-self.place c.index.result.now (search rules) here.0 (search rules) c.loop-self.invariant.walk c.in_ok-add_up_to.ensures)

pub returns : goal.returns
returns c =
    walk_end c.add.result c.args.self.now c.args.out.now c.loop-self.out c.add.new.self c.args.first c.loop-self.from c.args.last c.loop-self.place (search rules) c.loop-self.invariant.order
    (λ more. begun_not _ _ c.args.self.now _ (search rules) c.loop-self-test.ensures more) c.loop-self.invariant.walk c.add.ensures.ok
