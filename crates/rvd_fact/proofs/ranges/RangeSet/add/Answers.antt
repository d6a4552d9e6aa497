use Rattle.std.proofs.Common.{◌||◌, ◌^◌, ◌<◌, ◌≤◌, ℕ, List, OnOk, length, get_or, subst, arith}
use Rattle.rvd_fact.specs.Ranges.{has_address, in_range, HasJust}
use Rattle.rvd_fact.proofs.RangeJoins.{IsPut, joined_read, put_keeps, put_adds}
use Rattle.rvd_fact.proofs.RangeLists.{begun, begun_not, below_same, above_at, range_at}
use Rattle.rvd_fact.proofs.ranges.RangeSet.add.Goals as goal

pub loop-self-preserved : goal.loop-self-preserved
loop-self-preserved c =
    let here : (c.loop-self.to < length c.self.inside.ranges.items) × ((get_or c.self.inside.ranges.items c.loop-self.to (0, 0)).0 ≤ c.saturating_add.result) = begun _ _ _ _ c.deref-in-loop-self.ensures.value c.loop-self-test.ensures in
    let ends : c.saturating_sub.result ≤ (get_or c.self.inside.ranges.items c.loop-self.to (0, 0)).1 = above_at _ c.place_of-from.result c.loop-self.to _ _ c.deref.ensures.value c.place_of-from.ensures.above c.loop-self.invariant.order here.0 in
    record {
      order = omega arith;
      bound = omega arith;
      low = omega arith;
      high = omega arith;
      met = joined_read c.loop-self.low c.loop-self.high c.loop-self.to _ _ c.index.result.now c.self.inside.ranges.items _ here.0 c.index.ensures (omega arith) (omega arith) c.loop-self.invariant.met c.min-low.ensures c.max-high.ensures;
    }

put : (c : goal.After-put_in_place) → IsPut c.args.first c.args.last c.place_of-from.result c.loop-self.to c.loop-self.low c.loop-self.high c.self.inside.ranges.items
put c = record {
  order = c.requires;
  small = omega arith;
  bound = omega (arith, c.loop-self.invariant.order, c.loop-self.invariant.bound);
  below = below_same _ _ _ _ _ c.deref.ensures.value c.saturating_sub.ensures c.place_of-from.ensures.below;
  wide = omega arith;
  met = c.loop-self.invariant.met;
  above = λ more. let above : c.saturating_add.result < (get_or c.self.inside.ranges.items c.loop-self.to (0, 0)).0 = begun_not _ _ _ _ c.deref-in-loop-self.ensures.value c.loop-self-test.ensures more in
      let own : (0 ≤ (get_or c.self.inside.ranges.items c.loop-self.to (0, 0)).0) × ((get_or c.self.inside.ranges.items c.loop-self.to (0, 0)).0 ≤ (get_or c.self.inside.ranges.items c.loop-self.to (0, 0)).1) × ((get_or c.self.inside.ranges.items c.loop-self.to (0, 0)).1 < 2 ^ 32) = range_at 0 c.loop-self.to (0, 0) c.self.inside.ranges.items c.self.invariant more in
      omega (arith, above, own.1, own.2, c.saturating_add.ensures);
}

pub invariant_of-self : goal.invariant_of-self
invariant_of-self c = put_keeps c.put_in_place.result c.args.first c.args.last c.place_of-from.result c.loop-self.to c.loop-self.low c.loop-self.high c.self.inside.ranges.items c.put_in_place.new.ranges.items c.self.invariant (put c) c.put_in_place.ensures.ok c.put_in_place.ensures.err

pub returns-clause-ok : goal.returns-clause-ok
returns-clause-ok c =
    subst (λ (xs : List (ℕ × ℕ)). OnOk c.put_in_place.result (HasJust c.put_in_place.new.ranges.items (λ a. has_address a xs || in_range a (c.args.first, c.args.last)))) c.self.view_is
    (put_adds c.put_in_place.result c.args.first c.args.last c.place_of-from.result c.loop-self.to c.loop-self.low c.loop-self.high c.self.inside.ranges.items c.put_in_place.new.ranges.items c.self.invariant (put c) c.put_in_place.ensures.ok)
