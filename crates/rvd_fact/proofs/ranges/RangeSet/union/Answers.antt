use Rattle.std.proofs.Common.{◌≡◌, ◌<◌, ℕ, List, length, refl, subst, arith, rules}
use Rattle.rvd_fact.proofs.RangeLists.{range_read}
use Rattle.rvd_fact.proofs.ranges.RangeSet.union.Goals as goal
use Rattle.rvd_fact.proofs.ranges.RangeSet.union.Goals.{then-i-len, else-i-len+then-j-len}

pub add-requires : goal.add-requires
add-requires c =
    let same : c.deref.result.now ≡ c.args.self.now = search rules in
    let more : c.loop-i.i < length c.args.self.now = subst (λ (xs : List (ℕ × ℕ)). c.loop-i.i < length xs) same (c.if-is_next.ensures.own refl) in
    range_read c.loop-i.i c.index.result.now c.args.self.now (search rules) more (search rules)

pub add-requires-else-is_next : goal.add-requires-else-is_next
add-requires-else-is_next c =
    let same : c.deref-in-loop-i.result.now ≡ c.args.other.now = search rules in
    let more : c.loop-i.j < length c.args.other.now = elim c.if-i-len.branch [
      | then-i-len w ↦ subst (λ (xs : List (ℕ × ℕ)). c.loop-i.j < length xs) same (c.if-is_next.ensures.other refl (omega (arith, w.if-i-len.true, c.len.ensures, c.deref.ensures.len)))
      | else-i-len+then-j-len w ↦ grind arith
    ] in
    range_read c.loop-i.j c.index-else-is_next.result.now c.args.other.now (search rules) more (search rules)
