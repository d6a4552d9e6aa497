use Rattle.std.proofs.Common.{◌≡◌, ℕ, sym, ◌∙◌, arith}
use Rattle.std.specs.Prelude.{nat_le}
use Rattle.std.specs.BTreeMap.Range.{range_contains}
use Rattle.std.specs.Ordering.{nat_cmp}
use Rattle.std.specs.declared.ops.Bound.TheVariants.{Included, Unbounded}
use Rattle.std.proofs.lemmas.Bool.Decides.{nat_tests}
use Rattle.rvd_wake.proofs.Between.{between_none, between_some}
use Rattle.rvd_wake.proofs.bodies.has_between.Goals as goal

from_first : (first k : ℕ) → range_contains nat_cmp (Included first) Unbounded k ≡ nat_le first k
from_first first k = grind (arith, nat_tests)

pub returns-in-Some : goal.returns-in-Some
returns-in-Some c = between_some c.args.first c.args.last (range_contains nat_cmp (Included c.args.first) Unbounded) (from_first c.args.first) c.args.addresses.now.keys c.range.ensures.ordered c.in-Some.next.now c.next.new.self (sym (c.range.ensures.between tt) ∙ c.in-Some.ensures.steps)

pub returns-in-None : goal.returns-in-None
returns-in-None c = between_none c.args.first c.args.last (range_contains nat_cmp (Included c.args.first) Unbounded) (from_first c.args.first) c.args.addresses.now.keys (sym (c.range.ensures.between tt) ∙ c.in-None.ensures.steps.0)
