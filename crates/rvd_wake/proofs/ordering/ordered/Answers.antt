use Rattle.std.proofs.Common.{◌≡◌, rules}
use Rattle.std.proofs.lemmas.Result.{IfOk-weaker}
use Rattle.std.specs.BTreeSet.{IsFromIterResult}
use Rattle.rvd_ask.specs.contracts.asks.ItemOrd.TheImpl.{cmp-value}
use Rattle.rvd_wake.proofs.Members.{from_set}
use Rattle.rvd_wake.proofs.ordering.ordered.Goals as goal

pub returns : goal.returns
returns c =
    let set : IsFromIterResult cmp-value.it c.args.items.items c.in_ok-set.set = search rules in
    IfOk-weaker c.collect-2.result (λ list. list.items ≡ c.in_ok-set.set.keys) _ (λ list e. from_set c.args.items.items list.items c.in_ok-set.set set e) (search rules)
