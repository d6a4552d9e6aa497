use Rattle.std.proofs.Common.{◌++◌, [], map, rules}
use Rattle.std.proofs.lemmas.Result.{IfOk-weaker}
use Rattle.rvd_ask.specs.Wake.{item}
use Rattle.rvd_wake.specs.Walks.{Orders}
use Rattle.rvd_wake.proofs.Listed.{listed}
use Rattle.rvd_wake.proofs.candidate.candidates.Goals as goal

pub returns : goal.returns
returns c =
    let a = c.args.analyzer in
    let places = c.in_ok-places.places.items in
    IfOk-weaker c.ordered.result (λ list. Orders ([] ++ map (item a) places) list.items) _
    (λ list orders. listed c.args.program.now a places list.items c.listing_law.ensures c.in_ok-places.ensures (search rules) orders)
    (search rules)
