use Rattle.std.proofs.Common.{List, ap, ◌∙◌}
use Rattle.std.specs.Prelude.{filter_map}
use Rattle.rvd_fact.specs.declared.keys.Key.{Key}
use Rattle.rvd_fact.specs.declared.cells.Cell.{Cell}
use Rattle.rvd_wake.specs.Picks.{from_near}
use Rattle.rvd_wake.proofs.FlowPlaces.{unit_places}
use Rattle.rvd_wake.proofs.flow.flow_by_unit.Goals as goal

pub returns : goal.returns
returns c = λ x below.
    let pick = λ (entries : List (Key × Cell)). filter_map (λ (e : Key × Cell). from_near c.args.at c.args.n e.0 e.1.value) entries in
    unit_places c.args.after.now c.args.at c.args.n x c.in_ok-places.places.items c.add_words.new.places.items c.push.new.self.items
    (c.in_ok-places.ensures ∙ ap pick c.entries.ensures.entries)
    (c.in_ok-add_words.ensures x below)
    c.in_ok-push.ensures.items
