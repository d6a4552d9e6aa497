use Rattle.std.proofs.Common.{List, ap, ◌∙◌}
use Rattle.std.specs.Prelude.{filter_map}
use Rattle.rvd_fact.specs.declared.keys.Key.{Key}
use Rattle.rvd_fact.specs.declared.cells.Cell.{Cell}
use Rattle.rvd_wake.specs.Picks.{from_of}
use Rattle.rvd_wake.proofs.BodyPlaces.{near_places}
use Rattle.rvd_wake.proofs.bodies.bodies_near.Goals as goal

pub returns : goal.returns
returns c = λ e below.
    let pick = λ (entries : List (Key × Cell)). filter_map (λ (x : Key × Cell). from_of c.args.at x.0 x.1.value) entries in
    near_places c.args.after.now c.args.at e c.in_ok-ways.ways.items c.push.new.self.items c.push-2.new.self.items c.in_ok-places.places.items c.push-3.new.self.items
    (c.in_ok-ways.ensures ∙ ap pick c.entries.ensures.entries)
    c.in_ok-push.ensures.items
    c.in_ok-push-2.ensures.items
    (c.in_ok-places.ensures e below)
    c.in_ok-push-3.ensures.items
