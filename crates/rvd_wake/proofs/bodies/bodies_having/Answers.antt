use Rattle.std.proofs.Common.{List, ap, ◌∙◌, rules}
use Rattle.std.proofs.lemmas.Result.{IfOk-weaker}
use Rattle.std.specs.Prelude.{filter_map}
use Rattle.std.specs.BTreeSet.{IsFromIterResult}
use Rattle.std.specs.Ordering.{nat_cmp}
use Rattle.rvd_fact.specs.declared.keys.Key.{Key}
use Rattle.rvd_fact.specs.declared.cells.Cell.{Cell}
use Rattle.rvd_wake.specs.Walks.{has_place}
use Rattle.rvd_wake.specs.Picks.{body_place}
use Rattle.rvd_wake.proofs.BodyPlaces.{bodies_are}
use Rattle.rvd_wake.proofs.bodies.bodies_having.Goals as goal

pub returns : goal.returns
returns c =
    let set = c.in_ok-addresses.addresses in
    let made : IsFromIterResult nat_cmp c.args.addresses.items set = search rules in
    let pick = λ (entries : List (Key × Cell)). filter_map (λ (e : Key × Cell). body_place set.keys e.0 e.1.value) entries in
    IfOk-weaker c.pick_bodies.result _ _
    (λ places picked e below. ap (has_place e) (picked ∙ ap pick c.entries.ensures.entries) ∙ bodies_are c.args.after.now set.keys c.args.addresses.items e c.entries.ensures.valid made.0)
    c.pick_bodies.ensures
