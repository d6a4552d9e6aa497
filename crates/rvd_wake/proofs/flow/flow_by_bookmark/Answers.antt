use Rattle.std.proofs.Common.{◌≡◌, List, ap, ◌∙◌, ◌||◌, false, arith, rules}
use Rattle.std.specs.Prelude.{◌==◌, filter_map, is_some}
use Rattle.rvd_fact.specs.declared.keys.Key.{Key}
use Rattle.rvd_fact.specs.declared.cells.Cell.{Cell}
use Rattle.rvd_ask.specs.Places.{word_before}
use Rattle.rvd_ask.specs.Wake.{comes_to}
use Rattle.rvd_wake.specs.Walks.{has_place}
use Rattle.rvd_wake.specs.Picks.{from_of}
use Rattle.rvd_wake.proofs.FlowPlaces.{error_goes, word_places}
use Rattle.rvd_wake.proofs.flow.flow_by_bookmark.Goals as goal

pub returns : goal.returns
returns c = λ x below.
    let change = c.args.change.now in
    let S = c.args.after.now in
    let t = change.key.at in
    let froms = c.in_ok-places.places.items in
    let pick = λ (entries : List (Key × Cell)). filter_map (λ (e : Key × Cell). from_of t e.0 e.1.value) entries in
    let same : c.from.result ≡ t = omega arith in
    let gone : is_some change.after ≡ false = search rules in
    word_places S t x froms c.add_word.new.places.items (c.in_ok-places.ensures ∙ ap pick c.entries.ensures.entries)
    (c.in_ok-add_word.ensures x below ∙ ap (λ w. has_place x froms || (x == w || x == word_before w)) same)
    ∙ error_goes change.key.sub change.after (comes_to S x t) (omega arith) gone
