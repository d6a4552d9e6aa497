use Rattle.std.proofs.Common.{take, get_or, sym, subst, ◌++◌, ◌∷◌, [], List}
use Rattle.std.proofs.lemmas.List.{take_more}
use Rattle.rvd_ask.specs.declared.asks.Item.{Item}
use Rattle.rvd_ask.specs.declared.asks.Analyzer.TheVariants.{Flow}
use Rattle.rvd_ask.specs.Promise.{Proposed}
use Rattle.rvd_wake.specs.Made.{AreMadeOn}
use Rattle.rvd_wake.proofs.Made.{made-push}
use Rattle.rvd_wake.proofs.proposing.proposals_on.Goals as goal

pub loop-item-preserved : goal.loop-item-preserved
loop-item-preserved c =
    let P = c.args.program.now in
    let items = c.args.items.now in
    let k = c.loop-item.item-index in
    let i : Item = get_or items k (record { analyzer = Flow; at = 0 }) in
    let p = c.in_ok-propose.field-0 in
    let one = c.in_ok-propose.ensures in
    let made = made-push P (take k items) c.loop-item.proposals.items i p c.loop-item.invariant (record { item = one.item; hold = one.hold; asked = one.asked }) in
    subst (λ (done : List Item). AreMadeOn P done c.push.new.self.items) (sym (take_more items k (record { analyzer = Flow; at = 0 }) c.loop-item-test.true))
    (subst (λ (ps : List Proposed). AreMadeOn P (take k items ++ i ∷ []) ps) (sym c.in_ok-push.ensures.items) made)
