use Rattle.std.proofs.Common.{◌≡◌, List, [], ◌++◌, map, subst, rules, ◌∙◌}
use Rattle.std.proofs.lemmas.Result.{IfOk-weaker}
use Rattle.rvd_ask.specs.declared.asks.Item.{Item}
use Rattle.rvd_ask.specs.declared.asks.Analyzer.TheVariants.{Flow, Refs, Funcs, Body, Strings}
use Rattle.rvd_ask.specs.Wake.{item, wakes_of}
use Rattle.rvd_wake.specs.Walks.{Orders}
use Rattle.rvd_wake.proofs.AllItems.{joined, woken_is, AllPlaced}
use Rattle.rvd_wake.proofs.waking.woken_items.Goals as goal

pub returns : goal.returns
returns c =
    let S = c.args.after.now in
    let change = c.args.change.now in
    let flow = c.in_ok-flow.flow.items in
    let refs = c.in_ok-refs.refs.items in
    let funcs = c.in_ok-funcs.funcs.items in
    let bodies = c.in_ok-bodies.bodies.items in
    let strings = c.in_ok-strings.strings.items in
    let one : c.add_items.new.items.items ≡ [] ++ map (item Flow) flow = c.in_ok-add_items.ensures.items ∙ (λ i. c.new-items.ensures.items i ++ map (item Flow) (c.deref.ensures.value i)) in
    let two : c.add_items-2.new.items.items ≡ ([] ++ map (item Flow) flow) ++ map (item Refs) refs = c.in_ok-add_items-2.ensures.items ∙ (λ i. one i ++ map (item Refs) (c.deref-2.ensures.value i)) in
    let three : c.add_items-3.new.items.items ≡ (([] ++ map (item Flow) flow) ++ map (item Refs) refs) ++ map (item Funcs) funcs = c.in_ok-add_items-3.ensures.items ∙ (λ i. two i ++ map (item Funcs) (c.deref-3.ensures.value i)) in
    let four : c.add_items-4.new.items.items ≡ ((([] ++ map (item Flow) flow) ++ map (item Refs) refs) ++ map (item Funcs) funcs) ++ map (item Body) bodies = c.in_ok-add_items-4.ensures.items ∙ (λ i. three i ++ map (item Body) (c.deref-4.ensures.value i)) in
    let all : c.add_items-5.new.items.items ≡ joined flow refs funcs bodies strings = c.in_ok-add_items-5.ensures.items ∙ (λ i. four i ++ map (item Strings) (c.deref-5.ensures.value i)) in
    let placed : AllPlaced 4294967296 (λ a. wakes_of a S change) flow refs funcs bodies strings = record {
      of_flow = record { just = c.in_ok-flow.ensures; addresses = search rules };
      of_refs = record { just = c.in_ok-refs.ensures; addresses = search rules };
      of_funcs = record { just = c.in_ok-funcs.ensures; addresses = search rules };
      of_bodies = record { just = c.in_ok-bodies.ensures; addresses = search rules };
      of_strings = record { just = c.in_ok-strings.ensures; addresses = search rules };
    } in
    IfOk-weaker c.ordered.result _ _
    (λ list orders. woken_is S change flow refs funcs bodies strings list.items c.listing_law.ensures placed (subst (λ (items : List Item). Orders items list.items) all orders))
    c.ordered.ensures
