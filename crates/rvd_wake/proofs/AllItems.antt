-- The list of the items that a change wakes, from where it wakes each analyzer.
use Rattle.std.proofs.Common.{◌≡◌, ℕ, ◌<◌, ◌^◌, Bool, false, ◌&&◌, ◌||◌, List, [], ◌++◌, map, refl, ◌∙◌}
use Rattle.std.specs.Prelude.{nat_lt}
use Rattle.std.specs.List.{All}
use Rattle.std.proofs.Math.Bool.{or-false}
use Rattle.std.proofs.lemmas.List.Folds.{list_any-append}
use Rattle.rvd_fact.specs.declared.cells.Change.{Change}
use Rattle.rvd_fact.specs.Program.{Program}
use Rattle.rvd_ask.specs.declared.asks.Analyzer.{Analyzer}
use Rattle.rvd_ask.specs.declared.asks.Analyzer.TheVariants.{Flow, Refs, Funcs, Body, Strings}
use Rattle.rvd_ask.specs.declared.asks.Item.{Item}
use Rattle.rvd_ask.specs.Order.{same_item}
use Rattle.rvd_ask.specs.Unsettled.{has_item, woken, ListingLaw, ListsJust}
use Rattle.rvd_ask.specs.Wake.{item, wakes, wakes_of}
use Rattle.rvd_wake.specs.Walks.{Orders, has_place, is_at}
use Rattle.rvd_wake.proofs.Members.{has_item-at, within}

-- where the items of an analyzer are: at some places, which are addresses, just where a test says
pub record Placed (n : ℕ) (test : Analyzer → ℕ → Bool) (a : Analyzer) (places : List ℕ) : Type 0 where
  pub just : (x : ℕ) → x < n → has_place x places ≡ test a x
  pub addresses : All (λ p. p < n) places

-- the places of each analyzer
pub record AllPlaced (n : ℕ) (test : Analyzer → ℕ → Bool) (flow refs funcs bodies strings : List ℕ) : Type 0 where
  pub of_flow : Placed n test Flow flow
  pub of_refs : Placed n test Refs refs
  pub of_funcs : Placed n test Funcs funcs
  pub of_bodies : Placed n test Body bodies
  pub of_strings : Placed n test Strings strings

abbrev pub joined : (flow refs funcs bodies strings : List ℕ) → List Item
joined flow refs funcs bodies strings = ((((([] ++ map (item Flow) flow) ++ map (item Refs) refs) ++ map (item Funcs) funcs) ++ map (item Body) bodies) ++ map (item Strings) strings)

-- an analyzer's items among those of all
abbrev any_at : (flow refs funcs bodies strings : List ℕ) → Item → Bool
any_at flow refs funcs bodies strings i = ((((is_at Flow flow i || is_at Refs refs i) || is_at Funcs funcs i) || is_at Body bodies i) || is_at Strings strings i)

more : (i : Item) (items : List Item) (a : Analyzer) (places : List ℕ) (b : Bool) → has_item i items ≡ b → has_item i (items ++ map (item a) places) ≡ (b || is_at a places i)
more i items a places b e = list_any-append (same_item i) items (map (item a) places) ∙ (λ k. e k || has_item-at a places i k)

joined_has : (flow refs funcs bodies strings : List ℕ) (i : Item) → has_item i (joined flow refs funcs bodies strings) ≡ any_at flow refs funcs bodies strings i
joined_has flow refs funcs bodies strings i =
    more i _ Strings strings _ (more i _ Body bodies _ (more i _ Funcs funcs _ (more i _ Refs refs _ (more i [] Flow flow false refl))))

-- only the places of the item's own analyzer count
own_places : (flow refs funcs bodies strings : List ℕ) → Analyzer → List ℕ
own_places flow refs funcs bodies strings Flow = flow
own_places flow refs funcs bodies strings Refs = refs
own_places flow refs funcs bodies strings Funcs = funcs
own_places flow refs funcs bodies strings Body = bodies
own_places flow refs funcs bodies strings Strings = strings

own : (flow refs funcs bodies strings : List ℕ) (a : Analyzer) (x : ℕ) → any_at flow refs funcs bodies strings (item a x) ≡ has_place x (own_places flow refs funcs bodies strings a)
unfolding own_places
own flow refs funcs bodies strings Flow x = or-false _ ∙ or-false _ ∙ or-false _ ∙ or-false _
own flow refs funcs bodies strings Refs x = or-false _ ∙ or-false _ ∙ or-false _
own flow refs funcs bodies strings Funcs x = or-false _ ∙ or-false _
own flow refs funcs bodies strings Body x = or-false _
own flow refs funcs bodies strings Strings x = refl

own_placed : (n : ℕ) (test : Analyzer → ℕ → Bool) (flow refs funcs bodies strings : List ℕ) → AllPlaced n test flow refs funcs bodies strings → (a : Analyzer) → Placed n test a (own_places flow refs funcs bodies strings a)
unfolding own_places
own_placed n test flow refs funcs bodies strings all Flow = all.of_flow
own_placed n test flow refs funcs bodies strings all Refs = all.of_refs
own_placed n test flow refs funcs bodies strings all Funcs = all.of_funcs
own_placed n test flow refs funcs bodies strings all Body = all.of_bodies
own_placed n test flow refs funcs bodies strings all Strings = all.of_strings

members : (n : ℕ) (test : Analyzer → ℕ → Bool) (flow refs funcs bodies strings : List ℕ) → AllPlaced n test flow refs funcs bodies strings → (i : Item) → has_item i (joined flow refs funcs bodies strings) ≡ (nat_lt i.at n && test i.analyzer i.at)
members n test flow refs funcs bodies strings all i =
    let placed : Placed n test i.analyzer (own_places flow refs funcs bodies strings i.analyzer) = own_placed n test flow refs funcs bodies strings all i.analyzer in
    joined_has flow refs funcs bodies strings i ∙ own flow refs funcs bodies strings i.analyzer i.at
    ∙ within n (test i.analyzer) (own_places flow refs funcs bodies strings i.analyzer) placed.just placed.addresses i.at

listing_of : (n : ℕ) (S : Program) (c : Change) (flow refs funcs bodies strings : List ℕ) (list : List Item) → AllPlaced n (λ a. wakes_of a S c) flow refs funcs bodies strings → Orders (joined flow refs funcs bodies strings) list → ListsJust n (wakes S c) list
unfolding wakes
listing_of n S c flow refs funcs bodies strings list all orders = record {
  in_order = orders.in_order;
  members = λ i. orders.members i ∙ members n (λ a. wakes_of a S c) flow refs funcs bodies strings all i;
}

pub woken_is : (S : Program) (c : Change) (flow refs funcs bodies strings : List ℕ) (list : List Item) → ListingLaw → AllPlaced (2 ^ 32) (λ a. wakes_of a S c) flow refs funcs bodies strings → Orders (joined flow refs funcs bodies strings) list → list ≡ woken S c
woken_is S c flow refs funcs bodies strings list law all orders = (law (2 ^ 32) (wakes S c)).only list (listing_of (2 ^ 32) S c flow refs funcs bodies strings list all orders)
