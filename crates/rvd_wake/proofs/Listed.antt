-- The list of an analyzer's items at the addresses that pass a test. Use `listed` for candidates.
use Rattle.std.proofs.Common.{◌≡◌, ℕ, ◌<◌, ◌^◌, Bool, true, false, ◌&&◌, List, [], ◌++◌, map, refl, sym, ap, ◌∙◌}
use Rattle.std.specs.Prelude.{nat_lt}
use Rattle.std.specs.List.{All}
use Rattle.std.proofs.Math.Bool.{and_assoc, and_comm}
use Rattle.std.proofs.lemmas.Bool.{eqb-true}
use Rattle.rvd_fact.specs.Program.{Program}
use Rattle.rvd_ask.specs.declared.asks.Analyzer.{Analyzer}
use Rattle.rvd_ask.specs.declared.asks.Item.{Item}
use Rattle.rvd_ask.specs.Order.{priority}
use Rattle.rvd_ask.specs.Unsettled.{candidates, same_analyzer, ListingLaw, ListsJust}
use Rattle.rvd_ask.specs.Wake.{candidate_of, is_candidate, item}
use Rattle.rvd_ask.proofs.ItemOrder.{same_analyzer as by_priority}
use Rattle.rvd_wake.specs.Walks.{AreJust, Orders, has_place}
use Rattle.rvd_wake.proofs.Members.{has_item-at, within}

swapped : (s b t : Bool) → (s && (b && t)) ≡ (b && (s && t))
swapped s b t = sym (and_assoc s b t) ∙ ap (λ x. x && t) (and_comm s b) ∙ and_assoc b s t

-- of two analyzers that are one a test says the same
at_same : (a b : Analyzer) (test : Analyzer → Bool) → (same_analyzer a b && test a) ≡ (same_analyzer a b && test b)
at_same a b test = elim (same_analyzer a b) as (λ s. same_analyzer a b ≡ s → (s && test a) ≡ (s && test b)) [
  | true ↦ λ e. ap test (by_priority a b (eqb-true (priority a) (priority b) e))
  | false ↦ λ e. refl
] refl

is_listing : (S : Program) (a : Analyzer) (n : ℕ) (places : List ℕ) (list : List Item) → ((x : ℕ) → x < n → has_place x places ≡ candidate_of a S x) → All (λ p. p < n) places → Orders ([] ++ map (item a) places) list → ListsJust n (λ i. same_analyzer a i.analyzer && is_candidate S i) list
unfolding is_candidate
is_listing S a n places list just all orders = record {
  in_order = orders.in_order;
  members = λ i. orders.members i ∙ has_item-at a places i ∙ ap (λ b. same_analyzer a i.analyzer && b) (within n (candidate_of a S) places just all i.at)
      ∙ swapped (same_analyzer a i.analyzer) (nat_lt i.at n) (candidate_of a S i.at)
      ∙ ap (λ b. nat_lt i.at n && b) (at_same a i.analyzer (λ x. candidate_of x S i.at));
}

-- an analyzer's candidates from their addresses
pub listed : (S : Program) (a : Analyzer) (places : List ℕ) (list : List Item) → ListingLaw → AreJust (candidate_of a S) places → All (λ p. p < 2 ^ 32) places → Orders ([] ++ map (item a) places) list → list ≡ candidates S a
listed S a places list law just all orders = (law (2 ^ 32) (λ i. same_analyzer a i.analyzer && is_candidate S i)).only list (is_listing S a (2 ^ 32) places list just all orders)
