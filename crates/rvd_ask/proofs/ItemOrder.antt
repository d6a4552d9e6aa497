-- The order of items is total, tells all items apart, and is the derived one. Use `cases_item` to decide
-- whether two items are one, `items_exact` and `same_item-true` to get the equation, `items_total` where std
-- asks for a total order, and `derived_is` where code over `Ord` speaks of the derived order.
use Rattle.std.proofs.Common.{◌≡◌, ℕ, ◌-◌, ◌/◌, true, false, [], ◌∷◌, get_or, refl, sym, ap, ◌∙◌, inl, inr, ◌⊎◌, rules, Bool, List, filter, ◌&&◌}
use Rattle.std.proofs.lemmas.Cmp.{on_total, then_total, nat_cmp_total, tied_itself, eq_by_cmp_equiv}
use Rattle.std.proofs.lemmas.Map.Lookups.{exact_pairs, exact_unsigned}
use Rattle.std.specs.Cmp.{IsTotalOrder, Equal-is}
use Rattle.std.specs.declared.cmp.Ordering.{Ordering}
use Rattle.std.specs.declared.cmp.Ordering.TheVariants.{Less, Equal}
use Rattle.std.specs.Ordering.{nat_cmp, ordering_then, is_eq, is_lt}
use Rattle.std.proofs.lemmas.Bool.{and_from}
use Rattle.std.proofs.lemmas.Map.Made.{is_member-filter}
use Rattle.std.specs.List.{AllByRecursion, list_all}
use Rattle.rvd_ask.specs.declared.asks.Analyzer.{Analyzer}
use Rattle.rvd_ask.specs.declared.asks.Analyzer.TheVariants.{Flow, Refs, Funcs, Body, Strings}
use Rattle.rvd_ask.specs.declared.asks.Item.{Item}
use Rattle.rvd_ask.specs.Order.{priority, item_cmp, same_item}
use Rattle.rvd_ask.specs.contracts.asks.ItemOrd.TheImpl.{cmp-value}
use Rattle.rvd_ask.specs.contracts.asks.AnalyzerOrd.TheImpl as analyzer_impl
use Rattle.rvd_ask.specs.Unsettled.{comes_before, has_item}

-- the analyzer of a priority
abbrev analyzer_at : ℕ → Analyzer
analyzer_at n = get_or (Flow ∷ Refs ∷ Funcs ∷ Body ∷ Strings ∷ []) (n / 100 - 3) Flow

analyzer_at-priority : (a : Analyzer) → analyzer_at (priority a) ≡ a
analyzer_at-priority Flow = refl
analyzer_at-priority Refs = refl
analyzer_at-priority Funcs = refl
analyzer_at-priority Body = refl
analyzer_at-priority Strings = refl

pub same_analyzer : (a b : Analyzer) → priority a ≡ priority b → a ≡ b
same_analyzer a b e = sym (analyzer_at-priority a) ∙ ap analyzer_at e ∙ analyzer_at-priority b

pub items_total : IsTotalOrder item_cmp
items_total = then_total (on_total (λ i. priority i.analyzer) nat_cmp_total) (on_total (λ i. i.at) nat_cmp_total)

-- an item from the numbers that are compared
abbrev item_from : ℕ × ℕ → Item
item_from p = record { analyzer = analyzer_at p.0; at = p.1 }

abbrev parts : Item → ℕ × ℕ
parts i = (priority i.analyzer, i.at)

item_from-parts : (i : Item) → item_from (parts i) ≡ i
item_from-parts i = ap (λ (a : Analyzer). record { analyzer = a; at = i.at }) (analyzer_at-priority i.analyzer)

-- items that compare alike are one
pub items_exact : (a b : Item) → item_cmp a b ≡ Equal → a ≡ b
items_exact a b h =
    sym (item_from-parts a)
    ∙ ap item_from (exact_pairs nat_cmp nat_cmp exact_unsigned exact_unsigned (parts a) (parts b) h)
    ∙ item_from-parts b

pub same_item_itself : (i : Item) → same_item i i ≡ true
same_item_itself i = ap is_eq (tied_itself items_total i)

pub same_item-true : (a b : Item) → same_item a b ≡ true → a ≡ b
same_item-true a b h = items_exact a b ((Equal-is (item_cmp a b)).0 h)

-- two items are one or not, and the test says which
pub cases_item : (a b : Item) → (a ≡ b) ⊎ (same_item a b ≡ false)
cases_item a b = elim (same_item a b) as (λ t. same_item a b ≡ t → (a ≡ b) ⊎ (same_item a b ≡ false)) [
  | true ↦ λ h. inl (same_item-true a b h)
  | false ↦ λ h. inr h
] refl

-- the derived order is the order that the definitions name
analyzer_same : (a b : Analyzer) → analyzer_impl.cmp-value.it a b ≡ nat_cmp (priority a) (priority b)
analyzer_same a b = search rules

derived_same : (a b : Item) → cmp-value.it a b ≡ item_cmp a b
derived_same a b = ap (λ (o : Ordering). ordering_then o (nat_cmp a.at b.at)) (analyzer_same a.analyzer b.analyzer)

pub derived_is : cmp-value.it ≡ item_cmp
derived_is = λ i a b. derived_same a b i

-- ---- lists of items
pub has_item-filter : (i : Item) (test : Item → Bool) (items : List Item) → has_item i (filter test items) ≡ (has_item i items && test i)
has_item-filter i test items = is_member-filter (eq_by_cmp_equiv items_total) test i (λ j h. ap test (same_item-true i j h)) items

pub all_before : (i : Item) (items : List Item) → AllByRecursion (λ j. item_cmp i j ≡ Less) items → list_all (comes_before i) items ≡ true
all_before i [] h = refl
all_before i (j ∷ items) h = and_from (comes_before i j) (list_all (comes_before i) items) (ap is_lt h.0) (all_before i items h.1)
