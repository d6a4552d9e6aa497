-- Lists of items that are told by their members: `unique` says that two lists in order with the same members are one, and
-- `listing` that the list of the items that pass a test has just these.
use Rattle.std.proofs.Common.{◌≡◌, ℕ, zero, suc, ◌+◌, ◌<◌, Bool, true, false, cond, ◌&&◌, ◌||◌, List, [], ◌∷◌, ◌++◌, map, refl, sym, ap, ◌∙◌, inl, inr, arith}
use Rattle.std.proofs.lemmas.Bool.Decides.{nat_tests}
use Rattle.std.specs.Prelude.{filter, flat_map, ◌==◌, nat_lt, nat_le}
use Rattle.std.specs.List.{list_all, list_any, range_with_len}
use Rattle.std.specs.declared.cmp.Ordering.{Ordering}
use Rattle.std.specs.declared.cmp.Ordering.TheVariants.{Less, Equal, Greater}
use Rattle.std.specs.Ordering.{is_lt, is_eq, nat_cmp, ordering_then, ordering_reverse}
use Rattle.std.proofs.lemmas.Bool.{false≢true, and_parts, and_from, or_cases, or_left, false_from_ne_true, lt-ltb}
use Rattle.std.proofs.lemmas.Cmp.{nat_cmp_total, tied_itself}
use Rattle.std.proofs.lemmas.List.Folds.{list_all-append, list_any-append}
use Rattle.std.proofs.Math.Bool.{and-false}
use Rattle.rvd_ask.specs.declared.asks.Analyzer.{Analyzer}
use Rattle.rvd_ask.specs.declared.asks.Analyzer.TheVariants.{Flow, Refs, Funcs, Body, Strings}
use Rattle.rvd_ask.specs.declared.asks.Item.{Item}
use Rattle.rvd_ask.specs.Order.{item_cmp, priority, same_item}
use Rattle.rvd_ask.specs.Wake.{item}
use Rattle.rvd_ask.specs.Unsettled.{analyzers, are_in_order, comes_before, has_item, items_below, same_analyzer, IsOnlyListing, ListsJust}
use Rattle.rvd_ask.proofs.ItemOrder.{cases_item, items_total, same_item-true, same_item_itself, has_item-filter}

-- ---- two lists in order with the same members are one
opposed : (o : Ordering) → is_lt o ≡ true → is_lt (ordering_reverse o) ≡ true → ⊥
opposed Less a b = false≢true b
opposed Equal a b = false≢true a
opposed Greater a b = false≢true a

not_both : (i j : Item) → comes_before i j ≡ true → comes_before j i ≡ true → ⊥
not_both i j a b = opposed (item_cmp i j) a (ap is_lt (sym (items_total.antisymm j i)) ∙ b)

not_itself : (i : Item) → comes_before i i ≡ true → ⊥
not_itself i h = not_both i i h h

before_member : (i j : Item) (items : List Item) → list_all (comes_before i) items ≡ true → has_item j items ≡ true → comes_before i j ≡ true
before_member i j [] all has = absurd (false≢true has)
before_member i j (k ∷ ks) all has = elim (or_cases (same_item j k) (has_item j ks) has) [
  | inl here ↦ ap (comes_before i) (same_item-true j k here) ∙ (and_parts (comes_before i k) (list_all (comes_before i) ks) all).0
  | inr later ↦ before_member i j ks (and_parts (comes_before i k) (list_all (comes_before i) ks) all).1 later
]

not_behind : (i : Item) (items : List Item) → list_all (comes_before i) items ≡ true → has_item i items ≡ false
not_behind i items all = false_from_ne_true (has_item i items) (λ has. not_itself i (before_member i i items all has))

-- a member other than the head is behind it
behind : (i j : Item) (items : List Item) → same_item i j ≡ false → has_item i (j ∷ items) ≡ has_item i items
behind i j items other = ap (λ b. b || has_item i items) other

first_is : (i : Item) (items : List Item) → has_item i (i ∷ items) ≡ true
first_is i items = or_left (same_item i i) (has_item i items) (same_item_itself i)

same_heads : (i j : Item) (is js : List Item) → list_all (comes_before i) is ≡ true → list_all (comes_before j) js ≡ true → has_item i (j ∷ js) ≡ true → has_item j (i ∷ is) ≡ true → i ≡ j
same_heads i j is js i_first j_first there here =
    elim (or_cases (same_item i j) (has_item i js) there) [
      | inl same ↦ same_item-true i j same
      | inr i_later ↦ elim (or_cases (same_item j i) (has_item j is) here) [
        | inl same ↦ sym (same_item-true j i same)
        | inr j_later ↦ absurd (not_both i j (before_member i j is i_first j_later) (before_member j i js j_first i_later))
      ]
    ]

pub unique : (is js : List Item) → are_in_order is ≡ true → are_in_order js ≡ true → ((k : Item) → has_item k is ≡ has_item k js) → is ≡ js
unique [] [] a b same = refl
unique [] (j ∷ js) a b same = absurd (false≢true (same j ∙ first_is j js))
unique (i ∷ is) [] a b same = absurd (false≢true (sym (same i) ∙ first_is i is))
unique (i ∷ is) (j ∷ js) a b same =
    let of_i = and_parts (list_all (comes_before i) is) (are_in_order is) a in
    let of_j = and_parts (list_all (comes_before j) js) (are_in_order js) b in
    let head : i ≡ j = same_heads i j is js of_i.0 of_j.0 (sym (same i) ∙ first_is i is) (same j ∙ first_is j js) in
    let j_absent : has_item i js ≡ false = ap (λ k. has_item k js) head ∙ not_behind j js of_j.0 in
    let tails : (k : Item) → has_item k is ≡ has_item k js = λ k. elim (cases_item k i) [
      | inl k_is ↦ ap (λ m. has_item m is) k_is ∙ not_behind i is of_i.0 ∙ sym (ap (λ m. has_item m js) k_is ∙ j_absent)
      | inr other ↦ sym (behind k i is other) ∙ same k ∙ behind k j js (ap (same_item k) (sym head) ∙ other)
    ] in
    let tail : is ≡ js = unique is js of_i.1 of_j.1 tails in
    λ x. head x ∷ tail x

-- ---- a filter keeps the order, and those members that pass
all-filter : (p test : Item → Bool) (items : List Item) → list_all p items ≡ true → list_all p (filter test items) ≡ true
all-filter p test [] all = refl
all-filter p test (i ∷ items) all =
    let parts = and_parts (p i) (list_all p items) all in
    elim (test i) as (λ b. list_all p (cond b (i ∷ filter test items) (filter test items)) ≡ true) [
      | true ↦ and_from (p i) (list_all p (filter test items)) parts.0 (all-filter p test items parts.1)
      | false ↦ all-filter p test items parts.1
    ]

in_order-filter : (test : Item → Bool) (items : List Item) → are_in_order items ≡ true → are_in_order (filter test items) ≡ true
in_order-filter test [] h = refl
in_order-filter test (i ∷ items) h =
    let parts = and_parts (list_all (comes_before i) items) (are_in_order items) h in
    elim (test i) as (λ b. are_in_order (cond b (i ∷ filter test items) (filter test items)) ≡ true) [
      | true ↦ and_from (list_all (comes_before i) (filter test items)) (are_in_order (filter test items)) (all-filter (comes_before i) test items parts.0) (in_order-filter test items parts.1)
      | false ↦ in_order-filter test items parts.1
    ]

-- ---- the items of all analyzers below an address
lt_is : (x y : ℕ) → x < y → nat_cmp x y ≡ Less
lt_is x y less = ap (λ b. cond b Less (cond (x == y) Equal Greater)) (lt-ltb x y less)

eq_is : (x : ℕ) → nat_cmp x x ≡ Equal
eq_is x = tied_itself nat_cmp_total x

-- an analyzer's item before one of the same analyzer, and before one of an analyzer behind it
before_at : (a : Analyzer) (x y : ℕ) → x < y → comes_before (item a x) (item a y) ≡ true
before_at a x y less = ap (λ o. is_lt (ordering_then o (nat_cmp x y))) (eq_is (priority a)) ∙ ap is_lt (lt_is x y less)

before_of : (a b : Analyzer) (x y : ℕ) → priority a < priority b → comes_before (item a x) (item b y) ≡ true
before_of a b x y less = ap (λ o. is_lt (ordering_then o (nat_cmp x y))) (lt_is (priority a) (priority b) less)

all_above : (a : Analyzer) (x k n : ℕ) → x < k → list_all (comes_before (item a x)) (map (item a) (range_with_len k n)) ≡ true
all_above a x k zero less = refl
all_above a x k (suc n) less = and_from (comes_before (item a x) (item a k)) _ (before_at a x k less) (all_above a x (k + 1) n (omega (arith, less)))

in_order-block : (a : Analyzer) (k n : ℕ) → are_in_order (map (item a) (range_with_len k n)) ≡ true
in_order-block a k zero = refl
in_order-block a k (suc n) = and_from (list_all (comes_before (item a k)) (map (item a) (range_with_len (k + 1) n))) _ (all_above a k (k + 1) n (omega arith)) (in_order-block a (k + 1) n)

all_of_later : (a b : Analyzer) (x k n : ℕ) → priority a < priority b → list_all (comes_before (item a x)) (map (item b) (range_with_len k n)) ≡ true
all_of_later a b x k zero less = refl
all_of_later a b x k (suc n) less = and_from (comes_before (item a x) (item b k)) _ (before_of a b x k less) (all_of_later a b x (k + 1) n less)

-- each analyzer of a list has a priority above a number, and each one above all before it
abbrev AreAbove : ℕ → List Analyzer → Type 0
AreAbove p [] = Unit {0}
AreAbove p (a ∷ others) = (p < priority a) × AreAbove p others

abbrev AreRising : List Analyzer → Type 0
AreRising [] = Unit {0}
AreRising (a ∷ others) = AreAbove (priority a) others × AreRising others

abbrev blocks : ℕ → List Analyzer → List Item
blocks n others = flat_map (λ a. map (item a) (range_with_len 0 n)) others

all_of_blocks : (a : Analyzer) (x n : ℕ) (others : List Analyzer) → AreAbove (priority a) others → list_all (comes_before (item a x)) (blocks n others) ≡ true
all_of_blocks a x n [] above = refl
all_of_blocks a x n (b ∷ bs) above = list_all-append (comes_before (item a x)) (map (item b) (range_with_len 0 n)) (blocks n bs) ∙ and_from (list_all (comes_before (item a x)) (map (item b) (range_with_len 0 n))) _ (all_of_later a b x 0 n above.0) (all_of_blocks a x n bs above.1)

in_order-joined : (a : Analyzer) (k m : ℕ) (rest : List Item) → ((x : ℕ) → list_all (comes_before (item a x)) rest ≡ true) → are_in_order rest ≡ true → are_in_order (map (item a) (range_with_len k m) ++ rest) ≡ true
in_order-joined a k zero rest before h = h
in_order-joined a k (suc m) rest before h = and_from (list_all (comes_before (item a k)) (map (item a) (range_with_len (k + 1) m) ++ rest)) _ (list_all-append (comes_before (item a k)) (map (item a) (range_with_len (k + 1) m)) rest ∙ and_from (list_all (comes_before (item a k)) (map (item a) (range_with_len (k + 1) m))) _ (all_above a k (k + 1) m (omega arith)) (before k)) (in_order-joined a (k + 1) m rest before h)

in_order-blocks : (n : ℕ) (others : List Analyzer) → AreRising others → are_in_order (blocks n others) ≡ true
in_order-blocks n [] rising = refl
in_order-blocks n (a ∷ others) rising = in_order-joined a 0 n (blocks n others) (λ x. all_of_blocks a x n others rising.0) (in_order-blocks n others rising.1)

pub then_is : (o p : Ordering) → is_eq (ordering_then o p) ≡ (is_eq o && is_eq p)
then_is Less p = refl
then_is Equal p = refl
then_is Greater p = refl

is_eq-nat_cmp : (x y : ℕ) → is_eq (nat_cmp x y) ≡ (x == y)
is_eq-nat_cmp x y = grind (arith, nat_tests)

same_is : (b a : Analyzer) (z k : ℕ) → same_item (item b z) (item a k) ≡ (same_analyzer b a && z == k)
same_is b a z k = then_is (nat_cmp (priority b) (priority a)) (nat_cmp z k) ∙ (λ i. is_eq-nat_cmp (priority b) (priority a) i && is_eq-nat_cmp z k i)

none_between : (z k : ℕ) → (nat_le k z && nat_lt z (k + 0)) ≡ false
none_between z k = grind (arith, nat_tests)

one_more : (z k n : ℕ) → (z == k || (nat_le (k + 1) z && nat_lt z (k + 1 + n))) ≡ (nat_le k z && nat_lt z (k + suc n))
one_more z k n = grind (arith, nat_tests)

factored : (s p q : Bool) → ((s && p) || (s && q)) ≡ (s && (p || q))
factored true p q = refl
factored false p q = refl

has_item-block : (b a : Analyzer) (z k n : ℕ) → has_item (item b z) (map (item a) (range_with_len k n)) ≡ (same_analyzer b a && (nat_le k z && nat_lt z (k + n)))
has_item-block b a z k zero = sym (ap (λ t. same_analyzer b a && t) (none_between z k) ∙ and-false (same_analyzer b a))
has_item-block b a z k (suc n) =
    (λ i. same_is b a z k i || has_item-block b a z (k + 1) n i)
    ∙ factored (same_analyzer b a) (z == k) (nat_le (k + 1) z && nat_lt z (k + 1 + n))
    ∙ ap (λ t. same_analyzer b a && t) (one_more z k n)

below : (z n : ℕ) → (nat_le 0 z && nat_lt z (0 + n)) ≡ nat_lt z n
below z n = grind (arith, nat_tests)

has_item-blocks : (b : Analyzer) (z n : ℕ) (others : List Analyzer) → has_item (item b z) (blocks n others) ≡ (list_any (same_analyzer b) others && nat_lt z n)
has_item-blocks b z n [] = refl
has_item-blocks b z n (a ∷ others) =
    list_any-append (same_item (item b z)) (map (item a) (range_with_len 0 n)) (blocks n others)
    ∙ (λ i. (has_item-block b a z 0 n ∙ ap (λ t. same_analyzer b a && t) (below z n)) i || has_item-blocks b z n others i)
    ∙ spread (same_analyzer b a) (list_any (same_analyzer b) others) (nat_lt z n)
  where
    spread : (s r t : Bool) → ((s && t) || (r && t)) ≡ ((s || r) && t)
    spread true true true = refl
    spread true true false = refl
    spread true false true = refl
    spread true false false = refl
    spread false r t = refl

each_is_one : (b : Analyzer) → list_any (same_analyzer b) analyzers ≡ true
each_is_one Flow = refl
each_is_one Refs = refl
each_is_one Funcs = refl
each_is_one Body = refl
each_is_one Strings = refl

rising : AreRising analyzers
rising = search arith

lists : (n : ℕ) (test : Item → Bool) → ListsJust n test (items_below n test)
unfolding items_below
lists n test = record {
  in_order = in_order-filter test (blocks n analyzers) (in_order-blocks n analyzers rising);
  members = λ i. has_item-filter i test (blocks n analyzers) ∙ ap (λ b. b && test i) (has_item-blocks i.analyzer i.at n analyzers ∙ ap (λ b. b && nat_lt i.at n) (each_is_one i.analyzer));
}

pub listing : (n : ℕ) (test : Item → Bool) → IsOnlyListing n test
listing n test = record {
  lists = lists n test;
  only = λ items own. unique items (items_below n test) own.in_order (lists n test).in_order (λ i. own.members i ∙ sym ((lists n test).members i));
}
