-- The first place where proposals don't fit a job's items, as a walk finds it. Use `IsFrom` as the loop's invariant: `goes_on`
-- is its step, and `ended`, `differs`, `past` and `fitting` are its exits; `none_is` says when there is no such place.
use Rattle.std.proofs.Common.{◌≡◌, ℕ, suc, ◌+◌, ◌<◌, ◌≤◌, length, get_or, Bool, true, false, cond, inl, inr, List, [], ◌∷◌, drop, Option, Some, None, refl, sym, ap, ◌∙◌, subst, arith, zero-add}
use Rattle.std.specs.Prelude.{◌↔◌, IsNone}
use Rattle.std.specs.Option.{option_map}
use Rattle.std.proofs.lemmas.Bool.{cases_Bool}
use Rattle.std.proofs.lemmas.List.{drop_all, drop_more}
use Rattle.rvd_ask.specs.declared.asks.Item.{Item}
use Rattle.rvd_ask.specs.Order.{same_item}
use Rattle.rvd_ask.specs.Promise.{Proposed}
use Rattle.rvd_ask.proofs.ItemOrder.{same_item-true, same_item_itself}
use Rattle.rvd_machine.specs.Exact.{first_misfit}
use Rattle.rvd_judge.proofs.Outcomes.{items_in}

-- up to k the items fit: the first misfit is that of the rest
abbrev pub IsFrom : List Item → List Proposed → ℕ → Type 0
IsFrom items proposals k = first_misfit items proposals ≡ option_map (λ n. n + k) (first_misfit (drop k items) (drop k proposals))

from_start : (o : Option ℕ) → o ≡ option_map (λ n. n + 0) o
from_start None = refl
from_start (Some n) = ap (λ m. let h : Option ℕ = Some m in h) (omega arith)

pub is_from-start : (items : List Item) (proposals : List Proposed) → IsFrom items proposals 0
is_from-start items proposals = from_start (first_misfit items proposals)

-- what is found in the rest
at_rest : (items : List Item) (proposals : List Proposed) (k : ℕ) (is : List Item) (ps : List Proposed) → IsFrom items proposals k → drop k items ≡ is → drop k proposals ≡ ps → first_misfit items proposals ≡ option_map (λ n. n + k) (first_misfit is ps)
at_rest items proposals k is ps from left more =
    from
    ∙ ap (λ (js : List Item). option_map (λ n. n + k) (first_misfit js (drop k proposals))) left
    ∙ ap (λ (qs : List Proposed). option_map (λ n. n + k) (first_misfit is qs)) more

here : (k : ℕ) → (let h : Option ℕ = Some (0 + k) in h) ≡ Some k
here k = ap (λ m. let h : Option ℕ = Some m in h) (zero-add k)

-- the proposals stop there
pub ended : (items : List Item) (proposals : List Proposed) (k : ℕ) (i : Item) (is : List Item) → IsFrom items proposals k → drop k items ≡ i ∷ is → drop k proposals ≡ [] → Some k ≡ first_misfit items proposals
ended items proposals k i is from left more = sym (at_rest items proposals k (i ∷ is) [] from left more ∙ here k)

-- they go on behind the items
pub past : (items : List Item) (proposals : List Proposed) (k : ℕ) (p : Proposed) (ps : List Proposed) → IsFrom items proposals k → drop k items ≡ [] → drop k proposals ≡ p ∷ ps → Some k ≡ first_misfit items proposals
past items proposals k p ps from left more = sym (at_rest items proposals k [] (p ∷ ps) from left more ∙ here k)

-- both stop there
pub fitting : (items : List Item) (proposals : List Proposed) (k : ℕ) → IsFrom items proposals k → drop k items ≡ [] → drop k proposals ≡ [] → None ≡ first_misfit items proposals
fitting items proposals k from left more = sym (at_rest items proposals k [] [] from left more)

other_head : (i : Item) (is : List Item) (p : Proposed) (ps : List Proposed) → same_item i p.item ≡ false → first_misfit (i ∷ is) (p ∷ ps) ≡ Some 0
other_head i is p ps other = ap (λ b. cond b (option_map suc (first_misfit is ps)) (Some 0)) other

same_head : (i : Item) (is : List Item) (p : Proposed) (ps : List Proposed) → same_item i p.item ≡ true → first_misfit (i ∷ is) (p ∷ ps) ≡ option_map suc (first_misfit is ps)
same_head i is p ps same = ap (λ b. cond b (option_map suc (first_misfit is ps)) (Some 0)) same

-- the items differ there
pub differs : (items : List Item) (proposals : List Proposed) (k : ℕ) (i : Item) (is : List Item) (p : Proposed) (ps : List Proposed) → IsFrom items proposals k → drop k items ≡ i ∷ is → drop k proposals ≡ p ∷ ps → same_item i p.item ≡ false → Some k ≡ first_misfit items proposals
differs items proposals k i is p ps from left more other =
    sym (at_rest items proposals k (i ∷ is) (p ∷ ps) from left more ∙ ap (option_map (λ n. n + k)) (other_head i is p ps other) ∙ here k)

counted : (k : ℕ) (o : Option ℕ) → option_map (λ n. n + k) (option_map suc o) ≡ option_map (λ n. n + (k + 1)) o
counted k None = refl
counted k (Some n) = ap (λ m. let h : Option ℕ = Some m in h) (omega arith)

-- the items are the same there
pub goes_on : (items : List Item) (proposals : List Proposed) (k : ℕ) (i : Item) (p : Proposed) → IsFrom items proposals k → drop k items ≡ i ∷ drop (k + 1) items → drop k proposals ≡ p ∷ drop (k + 1) proposals → same_item i p.item ≡ true → IsFrom items proposals (k + 1)
goes_on items proposals k i p from left more same =
    at_rest items proposals k (i ∷ drop (k + 1) items) (p ∷ drop (k + 1) proposals) from left more
    ∙ ap (option_map (λ n. n + k)) (same_head i (drop (k + 1) items) p (drop (k + 1) proposals) same)
    ∙ counted k (first_misfit (drop (k + 1) items) (drop (k + 1) proposals))

-- there is no such place exactly where the items are the same
later : (o : Option ℕ) → option_map suc o ≡ None → o ≡ None
later None h = refl
later (Some n) h = absurd (cc)

fit_items : (items : List Item) (proposals : List Proposed) → first_misfit items proposals ≡ None → items_in proposals ≡ items
fit_items [] [] h = refl
fit_items [] (p ∷ ps) h = absurd (cc)
fit_items (i ∷ is) [] h = absurd (cc)
fit_items (i ∷ is) (p ∷ ps) h = elim (cases_Bool (same_item i p.item)) [
  | inl same ↦
      ap (λ (j : Item). j ∷ items_in ps) (sym (same_item-true i p.item same))
      ∙ ap (λ (js : List Item). i ∷ js) (fit_items is ps (later (first_misfit is ps) (sym (same_head i is p ps same) ∙ h)))
  | inr other ↦ absurd (let e : Some 0 ≡ None = sym (other_head i is p ps other) ∙ h in cc)
]

items_fit : (proposals : List Proposed) → first_misfit (items_in proposals) proposals ≡ None
items_fit [] = refl
items_fit (p ∷ ps) = same_head p.item (items_in ps) p ps (same_item_itself p.item) ∙ ap (option_map suc) (items_fit ps)

is_none : (o : Option ℕ) → IsNone o → o ≡ None
is_none None h = refl
is_none (Some n) h = absurd (cc)

pub none_is : (items : List Item) (proposals : List Proposed) (o : Option ℕ) → o ≡ first_misfit items proposals → IsNone o ↔ (items_in proposals ≡ items)
none_is items proposals o found = (
  λ none. fit_items items proposals (sym found ∙ is_none o none),
  λ same. subst IsNone (sym (found ∙ ap (λ (is : List Item). first_misfit is proposals) (sym same) ∙ items_fit proposals)) refl,
)

-- ---- the same for a place of the lists
rest_of : (items : List Item) (k : ℕ) → k < length items → (i : Item) × (drop k items ≡ i ∷ drop (k + 1) items)
rest_of [] k below = absurd (omega (arith, below))
rest_of (i ∷ is) k below = (get_or (i ∷ is) k i, drop_more (i ∷ is) k i below)

pub ended_at : (items : List Item) (proposals : List Proposed) (k : ℕ) → IsFrom items proposals k → k < length items → length proposals ≤ k → Some k ≡ first_misfit items proposals
ended_at items proposals k from below past =
    let rest = rest_of items k below in
    ended items proposals k rest.0 (drop (k + 1) items) from rest.1 (drop_all k proposals past)

pub goes_on_at : (items : List Item) (proposals : List Proposed) (k : ℕ) (d i : Item) (p : Proposed) (b : Bool) → IsFrom items proposals k → k < length items → k < length proposals → p ≡ get_or proposals k p → i ≡ p.item → b ≡ same_item (get_or items k d) i → b ≡ true → IsFrom items proposals (k + 1)
goes_on_at items proposals k d i p b from below below_them is own told same =
    goes_on items proposals k (get_or items k d) p from (drop_more items k d below) (drop_more proposals k p below_them ∙ ap (λ (q : Proposed). q ∷ drop (k + 1) proposals) (sym is)) (ap (same_item (get_or items k d)) (sym own) ∙ sym told ∙ same)

pub past_all : (items : List Item) (proposals : List Proposed) (k : ℕ) → IsFrom items proposals k → length items ≤ k → k ≤ length items → length items < length proposals → Some (length items) ≡ first_misfit items proposals
past_all items [] k from over under more = absurd (omega (arith, more))
past_all items (p ∷ ps) k from over under more =
    let at_end : k ≡ length items = omega (arith, over, under) in
    let below : k < length (p ∷ ps) = omega (arith, more, at_end) in
    ap (λ n. let h : Option ℕ = Some n in h) (sym at_end)
    ∙ past items (p ∷ ps) k (get_or (p ∷ ps) k p) (drop (k + 1) (p ∷ ps)) from (drop_all k items over) (drop_more (p ∷ ps) k p below)

pub fitting_all : (items : List Item) (proposals : List Proposed) (k : ℕ) → IsFrom items proposals k → length items ≤ k → length proposals ≤ length items → None ≡ first_misfit items proposals
fitting_all items proposals k from over none = fitting items proposals k from (drop_all k items over) (drop_all k proposals (omega (arith, over, none)))
