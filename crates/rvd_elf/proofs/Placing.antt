-- What a map of cells keeps is a program: an insert is `put` in the order of keys. Use `insert_is_put` with the
-- clause `entries` of an insert.
use Rattle.std.proofs.Common.{◌≡◌, ℕ, ◌+◌, ◌<◌, List, [], ◌∷◌, ◌++◌, length, get_or, take, map, Some, refl, sym, ap, ◌∙◌}
use Rattle.std.proofs.lemmas.List.{take_more, map-append}
use Rattle.std.specs.declared.cmp.Ordering.{Ordering}
use Rattle.std.specs.declared.cmp.Ordering.TheVariants.{Less, Equal, Greater}
use Rattle.std.specs.BTreeMap.{insert_entry}
use Rattle.std.specs.Ordering.{match_ordering}
use Rattle.std.specs.FinMap.{put}
use Rattle.std.specs.FinMap.Entries.{by_order}
use Rattle.rvd_fact.specs.declared.keys.Key.{Key}
use Rattle.rvd_fact.specs.declared.cells.Cell.{Cell}
use Rattle.rvd_fact.specs.Order.{key_cmp}
use Rattle.rvd_fact.specs.Program.{Program, placed}
use Rattle.rvd_elf.specs.Facts.{with_facts}
use Rattle.rvd_fact.specs.contracts.keys.KeyOrd.TheImpl.{cmp-value}
use Rattle.rvd_fact.proofs.DerivedOrder.{derived_is}

same_put : (k : Key) (c : Cell) (es : List (Key × Cell)) → insert_entry key_cmp es k c ≡ put key_cmp k c es
same_put k c [] = refl
same_put k c (e ∷ es) =
    elim (key_cmp k e.0) as (λ r. match_ordering r ((k, c) ∷ e ∷ es) ((e.0, c) ∷ es) (e ∷ insert_entry key_cmp es k c) ≡ by_order r ((k, c) ∷ e ∷ es) ((e.0, c) ∷ es) (e ∷ put key_cmp k c es)) [
      | Less ↦ refl
      | Equal ↦ refl
      | Greater ↦ ap (λ (fs : List (Key × Cell)). e ∷ fs) (same_put k c es)
    ]

pub insert_is_put : (k : Key) (c : Cell) (es : List (Key × Cell)) → insert_entry cmp-value.it es k c ≡ put key_cmp k c es
insert_is_put k c es = ap (λ (cmp : Key → Key → Ordering). insert_entry cmp es k c) derived_is ∙ same_put k c es

-- facts one after the other
pub with_facts-append : (S : Program) (fs gs : List (Key × Cell)) → with_facts S (fs ++ gs) ≡ with_facts (with_facts S fs) gs
with_facts-append S [] gs = refl
with_facts-append S (f ∷ fs) gs = with_facts-append (placed S f.0 (Some f.1)) fs gs

-- one fact more of those that a list gives
pub with_facts-more : {X : Type 0} (fact : X → Key × Cell) (S es gs : Program) (xs : List X) (i : ℕ) (d : X) → i < length xs → es ≡ with_facts S (map fact (take i xs)) → gs ≡ with_facts es (fact (get_or xs i d) ∷ []) → gs ≡ with_facts S (map fact (take (i + 1) xs))
with_facts-more fact S es gs xs i d lt before here =
    here ∙ ap (λ (T : Program). with_facts T (fact (get_or xs i d) ∷ [])) before
    ∙ sym (with_facts-append S (map fact (take i xs)) (fact (get_or xs i d) ∷ []))
    ∙ ap (with_facts S) (sym (map-append fact (take i xs) (get_or xs i d ∷ [])) ∙ ap (map fact) (sym (take_more xs i d lt)))
