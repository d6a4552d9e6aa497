-- The laws of a program's cells: what stands at a key after a change (`cell_at-placed`), that entries stay
-- in order, that programs with the same cells are one, and that changes are undone exactly.
use Rattle.std.proofs.Common.{◌≡◌, Bool, true, false, not, cond, List, [], ◌∷◌, Option, Some, None, refl, sym, ap, ◌∙◌}
use Rattle.std.specs.Ordering.{is_eq}
use Rattle.std.specs.Cmp.{alike_right, eq_by_cmp_equiv}
use Rattle.std.specs.FinMap.Entries.{is_sorted-put, is_sorted-where_key, find-put, find-where_key, same_entries}
use Rattle.rvd_fact.specs.declared.keys.Key.{Key}
use Rattle.rvd_fact.specs.declared.cells.Cell.{Cell}
use Rattle.rvd_fact.specs.declared.cells.Change.{Change}
use Rattle.rvd_fact.specs.Order.{key_cmp, same_key}
use Rattle.rvd_fact.specs.Program.{Program, cell_at, placed, applied, reverted, applied_all, reverted_all, IsInOrder}
use Rattle.rvd_fact.specs.Valid.{Fits}
use Rattle.rvd_fact.proofs.KeyOrder.{keys_total, keys_exact, same_key-true}

same_back : (a b : Key) → same_key a b ≡ same_key b a
same_back a b = (eq_by_cmp_equiv keys_total).symm a b

turned : {A : Type 0} (b : Bool) (x y : A) → cond (not b) x y ≡ cond b y x
turned true x y = refl
turned false x y = refl

-- what stands at a key after a change at one
pub cell_at-placed : (S : Program) (k : Key) (o : Option Cell) (q : Key) → cell_at (placed S k o) q ≡ cond (same_key q k) o (cell_at S q)
cell_at-placed S k (Some c) q = find-put key_cmp keys_total q k c S
cell_at-placed S k None q =
    find-where_key key_cmp (λ x. not (same_key k x)) q (λ x t. ap (λ r. not (is_eq r)) (sym (alike_right keys_total q x k t))) S
    ∙ turned (same_key k q) (cell_at S q) None
    ∙ ap (λ b. cond b None (cell_at S q)) (same_back k q)

pub in_order-placed : (S : Program) (k : Key) (o : Option Cell) → IsInOrder S → IsInOrder (placed S k o)
in_order-placed S k (Some c) h = is_sorted-put key_cmp keys_total k c S h
in_order-placed S k None h = is_sorted-where_key key_cmp (λ x. not (same_key k x)) S h

-- programs with the same cells are one
pub same_program : (S R : Program) → IsInOrder S → IsInOrder R → ((q : Key) → cell_at S q ≡ cell_at R q) → S ≡ R
same_program S R s r is = same_entries key_cmp keys_total keys_exact S R s r is

-- what was there is put back
put_back : (t : Bool) (x y : Option Cell) (b : Option Cell) → (t ≡ true → y ≡ b) → cond t b (cond t x y) ≡ y
put_back true x y b h = sym (h refl)
put_back false x y b h = refl

pub reverted-applied : (S : Program) (c : Change) → IsInOrder S → cell_at S c.key ≡ c.before → reverted (applied S c) c ≡ S
reverted-applied S c s h =
    same_program _ S (in_order-placed _ c.key c.before (in_order-placed S c.key c.after s)) s (λ q.
    cell_at-placed (applied S c) c.key c.before q
    ∙ ap (λ (o : Option Cell). cond (same_key q c.key) c.before o) (cell_at-placed S c.key c.after q)
    ∙ put_back (same_key q c.key) c.after (cell_at S q) c.before (λ t. ap (cell_at S) (same_key-true q c.key t) ∙ h))

-- changes that were applied are undone exactly
pub reverted_all-applied_all : (S : Program) (cs : List Change) → IsInOrder S → Fits S cs → reverted_all (applied_all S cs) cs ≡ S
reverted_all-applied_all S [] s h = refl
reverted_all-applied_all S (c ∷ cs) s h =
    ap (λ (R : Program). reverted R c) (reverted_all-applied_all (applied S c) cs (in_order-placed S c.key c.after s) h.2)
    ∙ reverted-applied S c s h.0
