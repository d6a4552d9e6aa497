-- Stored bytes as a table and as a list, the newest first: `find-newest` says that a table answers as the list of its entries,
-- `same-set` what a table stands for once a byte is set, and `same-stored_from` that storing keeps lists alike.
use Rattle.std.proofs.Common.{◌≡◌, ℕ, suc, ◌+◌, ◌<◌, length, drop, add_assoc, add-one, Bool, true, false, cond, List, [], ◌∷◌, Some, refl, sym, ap, ◌∙◌}
use Rattle.std.specs.Prelude.{◌==◌, find as first_where, slice_index}
use Rattle.std.specs.Option.{option_map}
use Rattle.std.specs.Cmp.{unsigned_tied}
use Rattle.std.specs.Ordering.{nat_cmp}
use Rattle.std.specs.FinMap.{find, put}
use Rattle.std.specs.FinMap.Entries.{find-put}
use Rattle.std.proofs.lemmas.Cmp.{nat_cmp_total}
use Rattle.std.proofs.Math.Seq.{drop-cons}
use Rattle.rvd_emul.specs.Machine.{SameBytes, newest, stored_from}

-- the newest byte of a list that begins with another
newest-cons : (e : ℕ × ℕ) (stored : List (ℕ × ℕ)) (a : ℕ) → newest (e ∷ stored) a ≡ cond (a == e.0) (Some e.1) (newest stored a)
newest-cons e stored a = chosen (a == e.0)
  where
    chosen : (b : Bool) → option_map (λ (x : ℕ × ℕ). x.1) (cond b (Some e) (first_where (λ (x : ℕ × ℕ). a == x.0) stored)) ≡ cond b (Some e.1) (newest stored a)
    chosen true = refl
    chosen false = refl

pub find-newest : (stored : List (ℕ × ℕ)) (a : ℕ) → find nat_cmp a stored ≡ newest stored a
find-newest [] a = refl
find-newest (e ∷ stored) a =
    ap (λ b. cond b (Some e.1) (find nat_cmp a stored)) (unsigned_tied a e.0)
    ∙ ap (cond (a == e.0) (Some e.1)) (find-newest stored a)
    ∙ sym (newest-cons e stored a)

-- a table with a byte set stands for the list with that byte before it
pub same-set : (stored : List (ℕ × ℕ)) (a b : ℕ) → SameBytes ((a, b) ∷ stored) (put nat_cmp a b stored)
same-set stored a b q =
    newest-cons (a, b) stored q
    ∙ ap (cond (q == a) (Some b)) (sym (find-newest stored q))
    ∙ ap (λ t. cond t (Some b) (find nat_cmp q stored)) (sym (unsigned_tied q a))
    ∙ sym (find-put nat_cmp nat_cmp_total q a b stored)
    ∙ find-newest (put nat_cmp a b stored) q

pub same-cons : (e : ℕ × ℕ) (s t : List (ℕ × ℕ)) → SameBytes s t → SameBytes (e ∷ s) (e ∷ t)
same-cons e s t same q =
    newest-cons e s q ∙ ap (cond (q == e.0) (Some e.1)) (same q) ∙ sym (newest-cons e t q)

pub same-stored_from : (a : ℕ) (bytes : List ℕ) (s t : List (ℕ × ℕ)) → SameBytes s t → SameBytes (stored_from a bytes s) (stored_from a bytes t)
same-stored_from a [] s t same = same
same-stored_from a (b ∷ bytes) s t same = same-stored_from (a + 1) bytes ((a, b) ∷ s) ((a, b) ∷ t) (same-cons (a, b) s t same)

-- a byte that is set, of those that are left
pub same-next : (a i : ℕ) (bytes : List ℕ) (first all new : List (ℕ × ℕ)) (b : ℕ) → i < length bytes → slice_index bytes i ≡ b → SameBytes all (stored_from (a + i) (drop i bytes) first) → new ≡ put nat_cmp (a + i) b first → SameBytes all (stored_from (a + (i + 1)) (drop (i + 1) bytes) new)
same-next a i bytes first all new b less is same set q =
    same q
    ∙ ap (λ (bs : List ℕ). newest (stored_from (a + i) bs first) q) (drop-cons bytes i 0 less)
    ∙ ap (λ (x : ℕ). newest (stored_from (a + i + 1) (drop (suc i) bytes) ((a + i, x) ∷ first)) q) is
    ∙ same-stored_from (a + i + 1) (drop (suc i) bytes) ((a + i, b) ∷ first) (put nat_cmp (a + i) b first) (same-set first (a + i) b) q
    ∙ ap (λ (t : List (ℕ × ℕ)). newest (stored_from (a + i + 1) (drop (suc i) bytes) t) q) (sym set)
    ∙ (λ k. newest (stored_from (add_assoc a i 1 k) (drop (sym (add-one i) k) bytes) new) q)
