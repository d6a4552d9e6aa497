-- Lists of changes: that what fits leads to valid programs, that parts of a list that fits do, and that what was applied
-- can be undone. Use `valid_all` and `can_revert` for a whole list, `fits-append` and `applied_all-append` where a list
-- is put together, and `applied_one` and `fits_one` for a list of one change.
use Rattle.std.proofs.Common.{◌≡◌, List, [], ◌∷◌, ◌++◌, refl, sym, subst}
use Rattle.rvd_fact.specs.declared.cells.Change.{Change}
use Rattle.rvd_fact.specs.Program.{Program, applied, applied_all, reverted, reverted_all, IsInOrder, cell_at}
use Rattle.rvd_fact.specs.Valid.{IsValid, Fits, Reverts}
use Rattle.rvd_fact.proofs.Programs.{reverted_all-applied_all, reverted-applied}

pub in_order : (S : Program) → IsValid S → IsInOrder S
in_order S valid = valid.in_order

pub valid_all : (S : Program) (cs : List Change) → IsValid S → Fits S cs → IsValid (applied_all S cs)
valid_all S [] valid fits = valid
valid_all S (c ∷ cs) valid fits = valid_all (applied S c) cs fits.1 fits.2

pub applied_all-append : (S : Program) (xs ys : List Change) → applied_all S (xs ++ ys) ≡ applied_all (applied_all S xs) ys
applied_all-append S [] ys = refl
applied_all-append S (c ∷ xs) ys = applied_all-append (applied S c) xs ys

pub fits-append : (S : Program) (xs ys : List Change) → Fits S xs → Fits (applied_all S xs) ys → Fits S (xs ++ ys)
fits-append S [] ys first second = second
fits-append S (c ∷ xs) ys first second = (first.0, first.1, fits-append (applied S c) xs ys first.2 second)

pub fits_front : (S : Program) (xs ys : List Change) → Fits S (xs ++ ys) → Fits S xs
fits_front S [] ys fits = tt
fits_front S (c ∷ xs) ys fits = (fits.0, fits.1, fits_front (applied S c) xs ys fits.2)

pub fits_behind : (S : Program) (xs ys : List Change) → Fits S (xs ++ ys) → Fits (applied_all S xs) ys
fits_behind S [] ys fits = fits
fits_behind S (c ∷ xs) ys fits = fits_behind (applied S c) xs ys fits.2

pub applied_one : (S : Program) (c : Change) → applied_all S (c ∷ []) ≡ applied S c
applied_one S c = refl

pub fits_one : (S : Program) (c : Change) → cell_at S c.key ≡ c.before → IsValid (applied S c) → Fits S (c ∷ [])
fits_one S c here valid = (here, valid, tt)

-- changes that were applied can be undone: each program on the way back is valid
pub can_revert : (S : Program) (cs : List Change) → IsValid S → Fits S cs → Reverts (applied_all S cs) cs
can_revert S [] valid fits = tt
can_revert S (c ∷ cs) valid fits = (
  can_revert (applied S c) cs fits.1 fits.2,
  subst (λ (T : Program). IsValid (reverted T c)) (sym (reverted_all-applied_all (applied S c) cs fits.1.in_order fits.2))
      (subst IsValid (sym (reverted-applied S c valid.in_order fits.0)) valid),
)

-- programs on the way back are valid, the last one too
pub valid_back : (S : Program) (cs : List Change) → IsValid S → Reverts S cs → IsValid (reverted_all S cs)
valid_back S [] valid back = valid
valid_back S (c ∷ cs) valid back = back.1
