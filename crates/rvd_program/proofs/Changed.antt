-- A table's look-ups and changes in the order that the definitions name, where the table speaks of the derived one.
-- `found_is`, `removed_is` and `set_is` turn the clauses of a table's calls into those of a program.
use Rattle.std.proofs.Common.{◌≡◌, sym, ap, ◌∙◌, Option, Some, None, not}
use Rattle.std.specs.FinMap.{find, put}
use Rattle.std.specs.FinMap.Entries.{where_key}
use Rattle.std.specs.declared.cmp.Ordering.{Ordering}
use Rattle.std.specs.Ordering.{eq_by_cmp}
use Rattle.rvd_fact.specs.declared.keys.Key.{Key}
use Rattle.rvd_fact.specs.declared.cells.Cell.{Cell}
use Rattle.rvd_fact.specs.contracts.keys.KeyOrd.TheImpl.{cmp-value}
use Rattle.rvd_fact.specs.Program.{Program, cell_at, placed}
use Rattle.rvd_fact.proofs.DerivedOrder.{derived_is}

pub found_is : (S : Program) (k : Key) (o : Option Cell) → o ≡ find cmp-value.it k S → o ≡ cell_at S k
found_is S k o is = is ∙ ap (λ (R : Key → Key → Ordering). find R k S) derived_is

pub removed_is : (S T : Program) (k : Key) (o : Option Cell) → T ≡ where_key cmp-value.it (λ x. not (eq_by_cmp cmp-value.it k x)) S → o ≡ None → T ≡ placed S k o
removed_is S T k o is after =
    is
    ∙ ap (λ (R : Key → Key → Ordering). where_key R (λ x. not (eq_by_cmp R k x)) S) derived_is
    ∙ ap (placed S k) (sym after)

pub set_is : (S T : Program) (k : Key) (o : Option Cell) (x y : Cell) → T ≡ put cmp-value.it k x S → o ≡ Some y → x ≡ y → T ≡ placed S k o
set_is S T k o x y is after equal =
    is
    ∙ ap (λ (R : Key → Key → Ordering). put R k x S) derived_is
    ∙ ap (λ (z : Cell). placed S k (Some z)) equal
    ∙ ap (placed S k) (sym after)
