use Rattle.std.proofs.Common.{ap, ◌∙◌, Some}
use Rattle.std.specs.Prelude.{find as first_where}
use Rattle.std.specs.Ordering.{is_le}
use Rattle.std.specs.declared.cmp.Ordering.{Ordering}
use Rattle.rvd_fact.specs.declared.keys.Key.{Key}
use Rattle.rvd_fact.specs.declared.cells.Cell.{Cell}
use Rattle.rvd_fact.proofs.DerivedOrder.{derived_is}
use Rattle.rvd_program.proofs.valid_map.Program.next_cell.Goals as goal

pub returns-in-None-clause-next : goal.returns-in-None-clause-next
returns-in-None-clause-next c = c.in-None.ensures ∙ ap (λ (R : Key → Key → Ordering). first_where (λ (e : Key × Cell). is_le (R c.args.from e.0)) c.self.inside.cells) derived_is ∙ ap (first_where _) c.self.view_is

pub returns-in-Some-clause-next : goal.returns-in-Some-clause-next
returns-in-Some-clause-next c = ap (λ x. Some (c.in-Some.key.now, x)) c.cell.ensures ∙ c.in-Some.ensures ∙ ap (λ (R : Key → Key → Ordering). first_where (λ (e : Key × Cell). is_le (R c.args.from e.0)) c.self.inside.cells) derived_is ∙ ap (first_where _) c.self.view_is
