use Rattle.std.proofs.Common.{◌≡◌, sym, subst, arith}
use Rattle.std.proofs.lemmas.Grind.{common_steps}
use Rattle.rvd_fact.specs.Program.{applied_all}
use Rattle.rvd_fact.specs.Valid.{IsValid, Fits}
use Rattle.rvd_program.proofs.Applying.{valid_all}
use Rattle.rvd_program.proofs.valid_map.Program.apply.Goals as goal

pub invariant_of-self : goal.invariant_of-self
invariant_of-self c =
    let led : c.loop-change.next ≡ applied_all c.self.inside.cells c.args.changes.now = grind (arith, common_steps) in
    subst IsValid (sym led) (valid_all _ c.args.changes.now c.self.invariant (subst (λ S. Fits S c.args.changes.now) (sym c.self.view_is) c.requires))
