use Rattle.std.proofs.Common.{◌≡◌, sym, subst, arith}
use Rattle.std.proofs.lemmas.Grind.{common_steps}
use Rattle.rvd_fact.specs.Program.{reverted_all}
use Rattle.rvd_fact.specs.Valid.{IsValid, Reverts}
use Rattle.rvd_program.proofs.Applying.{valid_back}
use Rattle.rvd_program.proofs.Back.{next_back}
use Rattle.rvd_program.proofs.valid_map.Program.revert.Goals as goal

pub invariant_of-self : goal.invariant_of-self
invariant_of-self c =
    let led : c.loop-left.next ≡ reverted_all c.self.inside.cells c.args.changes.now = grind (arith, common_steps) in
    subst IsValid (sym led) (valid_back _ c.args.changes.now c.self.invariant (subst (λ S. Reverts S c.args.changes.now) (sym c.self.view_is) c.requires))

pub loop-left-preserved : goal.loop-left-preserved
loop-left-preserved c = (omega arith, next_back c.self.inside.cells c.loop-left.next c.put_in.new.cells c.args.changes.now c.loop-left.left c.index-changes-left.result c.loop-left-test.true c.loop-left.invariant.0 (sym c.index-changes-left.is) c.loop-left.invariant.1 c.in_ok-put_in.ensures.ok)
