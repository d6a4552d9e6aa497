use Rattle.std.proofs.Common.{arith}
use Rattle.std.proofs.lemmas.Result.{err_from_is_err_and}
use Rattle.rvd_elf.specs.Segment.{load_step}
use Rattle.rvd_elf.proofs.StepLemmas.{in_turn_refused}
use Rattle.rvd_elf.proofs.segment.collect_loads.Goals as goal

pub returns-in_err-add_load : goal.returns-in_err-add_load
returns-in_err-add_load c =
    let p = err_from_is_err_and c.from_residual.result c.from_residual.ensures.1 in
    rw (p.1, p.2) (in_turn_refused (load_step c.args.bytes.now c.args.header.now) c.loop-index.index c.args.header.now.e_phnum c.loop-index.regions.items c.in_err-add_load.field-0.0
    (omega (arith, c.loop-index-test.true, c.from-index-end.ensures)) c.loop-index.invariant c.in_err-add_load.ensures)
