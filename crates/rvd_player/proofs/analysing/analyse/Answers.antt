use Rattle.std.proofs.lemmas.Result.{err_from_is_err_and}
use Rattle.rvd_player.proofs.WholeRuns.{analysed, settle_stops}
use Rattle.rvd_player.proofs.analysing.analyse.Goals as goal

pub returns-clause-ok : goal.returns-clause-ok
returns-clause-ok c =
    analysed c.listing_law.ensures c.args.program c.in_ok-desk.desk c.full.new.self c.settle-settled.new.desk c.in_ok-full.field-0 c.in_ok-settled.field-0 c.in_ok-desk.ensures c.in_ok-full.ensures.ok c.in_ok-settled.ensures.ok c.status-3.ensures.legal c.status-3.ensures.sound

pub returns-in_err-settled-clause-err : goal.returns-in_err-settled-clause-err
returns-in_err-settled-clause-err c =
    let p = err_from_is_err_and c.from_residual-in_err-settled.result c.from_residual-in_err-settled.ensures.1 in
    rw (p.1, p.2) (settle_stops c.args.program c.in_ok-desk.desk c.full.new.self c.settle-settled.new.desk c.in_ok-full.field-0 _ c.in_ok-desk.ensures c.in_ok-full.ensures.ok c.status-3.ensures.legal c.in_err-settled.ensures.err)
