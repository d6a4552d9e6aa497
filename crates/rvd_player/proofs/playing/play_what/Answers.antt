use Rattle.std.proofs.Common.{◌≡◌, ℕ, ◌≤◌, length, subst, sym}
use Rattle.std.proofs.lemmas.Result.{err_from_is_err_and}
use Rattle.rvd_script.specs.declared.script_lines.What1.{What1}
use Rattle.rvd_player.specs.Lines.{PlaysWhat}
use Rattle.rvd_player.proofs.Growing.{ask_line, call_line, settle_fails, settle_line}
use Rattle.rvd_player.proofs.LinePlaces.{reader_of}
use Rattle.rvd_player.proofs.playing.play_what.Goals as goal

pub returns-in_err-settle-in-Settle-clause-err : goal.returns-in_err-settle-in-Settle-clause-err
returns-in_err-settle-in-Settle-clause-err c =
    let p = err_from_is_err_and c.from_residual.result c.from_residual.ensures.1 in
    rw (p.1, p.2) (settle_fails c.args.desk.now _ c.args.line.now c.in-Settle.n _ c.requires.running c.in-Settle.is c.in_err-settle-in-Settle.ensures.err)

pub returns-in_ok-settle-in-Settle-clause-ok : goal.returns-in_ok-settle-in-Settle-clause-ok
returns-in_ok-settle-in-Settle-clause-ok c =
    subst (λ (w : What1). PlaysWhat c.args.desk.now c.args.seen.now c.args.line.now.actor w c.settle.new.desk c.args.seen.now) (sym c.in-Settle.is)
    (settle_line c.args.desk.now c.settle.new.desk c.args.seen.now c.args.line.now.actor c.in-Settle.n c.in_ok-settle-in-Settle.field-0 c.in_ok-settle-in-Settle.ensures.ok)
