use Rattle.std.proofs.Common.{◌≡◌, ℕ, ◌+◌, ◌≤◌, ◌++◌, ◌∙◌, ap, length, take, List, [], subst, sym}
use Rattle.std.specs.Prelude.{None, drop, replicate}
use Rattle.std.proofs.lemmas.Result.{err_from_is_err_and}
use Rattle.rvd_fact.specs.Program.{Program}
use Rattle.rvd_machine.specs.Steps.{Head}
use Rattle.rvd_script.specs.declared.script_lines.EventLine.{EventLine}
use Rattle.rvd_player.specs.Lines.{PlaysWhat}
use Rattle.rvd_player.specs.Plays.{head_of}
use Rattle.rvd_player.specs.Seen.{Seen, answer_to}
use Rattle.rvd_player.proofs.Growing.{Playing, length-sees, plays_full, playing_more, playing_none, written_back}
use Rattle.rvd_player.proofs.LinePlaces.{IsLine, asker_of, line_at}
use Rattle.rvd_player.proofs.playing.play.Goals as goal

pub loop-line-init : goal.loop-line-init
loop-line-init c =
    let is : c.in_ok-desk.desk ≡ record { head = head_of c.args.program c.args.file.now; journal = []; halt = None } =
    c.in_ok-desk.ensures ∙ (λ i. record { head = record { program = c.args.program; sessions = c.sessions-2.ensures.value i; workers = c.workers.ensures.value i }; journal = []; halt = None }) in
    playing_none (head_of c.args.program c.args.file.now) c.in_ok-desk.desk c.new-answers.result.items c.in_ok-seen.seen.items is c.status.ensures.legal c.new-answers.ensures.items
    (c.in_ok-seen.ensures ∙ ap (λ (n : ℕ). replicate n None) c.sessions.ensures.value)

pub answer_line-requires : goal.answer_line-requires
answer_line-requires c = λ asks.
    let at : IsLine c.args.file.now c.loop-line.line-index c.line-item.result = line_at c.args.file.now c.lines-lines.result.now c.loop-line.line-index c.line-item.result c.lines-lines.ensures.legal c.lines-lines.ensures.value c.loop-line-test.true c.line-item.is in
    let asker = asker_of c.args.file.now.sessions c.args.file.now.workers c.line-item.result at.own asks in
    (asker.0, subst (λ (n : ℕ). c.line-item.result.actor ≤ n) (sym (ap length c.deref.ensures.value ∙ c.loop-line.invariant.sessions)) asker.1)

pub returns-in_err-play_line-clause-err : goal.returns-in_err-play_line-clause-err
returns-in_err-play_line-clause-err c =
    let at : IsLine c.args.file.now c.loop-line.line-index c.line-item.result = line_at c.args.file.now c.lines-lines.result.now c.loop-line.line-index c.line-item.result c.lines-lines.ensures.legal c.lines-lines.ensures.value c.loop-line-test.true c.line-item.is in
    let p = err_from_is_err_and c.from_residual-in_err-play_line.result c.from_residual-in_err-play_line.ensures.1 in
    rw (p.1, p.2) (plays_full (head_of c.args.program c.args.file.now) c.args.file.now.lines c.loop-line.line-index c.line-item.result c.loop-line.desk c.play_line.new.desk c.loop-line.answers.items _ c.loop-line.invariant.plays at.at c.play_line.ensures.legal c.in_err-play_line.ensures.err)

pub loop-line-preserved : goal.loop-line-preserved
loop-line-preserved c =
    let h = head_of c.args.program c.args.file.now in
    let at : IsLine c.args.file.now c.loop-line.line-index c.line-item.result = line_at c.args.file.now c.lines-lines.result.now c.loop-line.line-index c.line-item.result c.lines-lines.ensures.legal c.lines-lines.ensures.value c.loop-line-test.true c.line-item.is in
    let first : c.behind-desk.inside.program ≡ c.args.program = ap (λ (h : Head). h.program) c.behind-desk.view_is ∙ ap (λ (h : Head). h.program) c.head.ensures ∙ ap (λ (k : Head). k.program) c.loop-line.invariant.plays.head in
    let told : c.answer_line.new.answers.items ≡ c.loop-line.answers.items ++ answer_to c.args.program c.loop-line.seen.items c.line-item.result c.line-item.result.what =
    c.in_ok-answer_line.ensures
    ∙ ap (λ (P : Program). c.loop-line.answers.items ++ answer_to P c.deref.result.now c.line-item.result c.line-item.result.what) first
    ∙ ap (λ (t : Seen). c.loop-line.answers.items ++ answer_to c.args.program t c.line-item.result c.line-item.result.what) c.deref.ensures.value in
    let played : PlaysWhat c.loop-line.desk c.loop-line.seen.items c.line-item.result.actor c.line-item.result.what c.play_line.new.desk c.play_line.new.seen =
    subst (λ (t : Seen). PlaysWhat c.loop-line.desk t c.line-item.result.actor c.line-item.result.what c.play_line.new.desk c.play_line.new.seen) c.deref_mut.ensures.value c.in_ok-play_line.ensures.ok in
    let whole : take c.loop-line.seen.len (c.play_line.new.seen ++ drop (length c.play_line.new.seen) c.loop-line.seen.items) ≡ c.play_line.new.seen =
    written_back c.play_line.new.seen c.loop-line.seen.items c.loop-line.seen.len (sym c.deref_mut.ensures.len ∙ ap length c.deref_mut.ensures.value) (length-sees c.loop-line.desk c.play_line.new.desk c.loop-line.seen.items c.play_line.new.seen c.line-item.result.actor c.line-item.result.what played) in
    subst (λ (t : Seen). Playing h (take (c.loop-line.line-index + 1) c.args.file.now.lines) c.play_line.new.desk c.answer_line.new.answers.items t) (sym whole)
    (subst (λ (ls : List EventLine). Playing h ls c.play_line.new.desk c.answer_line.new.answers.items c.play_line.new.seen) (sym at.next)
    (playing_more h (take c.loop-line.line-index c.args.file.now.lines) c.line-item.result c.loop-line.desk c.play_line.new.desk c.loop-line.answers.items c.answer_line.new.answers.items c.loop-line.seen.items c.play_line.new.seen c.loop-line.invariant played c.play_line.ensures.legal told))
