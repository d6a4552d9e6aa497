use Rattle.std.proofs.Common.{◌≡◌, ◌↔◌, ◌+◌, Bool, IsTrue, List, [], ◌∷◌, ◌++◌, length, sym, ap, subst, ◌∙◌}
use Rattle.std.proofs.lemmas.Bool.{false≢true}
use Rattle.rvd_journal.specs.declared.entries.Entry.{Entry}
use Rattle.rvd_journal_text.specs.Lines.{end_line}
use Rattle.rvd_line_reading.specs.Front.{BeginsWith}
use Rattle.rvd_desk.specs.Story.{Story}
use Rattle.rvd_replay.specs.Replaying.{GoesOn}
use Rattle.rvd_replay.proofs.Exactness.{no_journal}
use Rattle.rvd_replay.proofs.Replays.{differs_here, is_done, replays_more, shorter}
use Rattle.rvd_replay.proofs.replaying.replay_entries.Goals as goal

pub returns-then-not-branch-2 : goal.returns-then-not-branch-2
returns-then-not-branch-2 c = λ text is.
    let none = subst (λ (b : Bool). GoesOn b c.args.names c.loop-desk.desk c.replay_next.new.desk c.loop-desk.rest c.replay_next.new.rest) c.if-not-branch-2.true c.in_ok-replay_next.ensures in
    let ends = subst (λ (J : List Entry). IsTrue c.in_ok-is_end.field-0 ↔ BeginsWith c.loop-desk.rest (end_line (length J) ++ 10 ∷ [])) c.entries-in-loop-desk.ensures c.in_ok-is_end.ensures in
    let no_end : BeginsWith c.loop-desk.rest (end_line (length c.loop-desk.desk.journal) ++ 10 ∷ []) → ⊥ = λ begins. absurd (false≢true (sym c.if-not-branch.true ∙ ends.1 begins)) in
    let number : c.next_line.result ≡ length c.loop-desk.desk.journal + 2 = c.next_line.ensures ∙ ap (λ (d : Story). length d.journal + 2) none.same in
    let differs = differs_here c.args.program c.args.names c.args.lines.now c.loop-desk.desk c.replay_next.new.desk c.loop-desk.rest text c.next_line.result c.loop-desk.invariant no_end none number is in
    (differs, no_journal c.front_law.ensures c.journals_are_bounded.ensures c.rooms_are_kept.ensures c.args.program text c.next_line.result differs)

pub loop-desk-smaller : goal.loop-desk-smaller
loop-desk-smaller c =
    let took = subst (λ (b : Bool). GoesOn b c.args.names c.loop-desk.desk c.replay_next.new.desk c.loop-desk.rest c.replay_next.new.rest) c.if-not-branch-2.false c.in_ok-replay_next.ensures in
    shorter c.args.names c.loop-desk.desk c.replay_next.new.desk c.loop-desk.rest c.replay_next.new.rest took

pub loop-desk-preserved : goal.loop-desk-preserved
loop-desk-preserved c =
    let took = subst (λ (b : Bool). GoesOn b c.args.names c.loop-desk.desk c.replay_next.new.desk c.loop-desk.rest c.replay_next.new.rest) c.if-not-branch-2.false c.in_ok-replay_next.ensures in
    replays_more c.args.program c.args.names c.args.lines.now c.loop-desk.desk c.replay_next.new.desk c.loop-desk.rest c.replay_next.new.rest c.loop-desk.invariant took

pub returns : goal.returns
returns c = λ text is.
    let ends = subst (λ (J : List Entry). IsTrue c.in_ok-is_end.field-0 ↔ BeginsWith c.loop-desk.rest (end_line (length J) ++ 10 ∷ [])) c.entries-in-loop-desk.ensures c.in_ok-is_end.ensures in
    is_done c.args.program c.args.names c.args.lines.now c.loop-desk.desk c.loop-desk.rest text c.loop-desk.invariant (ends.0 c.if-not-branch.false) is
