use Rattle.std.proofs.Common.{ℕ, sym, ◌∙◌}
use Rattle.std.proofs.lemmas.Option.{same_Some}
use Rattle.turn_story.specs.declared.story.Note.{Note}
use Rattle.turn_story.proofs.MetOnce.{once_all, once_head, once_nothing}
use Rattle.turn_story.proofs.once.split_and_meet.Goals as goal

pub close-requires-clause-all : goal.close-requires-clause-all
close-requires-clause-all c = once_all {H = ℕ} {E = Note} c.in_ok-turn.turn c.new.result.title c.in_ok-turn.first c.in_ok-second.second c.split.new.pass c.meet.new.pass c.in_ok-turn.ensures c.in_ok-second.ensures.given c.in_ok-second.ensures.kept c.meet.ensures.both

pub returns : goal.returns
returns c =
    let head = once_head {H = ℕ} {E = Note} c.in_ok-turn.turn c.new.result.title c.in_ok-turn.first c.in_ok-second.second c.split.new.pass c.meet.new.pass c.in_ok-turn.ensures c.in_ok-second.ensures.given c.in_ok-second.ensures.kept c.meet.ensures.both in
    let e = c.close.ensures in (
      same_Some c.close.result.title c.new.result.title (sym e.head ∙ head) ∙ c.new.ensures.0,
      once_nothing {H = ℕ} {E = Note} c.in_ok-turn.turn c.new.result.title c.in_ok-turn.first c.in_ok-second.second c.split.new.pass c.meet.new.pass c.in_ok-turn.ensures c.in_ok-second.ensures.given c.in_ok-second.ensures.kept c.meet.ensures.both
          (λ (n : Note). n.owner) c.close.result.notes e.own e.met e.others,
    )
