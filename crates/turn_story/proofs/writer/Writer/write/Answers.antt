use Rattle.std.proofs.Common.{sym, ap, ◌∙◌}
use Rattle.turn_story.proofs.Notes.{goes_on}
use Rattle.turn_story.proofs.writer.Writer.write.Goals as goal

pub give-requires-clause-entries : goal.give-requires-clause-entries
give-requires-clause-entries g c =
    let took = c.take-story.ensures.pass in
    goes_on c.push-answer.result c.take-story.result c.push-answer.new.self c.take-story.new.pass.seen c.take-story.new.pass.number _ _ (sym (ap (λ p. p.seen) took)) (sym (ap (λ p. p.number) took ∙ c.self.invariant.0)) c.push-answer.ensures
