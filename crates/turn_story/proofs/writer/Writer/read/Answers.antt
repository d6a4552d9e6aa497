use Rattle.std.proofs.Common.{sym, ap}
use Rattle.turn_story.proofs.Notes.{goes_on_same}
use Rattle.turn_story.proofs.writer.Writer.read.Goals as goal

pub give-requires-clause-entries : goal.give-requires-clause-entries
give-requires-clause-entries g c = goes_on_same _ _ _ (sym (ap (λ p. p.seen) c.take-story.ensures.pass))
