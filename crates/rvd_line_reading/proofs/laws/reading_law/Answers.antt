use Rattle.rvd_line_reading.proofs.EventsBack.{event_law}
use Rattle.rvd_line_reading.proofs.LinesBack.{line_law}
use Rattle.rvd_line_reading.proofs.RepliesBack.{reply_law}
use Rattle.rvd_line_reading.proofs.laws.reading_law.Goals as goal

pub returns-clause-replies : goal.returns-clause-replies
returns-clause-replies c = reply_law

pub returns-clause-events : goal.returns-clause-events
returns-clause-events c = event_law

pub returns-clause-lines : goal.returns-clause-lines
returns-clause-lines c = line_law
