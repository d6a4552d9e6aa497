use Rattle.std.proofs.Common.{take}
use Rattle.rvd_player.specs.Plays.{head_of}
use Rattle.rvd_player.proofs.Growing.{Playing}
use Rattle.rvd_player.proofs.playing.play.Given as goal

-- the lines so far are played
abbrev pub invariant-loop-line : goal.invariant-loop-line
invariant-loop-line l = Playing (head_of l.fn.program l.fn.file) (take l.line-index l.fn.file.lines) l.desk l.answers.items l.seen.items
