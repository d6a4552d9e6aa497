use Rattle.rvd_an_flow.proofs.runs.+add_run.Given as goal

-- the room that is left
abbrev pub decreases-add_run : goal.decreases-add_run
decreases-add_run g l = l.room
