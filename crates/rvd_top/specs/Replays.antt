-- What is printed of a journal that is replayed. Use `IsReplayOf` for the text.
use Rattle.std.specs.Prelude.{◌≡◌, ℕ, List}
use Rattle.rvd_fact.specs.Program.{Program}
use Rattle.rvd_event.specs.declared.queries.Names.{Names}
use Rattle.rvd_desk.specs.Story.{Story}
use Rattle.rvd_replay.specs.Replayed.{IsReplayed}
use Rattle.rvd_top.specs.Plays.{outcome_text}

-- the sessions and workers of a desk
abbrev pub names_in : Story → Names
names_in d = record { sessions = d.head.sessions; workers = d.head.workers }

-- a text is that of the state of a desk to which a journal leads over a program
pub record IsReplayOf (P : Program) (journal text : List ℕ) : Type 0 where
  pub reached : Story
  pub replayed : IsReplayed P journal reached
  pub is_text : text ≡ outcome_text (names_in reached) reached
