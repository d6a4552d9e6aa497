-- The small story as contracts see it: a title and the notes, the oldest first. A note is what its owner wrote.
use Rattle.std.specs.Prelude.{ℕ, List}
use Rattle.turn_story.specs.declared.story.Note.{Note}

pub record Written : Type 0 where
  pub title : ℕ
  pub notes : List Note

abbrev pub note : ℕ → ℕ → Note
note owner number = record { owner = owner; number = number }
