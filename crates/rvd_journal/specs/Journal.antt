-- The journal of a desk as contracts see it: its entries in order, and for how many more there is room.
use Rattle.std.specs.Prelude.{ℕ, ◌-◌, List, [], ◌∷◌, ◌++◌}
use Rattle.rvd_journal.specs.declared.entries.Entry.{Entry}

pub record Contents : Type 0 where
  pub entries : List Entry
  pub spare : ℕ

-- the journal with one entry more, in the room that there is
abbrev pub with_entry : Entry → Contents → Contents
with_entry entry journal = record { entries = journal.entries ++ entry ∷ []; spare = journal.spare - 1 }
