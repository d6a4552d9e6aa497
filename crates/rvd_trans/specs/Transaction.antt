-- An open transaction that actors share, and what each call makes of it: it is opened by an entry, others join it,
-- each entry ends by a commit or by an abort, and changes are noted in order. An entry that has ended is forgotten but
-- for whether it aborted: a transaction in which an entry aborted is rolled back as a whole.
use Rattle.std.specs.Prelude.{ℕ, ◌-◌, Bool, false, not, ◌||◌, List, [], ◌∷◌, ◌++◌, length, if◌then◌else◌}
use Rattle.rvd_fact.specs.declared.cells.Change.{Change}
use Rattle.rvd_trans.specs.declared.entries.Entry.{Entry}
use Rattle.rvd_trans.specs.Entries.{count_of, has_of, without_newest, without_all}

-- the actor that opened it and the text that it gave, the live entries from the oldest on, whether an entry has
-- aborted, the changes so far, and for how many more there is room
pub record Transaction : Type 0 where
  pub opener : ℕ
  pub text : List ℕ
  pub entries : List Entry
  pub aborted : Bool
  pub changes : List Change
  pub spare : ℕ

-- how many entries are live
abbrev pub live_count : Transaction → ℕ
live_count t = length t.entries

-- how many of them are an actor's
abbrev pub live_count_of : ℕ → Transaction → ℕ
live_count_of actor t = count_of actor t.entries

-- whether an actor has one
abbrev pub has_live : ℕ → Transaction → Bool
has_live actor t = has_of actor t.entries

-- a transaction with one entry, its opener's, and no changes
abbrev pub started : ℕ → ℕ → List ℕ → Transaction
started number actor text = record {
  opener = actor;
  text = text;
  entries = record { number = number; actor = actor } ∷ [];
  aborted = false;
  changes = [];
  spare = 0;
}

-- an actor joins by a new entry
abbrev pub joined : ℕ → ℕ → Transaction → Transaction
joined number actor t = record t { entries = t.entries ++ record { number = number; actor = actor } ∷ [] }

-- an actor's newest live entry ends: it commits where `keep` is true, else it aborts
abbrev pub ended : ℕ → Bool → Transaction → Transaction
ended actor keep t =
    if has_live actor t then record t { entries = without_newest actor t.entries; aborted = t.aborted || not keep }
    else t

-- all live entries of an actor abort
abbrev pub all_ended : ℕ → Transaction → Transaction
all_ended actor t = record t { entries = without_all actor t.entries; aborted = t.aborted || has_live actor t }

-- a change is noted in the room for it
abbrev pub noted : Change → Transaction → Transaction
noted change t = record t { changes = t.changes ++ change ∷ []; spare = t.spare - 1 }
