-- How the files of a command are fetched: in word order, each by one fetch, up to the first whose fetch gives no bytes. A cabinet
-- holds files, counts its faults, and has fetches; these are the members of the trait.
use Rattle.std.specs.Prelude.{◌≡◌, ◌⊎◌, ℕ, ◌<◌, ◌≤◌, List, [], ◌∷◌, length, Option, Some, Result, Ok, Err, Vec}
use Rattle.std.specs.declared.alloc.Global.{Global}
use Rattle.rvd_io.specs.Causes.{Rose}
use Rattle.rvd_io.specs.declared.cabinets.FetchError.{FetchError}
use Rattle.rvd_io.specs.declared.cabinets.FetchError.TheVariants.{Failed}
use Rattle.rvd_fact.specs.declared.causes.What.TheVariants.{FileBytes}
use Rattle.rvd_top.specs.declared.endings.Ending.{Ending}
use Rattle.rvd_top.specs.declared.endings.Ending.TheVariants.{ReadFault, Memory, TooLarge}
use Rattle.rvd_top.specs.Endings.{IsBeforePut}
use Rattle.rvd_top.specs.Words.{Source}

-- the cabinet tells these bytes of the files, in their order
abbrev pub AreHeld : (List ℕ → Option (List ℕ)) → List Source → List (List ℕ) → Type 0
AreHeld held [] [] = Unit {0}
AreHeld held [] (bytes ∷ more) = ⊥
AreHeld held (file ∷ files) [] = ⊥
AreHeld held (file ∷ files) (bytes ∷ more) = (held file.name ≡ Some bytes) × AreHeld held files more

-- no file has more bytes than it may have
abbrev pub AreWithin : List Source → List (List ℕ) → Type 0
AreWithin (file ∷ files) (bytes ∷ more) = (length bytes ≤ file.limit) × AreWithin files more
AreWithin files bytes = Unit {0}

-- The cabinet tells of a file that it has more bytes than this limit, which is its own, and of all files before that they are
-- within theirs.
abbrev pub PassesLimit : (List ℕ → Option (List ℕ)) → List Source → ℕ → Type 0
PassesLimit held [] limit = ⊥
PassesLimit held (file ∷ files) limit =
    ((bytes : List ℕ) × (held file.name ≡ Some bytes) × (file.limit < length bytes) × (limit ≡ file.limit))
    ⊎ ((bytes : List ℕ) × (held file.name ≡ Some bytes) × (length bytes ≤ file.limit) × PassesLimit held files limit)

-- how a command ends where a file passes this limit: so, for want of memory, or by a fault of reading an earlier word or this one
abbrev pub EndsAbove : ℕ → Ending → Type 0
EndsAbove limit Memory = Unit {0}
EndsAbove limit (ReadFault word) = Unit {0}
EndsAbove limit ending = ending ≡ TooLarge FileBytes limit

-- how a command ends before the bytes of all files are there, none of which has too many
abbrev pub EndsEarly : Ending → Type 0
EndsEarly Memory = Unit {0}
EndsEarly (ReadFault word) = Unit {0}
EndsEarly ending = ⊥

-- A fault of reading, which took the cabinet from s to s', is that of the file at a word: its own fetch failed and raised the count,
-- after the fetches of all files before had given their bytes, of which none passes its limit.
abbrev pub FailsAt : {C : Type 0} → (C → List ℕ → Option (List ℕ)) → (C → ℕ) → (C → List ℕ → ℕ → Result (Vec ℕ Global) FetchError → C → Type 0)
    → List Source → ℕ → C → C → Type 0
FailsAt held faults fetched [] word s s' = ⊥
FailsAt {C} held faults fetched (file ∷ files) word s s' =
    ((word ≡ file.word) × fetched s file.name file.limit (Err Failed) s' × Rose (faults s) (faults s'))
    ⊎ ((got : Vec ℕ Global) × (t : C) × fetched s file.name file.limit (Ok got) t × (faults s ≤ faults t)
    × ((bytes : List ℕ) → held s file.name ≡ Some bytes → length bytes ≤ file.limit) × FailsAt held faults fetched files word t s')

-- The parts of a fetch of files, for the calls inside. One fetch gave its bytes, and took the cabinet from s to t:
pub record Fetched {C : Type 0} (held : C → List ℕ → Option (List ℕ)) (faults : C → ℕ) (fetched : C → List ℕ → ℕ → Result (Vec ℕ Global) FetchError → C → Type 0)
    (file : Source) (s t : C) (got : Vec ℕ Global) : Type 0 where
  pub still : held t ≡ held s
  pub later : faults s ≤ faults t
  pub told : (bytes : List ℕ) → held s file.name ≡ Some bytes → (got.items ≡ bytes) × (length bytes ≤ file.limit)
  pub step : fetched s file.name file.limit (Ok got) t

-- the fetches of all files gave these lists
pub record FetchedAll (held : List ℕ → Option (List ℕ)) (files : List Source) (lists : List (List ℕ)) : Type 0 where
  pub number : length lists ≡ length files
  pub told : (bytes : List (List ℕ)) → AreHeld held files bytes → lists ≡ bytes
  pub none_passes : (limit : ℕ) → PassesLimit held files limit → ⊥

-- a fetch gave no bytes, and so ended the command
pub record NotFetched {C : Type 0} (held : C → List ℕ → Option (List ℕ)) (faults : C → ℕ) (fetched : C → List ℕ → ℕ → Result (Vec ℕ Global) FetchError → C → Type 0)
    (files : List Source) (s s' : C) (ending : Ending) : Type 0 where
  pub within : (bytes : List (List ℕ)) → AreHeld (held s) files bytes → AreWithin files bytes → EndsEarly ending
  pub above : (limit : ℕ) → PassesLimit (held s) files limit → EndsAbove limit ending
  pub read : (word : ℕ) → ending ≡ ReadFault word → FailsAt held faults fetched files word s s'
  pub before_put : IsBeforePut ending
