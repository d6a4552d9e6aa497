-- Steps of an edit, of which the first refusal decides. Use `do` blocks over `◌>>=◌`, `require` and `forbid` for single
-- tests, and `Gives` for what a function returns where the steps give changes.
use Rattle.std.specs.Prelude.{◌≡◌, Bool, if◌then◌else◌, List, Result, Ok, Err, Vec}
use Rattle.std.specs.declared.alloc.Global.{Global}
use Rattle.rvd_fact.specs.declared.cells.Change.{Change}
use Rattle.rvd_event.specs.declared.edits.EditRefusal.{EditRefusal}
use Rattle.rvd_edit.specs.declared.edit_error.EditError.{EditError}
use Rattle.rvd_edit.specs.declared.edit_error.EditError.TheVariants.{Refused, OutOfMemory}

infixl 10 ◌>>=◌
abbrev pub ◌>>=◌ : {A B : Type 0} → Result A EditRefusal → (A → Result B EditRefusal) → Result B EditRefusal
(Ok x) >>= f = f x
(Err refusal) >>= f = Err refusal

infixl 10 ◌>>◌
abbrev pub ◌>>◌ : {A B : Type 0} → Result A EditRefusal → Result B EditRefusal → Result B EditRefusal
r >> s = r >>= (λ _. s)

-- a test that has to hold, and one that may not hold, with the refusal
abbrev pub require : Bool → EditRefusal → Result (Unit {0}) EditRefusal
require test refusal = if test then Ok tt else Err refusal

abbrev pub forbid : Bool → EditRefusal → Result (Unit {0}) EditRefusal
forbid test refusal = if test then Err refusal else Ok tt

-- what a function returned is what the steps give, seen by view, unless memory ran out
abbrev pub GivesBy : {X Y : Type 0} → (X → Y) → Result X EditError → Result Y EditRefusal → Type 0
GivesBy view (Ok x) steps = steps ≡ Ok (view x)
GivesBy view (Err (Refused refusal)) steps = steps ≡ Err refusal
GivesBy view (Err OutOfMemory) steps = Unit {0}

-- the changes that a function returned are those that the steps give, unless memory ran out
abbrev pub Gives : Result (Vec Change Global) EditError → Result (List Change) EditRefusal → Type 0
Gives result steps = GivesBy (λ (v : Vec Change Global). v.items) result steps

-- an error tells a refusal of which this holds, or that memory ran out
abbrev pub IfRefused : EditError → (EditRefusal → Type 0) → Type 0
IfRefused (Refused refusal) P = P refusal
IfRefused OutOfMemory P = Unit {0}
