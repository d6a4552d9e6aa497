-- Fixed words by their lists: the words of kinds, sources, classes and analyzers, and the forms of units. No word of a list
-- begins with another one of it.
use Rattle.std.specs.Prelude.{ℕ, nat_eq, List, [], ◌∷◌, length, drop, Some, None, if◌then◌else◌, codes}
use Rattle.std.specs.List.{starts_with}
use Rattle.rvd_fact.specs.declared.keys.Kind.{Kind}
use Rattle.rvd_fact.specs.declared.keys.Kind.TheVariants as kind
use Rattle.rvd_fact.specs.declared.values.Source.{Source}
use Rattle.rvd_fact.specs.declared.values.Source.TheVariants as source
use Rattle.rvd_fact.specs.declared.values.RefClass.{RefClass}
use Rattle.rvd_fact.specs.declared.values.RefClass.TheVariants as class
use Rattle.rvd_ask.specs.declared.asks.Analyzer.{Analyzer}
use Rattle.rvd_ask.specs.declared.asks.Analyzer.TheVariants as analyzer
use Rattle.rvd_reading.specs.Steps.{Step}

-- the first word of a list that the bytes begin with
abbrev pub fixed : {A : Type 0} → List (List ℕ × A) → List ℕ → Step A
fixed [] bytes = None
fixed (entry ∷ entries) bytes = if starts_with nat_eq bytes entry.0 then Some (entry.1, drop (length entry.0) bytes) else fixed entries bytes

-- what stands behind the first word of a list that the bytes begin with is read by that word's reader; where they begin with
-- none of them, all is read by another
abbrev pub choose : {A : Type 0} → List (List ℕ × (List ℕ → Step A)) → (List ℕ → Step A) → List ℕ → Step A
choose [] other bytes = other bytes
choose (entry ∷ entries) other bytes = if starts_with nat_eq bytes entry.0 then entry.1 (drop (length entry.0) bytes) else choose entries other bytes

-- readers that take no byte: of this one, and of none
abbrev pub just : {A : Type 0} → A → List ℕ → Step A
just x rest = Some (x, rest)

abbrev pub nothing : {A : Type 0} → List ℕ → Step A
nothing rest = None

abbrev pub kinds : List (List ℕ × Kind)
kinds =
    (codes "block", kind.Block)
    ∷ (codes "mark", kind.Mark)
    ∷ (codes "func", kind.Func)
    ∷ (codes "body", kind.Body)
    ∷ (codes "symbol", kind.Symbol)
    ∷ (codes "comment", kind.Comment)
    ∷ (codes "bookmark", kind.Bookmark)
    ∷ (codes "unit", kind.Unit)
    ∷ (codes "ref", kind.Ref)
    ∷ []

abbrev pub sources : List (List ℕ × Source)
sources =
    (codes "default", source.Default)
    ∷ (codes "analysis", source.Analysis)
    ∷ (codes "imported", source.Imported)
    ∷ (codes "user", source.UserDefined)
    ∷ []

abbrev pub classes : List (List ℕ × RefClass)
classes =
    (codes "call", class.Call)
    ∷ (codes "jump", class.Jump)
    ∷ (codes "cond", class.Cond)
    ∷ (codes "data", class.Datum)
    ∷ (codes "read", class.Read)
    ∷ (codes "write", class.Write)
    ∷ []

abbrev pub analyzers : List (List ℕ × Analyzer)
analyzers =
    (codes "flow", analyzer.Flow)
    ∷ (codes "refs", analyzer.Refs)
    ∷ (codes "funcs", analyzer.Funcs)
    ∷ (codes "body", analyzer.Body)
    ∷ (codes "strings", analyzer.Strings)
    ∷ []
