-- The answers to queries on a program, as texts. Use `reply` for the answer to a query.
use Rattle.std.specs.Prelude.{ℕ, List, [], ◌∷◌, ◌++◌, map, codes, Option, unwrap_or}
use Rattle.std.specs.Option.{option_and_then}
use Rattle.std.specs.List.{join_with_byte}
use Rattle.rvd_text.specs.Hex.{hex8}
use Rattle.rvd_fact.specs.declared.values.RefClass.{RefClass}
use Rattle.rvd_fact.specs.Program.{Program}
use Rattle.rvd_fact.specs.Memory.{cover}
use Rattle.rvd_event.specs.declared.queries.Query.{Query}
use Rattle.rvd_event.specs.declared.queries.Query.TheVariants.{Unit as UnitOn, Name, Xrefs, Func, Count}
use Rattle.rvd_notation.specs.Words.{class_word}
use Rattle.rvd_listing.specs.Names.{shown_name}
use Rattle.rvd_listing.specs.Lines.{line_of_unit}
use Rattle.rvd_listing.specs.Lookups.{function_of, xrefs_to}
use Rattle.rvd_query.specs.Counts.{counts_of, counts_text}

-- a text, or `none` where there is none
abbrev pub or_none : Option (List ℕ) → List ℕ
or_none text = unwrap_or text (codes "none")

-- words with a space between each two, or `none` where there are none
abbrev pub words_text : List (List ℕ) → List ℕ
words_text [] = codes "none"
words_text (word ∷ words) = join_with_byte 32 (word ∷ words)

-- the line of the present unit that has the byte at an address
abbrev pub line_at : Program → ℕ → Option (List ℕ)
line_at S a = option_and_then (line_of_unit S) (cover S a)

-- where a reference stands, and its class
abbrev pub xref_text : ℕ × ℕ × RefClass → List ℕ
xref_text xref = hex8 xref.0 ++ codes ":" ++ class_word xref.2

-- the answer to a query
unfoldable pub reply : Program → Query → List ℕ
reply S (UnitOn a) = or_none (line_at S a)
reply S (Name a) = or_none (shown_name S a)
reply S (Xrefs a) = words_text (map xref_text (xrefs_to S a))
reply S (Func a) = words_text (map hex8 (function_of S a))
reply S Count = counts_text (counts_of S)
