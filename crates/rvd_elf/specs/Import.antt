-- The import of an RV32I executable from its ELF file (System V ABI, chapters 4 and 5). Use `import_of` for the
-- first refusal or the facts.
use Rattle.std.specs.Prelude.{ℕ, List, [], Result, Ok, Vec}
use Rattle.std.specs.declared.alloc.Global.{Global}
use Rattle.rvd_fact.specs.declared.cells.Change.{Change}
use Rattle.rvd_elf.specs.declared.refusals.ElfError.{ElfError}
use Rattle.rvd_elf.specs.Steps.{◌>>=◌, GivesBy}
use Rattle.rvd_elf.specs.Header.{header_of}
use Rattle.rvd_elf.specs.Segment.{memory_of}
use Rattle.rvd_elf.specs.Symbol.{symbols_of}
use Rattle.rvd_elf.specs.Facts.{changes_of, facts_of, with_facts}

-- the facts of a file in key order, or the first refusal
unfoldable pub import_of : List ℕ → Result (List Change) ElfError
import_of b = do
  h ← header_of b
  regions ← memory_of b h
  symbols ← symbols_of b h
  Ok (changes_of (with_facts [] (facts_of b h regions symbols)))

-- an import gives what is imported, unless memory ran out
abbrev pub Gives : Result (Vec Change Global) ElfError → Result (List Change) ElfError → Type 0
Gives result facts = GivesBy (λ (v : Vec Change Global). v.items) result facts
