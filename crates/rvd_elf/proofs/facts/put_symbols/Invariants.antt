use Rattle.std.proofs.Common.{◌≡◌, ℕ, [], min, take}
use Rattle.rvd_elf.specs.Facts.{number_at, slot_at, symbol_facts, with_facts}
use Rattle.rvd_elf.proofs.facts.put_symbols.Given as goal

abbrev pub invariant-loop-symbol : goal.invariant-loop-symbol
invariant-loop-symbol l = record {
  facts : l.cells.entries ≡ with_facts l.fn.cells.entries (symbol_facts l.bytes l.regions [] (take l.symbol-index l.symbols));
  slots : (a : ℕ) → slot_at l.slots a ≡ min (number_at a (take l.symbol-index l.symbols)) 64;
}
