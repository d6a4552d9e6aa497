use Rattle.std.proofs.Common.{◌≡◌, Ok}
use Rattle.rvd_elf.specs.Steps.{in_turn}
use Rattle.rvd_elf.specs.Symbol.{symbol_step}
use Rattle.rvd_elf.proofs.symbol.collect_symbols.Given as goal

abbrev pub invariant-loop-index : goal.invariant-loop-index
invariant-loop-index l = in_turn (symbol_step l.bytes l.table l.strings) l.index ≡ Ok l.symbols.items
