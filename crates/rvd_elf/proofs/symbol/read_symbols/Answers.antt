use Rattle.std.proofs.Common.{arith}
use Rattle.std.specs.List.{All}
use Rattle.rvd_elf.specs.Symbol.{IsNamed, symbols_of}
use Rattle.rvd_elf.proofs.StepLemmas.{if_given, All-by_index}
use Rattle.rvd_elf.proofs.NamedSymbols.{symbols_named}
use Rattle.rvd_elf.proofs.symbol.read_symbols.Goals as goal

pub returns-clause-named : goal.returns-clause-named
returns-clause-named c =
    if_given (λ v. v.items) c.first_table_symbols.result (symbols_of c.args.bytes.now c.args.header.now) (λ v. All (IsNamed c.args.bytes.now) v.items)
    (λ v e. All-by_index (IsNamed c.args.bytes.now) v.items (symbols_named c.args.bytes.now c.args.header.now v.items (λ i. omega (arith, c.type_inv.bytes i)) e)) c.first_table_symbols.ensures
