use Rattle.std.proofs.Common.{arith}
use Rattle.std.proofs.lemmas.Result.{err_from_is_err_and}
use Rattle.rvd_elf.specs.Symbol.{entry_count, symbol_step}
use Rattle.rvd_elf.proofs.StepLemmas.{in_turn_refused}
use Rattle.rvd_elf.proofs.symbol.collect_symbols.Goals as goal

pub returns-in_err-add_symbol : goal.returns-in_err-add_symbol
returns-in_err-add_symbol c =
    let p = err_from_is_err_and c.from_residual.result c.from_residual.ensures.1 in
    rw (p.1, p.2) (in_turn_refused (symbol_step c.args.bytes.now c.args.table.now c.args.strings.now) c.loop-index.index (entry_count c.args.table.now) c.loop-index.symbols.items c.in_err-add_symbol.field-0.0
    (omega (arith, c.loop-index-test.true)) c.loop-index.invariant c.in_err-add_symbol.ensures)
