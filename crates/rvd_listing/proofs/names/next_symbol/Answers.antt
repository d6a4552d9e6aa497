use Rattle.std.proofs.Common.{None, Some}
use Rattle.rvd_listing.proofs.Slots.{no_symbol, next_symbol}
use Rattle.rvd_listing.proofs.names.next_symbol.Goals as goal

pub returns-in-None-clause-none : goal.returns-in-None-clause-none
returns-in-None-clause-none c = no_symbol c.args.program.now c.args.at c.args.slot c.symbol_key.result None c.next_cell.ensures.valid c.symbol_key.ensures c.in-None.ensures.next tt

pub returns-in-None-slot_of-clause-none : goal.returns-in-None-slot_of-clause-none
returns-in-None-slot_of-clause-none c =
    no_symbol c.args.program.now c.args.at c.args.slot c.symbol_key.result (Some (c.in-Some.key, c.in-Some.cell.now)) c.next_cell.ensures.valid c.symbol_key.ensures c.in-Some.ensures.next c.in-None-slot_of.ensures.none

pub returns-in-Some-slot_of-clause-some : goal.returns-in-Some-slot_of-clause-some
returns-in-Some-slot_of-clause-some c =
    let here = c.in-Some-slot_of.ensures.some in
    next_symbol c.args.program.now c.args.at c.args.slot c.symbol_key.result c.in-Some.key c.in-Some.cell.now c.in-Some-slot_of.found c.next_cell.ensures.valid c.symbol_key.ensures c.in-Some.ensures.next here.0 here.1
