use Rattle.std.proofs.Common.{◌+◌, ◌-◌, sym, arith}
use Rattle.rvd_elf.proofs.Names.{name_of-behind, name_of-found, name_of-long}
use Rattle.rvd_elf.proofs.symbol.read_name_len.Goals as goal

pub returns-then-at-end-clause-value : goal.returns-then-at-end-clause-value
returns-then-at-end-clause-value c = name_of-behind c.args.strings.now c.args.end c.args.at c.requires c.args.index c.if-at-end.true

pub returns-in-Some-clause-value : goal.returns-in-Some-clause-value
returns-in-Some-clause-value c =
    name_of-found c.args.strings.now c.args.end c.args.at c.requires c.if-at-end.false (c.args.at + c.min-most.result - c.args.at) c.args.index c.in-Some.len (omega (arith, c.min-most.ensures)) (sym c.in-Some.ensures) c.if-len-gt0.true

pub returns-in-None-clause-value : goal.returns-in-None-clause-value
returns-in-None-clause-value c =
    name_of-long c.args.strings.now c.args.end c.args.at c.requires c.if-at-end.false (c.args.at + c.min-most.result - c.args.at) c.args.index (omega (arith, c.min-most.ensures)) (sym c.in-None.ensures)
