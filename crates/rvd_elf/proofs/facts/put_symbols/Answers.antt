use Rattle.rvd_elf.specs.Facts.{slot_at}
use Rattle.rvd_elf.proofs.SlotLemmas.{symbol_facts-more, slots_more}
use Rattle.rvd_elf.proofs.facts.put_symbols.Goals as goal

pub loop-symbol-preserved : goal.loop-symbol-preserved
loop-symbol-preserved c =
    let i = c.loop-symbol.symbol-index in
    record {
      facts = symbol_facts-more c.args.bytes.now c.args.regions.now c.args.cells.now.entries c.loop-symbol.cells.entries c.put_symbol.new.cells.entries c.args.symbols.now i _ _
          c.loop-symbol-test.true c.loop-symbol.invariant.facts (c.loop-symbol.invariant.slots _) c.in_ok-put_symbol.ensures.facts;
      slots = slots_more (slot_at c.loop-symbol.slots) (slot_at c.put_symbol.new.slots) c.args.symbols.now i _ c.loop-symbol-test.true c.loop-symbol.invariant.slots c.in_ok-put_symbol.ensures.taken;
    }
