use Rattle.std.proofs.Common.{◌≡◌, ◌++◌, ◌∙◌, [], ap, sym, map}
use Rattle.std.proofs.lemmas.Result.{IfOk-weaker}
use Rattle.rvd_fact.specs.Program.{Program}
use Rattle.rvd_elf.specs.Facts.{block_fact, changes_of, facts_of, mark_facts, symbol_facts, with_facts}
use Rattle.rvd_elf.proofs.Placing.{with_facts-append}
use Rattle.rvd_elf.proofs.facts.list_facts.Goals as goal

pub returns : goal.returns
returns c =
    let blocks = map (block_fact c.args.bytes.now) c.args.regions.now in
    let mark = mark_facts c.args.regions.now c.args.header.now in
    let names = symbol_facts c.args.bytes.now c.args.regions.now [] c.args.symbols.now in
    let all : c.put_symbols.new.cells.entries ≡ with_facts [] (facts_of c.args.bytes.now c.args.header.now c.args.regions.now c.args.symbols.now) =
    c.in_ok-put_symbols.ensures ∙ ap (λ (S : Program). with_facts S names) (c.in_ok-put_mark.ensures ∙ ap (λ (S : Program). with_facts S mark) (c.in_ok-put_blocks.ensures ∙ ap (λ (S : Program). with_facts S blocks) c.new-cells.ensures.empty))
    ∙ sym (with_facts-append [] blocks (mark ++ names) ∙ with_facts-append (with_facts [] blocks) mark names) in
    IfOk-weaker c.list_changes.result _ _ (λ v e. e ∙ ap changes_of all) c.list_changes.ensures
