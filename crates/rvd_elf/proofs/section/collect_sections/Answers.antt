use Rattle.std.proofs.Common.{◌++◌, ◌∷◌, [], ◌∙◌, sym, arith, ap, map, List}
use Rattle.std.specs.List.{range_with_len}
use Rattle.std.proofs.lemmas.List.FromFn.{map-range_with_len_more}
use Rattle.rvd_elf.specs.declared.section.SectionHeader.{SectionHeader}
use Rattle.rvd_elf.specs.Section.{section_header_of}
use Rattle.rvd_elf.proofs.section.collect_sections.Goals as goal

pub loop-index-preserved : goal.loop-index-preserved
loop-index-preserved c =
    let i = c.loop-index.index in
    c.in_ok-push.ensures.items
    ∙ ap (λ (ss : List SectionHeader). ss ++ c.read_section_header.result ∷ []) c.loop-index.invariant
    ∙ ap (λ (s : SectionHeader). map (section_header_of c.args.bytes.now c.args.header.now) (range_with_len 0 i) ++ s ∷ []) c.read_section_header.ensures
    ∙ sym (map-range_with_len_more (section_header_of c.args.bytes.now c.args.header.now) 0 i i (omega arith))
