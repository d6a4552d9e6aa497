use Rattle.std.proofs.Common.{◌≡◌, map}
use Rattle.std.specs.List.{range_with_len}
use Rattle.rvd_elf.specs.Section.{section_header_of}
use Rattle.rvd_elf.proofs.section.collect_sections.Given as goal

abbrev pub invariant-loop-index : goal.invariant-loop-index
invariant-loop-index l = l.sections.items ≡ map (section_header_of l.bytes l.header) (range_with_len 0 l.index)
