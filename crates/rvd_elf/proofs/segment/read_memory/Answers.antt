use Rattle.std.specs.List.{All}
use Rattle.rvd_elf.specs.Segment.{IsRegion, memory_of}
use Rattle.rvd_elf.proofs.StepLemmas.{if_given, All-by_index}
use Rattle.rvd_elf.proofs.Memory.{memory_regions}
use Rattle.rvd_elf.proofs.segment.read_memory.Goals as goal

pub returns-clause-regions : goal.returns-clause-regions
returns-clause-regions c =
    if_given (λ v. v.items) c.sorted_memory.result (memory_of c.args.bytes.now c.args.header.now) (λ v. All (IsRegion c.args.bytes.now) v.items)
    (λ v e. All-by_index (IsRegion c.args.bytes.now) v.items (memory_regions c.args.bytes.now c.args.header.now v.items e)) c.sorted_memory.ensures
