use Rattle.std.proofs.Common.{rules}
use Rattle.std.proofs.lemmas.Result.{on_ok_weaker}
use Rattle.std.proofs.lemmas.List.Sorted.{IsNonDecreasingBy-from_sort_by_key, answers_always}
use Rattle.rvd_elf.specs.declared.segment.Region.{Region}
use Rattle.rvd_elf.proofs.Regions.{sorted_is}
use Rattle.rvd_elf.proofs.segment.sort_by_start.Goals as goal

pub returns : goal.returns
returns c =
    on_ok_weaker c.sort_by_key.result (λ sorted.
    sorted_is c.args.regions.now.items c.sort_by_key.new.self.items
    (IsNonDecreasingBy-from_sort_by_key (λ (r : Region). r.start) _ sorted (λ a r q k. search rules))
    (c.sort_by_key.ensures.stable (λ (r : Region). r.start) (answers_always _ _ _ (λ f a r q k. search rules))))
    c.sort_by_key.ensures.sorted
