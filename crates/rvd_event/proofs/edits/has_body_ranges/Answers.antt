use Rattle.std.proofs.Common.{rules}
use Rattle.rvd_fact.proofs.RangeLists.{are_ranges_test}
use Rattle.rvd_event.proofs.edits.has_body_ranges.Goals as goal

pub returns-then-count-ge1 : goal.returns-then-count-ge1
returns-then-count-ge1 c = search (rules, are_ranges_test)
