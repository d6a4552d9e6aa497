use Rattle.std.proofs.Common.{arith}
use Rattle.std.proofs.lemmas.List.Sums.{AllPass-from_list_all}
use Rattle.rvd_script.specs.Legal.{is_line}
use Rattle.rvd_script.proofs.reading.read_events.Goals as goal

pub of-requires : goal.of-requires
of-requires c = record {
  some = c.in_ok-head.ensures.some;
  sessions = c.in_ok-head.ensures.sessions;
  workers = c.in_ok-head.ensures.workers;
  count = omega (arith, c.in_ok-list.ensures.count, c.in_ok-head.ensures.first, c.in_ok-head.ensures.count);
  lines = AllPass-from_list_all (is_line c.in_ok-head.head.names.sessions c.in_ok-head.head.names.workers) c.in_ok-list.list.items c.in_ok-list.ensures.legal;
}
