use Rattle.std.proofs.lemmas.List.Sums.{AllPass-from_list_all}
use Rattle.rvd_script.specs.Legal.{is_script_line}
use Rattle.rvd_script.proofs.reading.read.Goals as goal

pub of-requires : goal.of-requires
of-requires c = record {
  count = c.in_ok-lines.ensures.count;
  lines = AllPass-from_list_all is_script_line c.in_ok-lines.lines.items c.in_ok-lines.ensures.legal;
}
