use Rattle.std.proofs.Common.{sym, ◌∙◌}
use Rattle.rvd_script.proofs.Joins.{body_ranges}
use Rattle.rvd_script.proofs.range_lines.ranges.Goals as goal

pub returns-clause-legal : goal.returns-clause-legal
returns-clause-legal c = body_ranges c.args.words.now c.some_ranges.new.words c.some_ranges.result (sym c.is_empty.ensures ∙ c.if-is_empty.false) c.some_ranges.ensures.value c.some_ranges.ensures.legal
