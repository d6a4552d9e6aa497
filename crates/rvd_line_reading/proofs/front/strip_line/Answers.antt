use Rattle.rvd_line_reading.proofs.FrontsBack.{takes}
use Rattle.rvd_line_reading.proofs.front.strip_line.Goals as goal

pub returns : goal.returns
returns c = takes c.args.rest.now c.args.line.now c.strip.new.self c.strip.result c.strip.ensures.value c.strip.ensures.rest
