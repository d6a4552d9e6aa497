use Rattle.rvd_line_reading.proofs.FrontsBack.{front_law}
use Rattle.rvd_line_reading.proofs.laws.front_law.Goals as goal

pub returns : goal.returns
returns c = front_law
