use Rattle.rvd_listing.proofs.NextUnit.{next_unit_law}
use Rattle.rvd_listing.proofs.laws.next_unit_law.Goals as goal

pub returns : goal.returns
returns c = next_unit_law
