use Rattle.rvd_listing.proofs.BestSymbol.{primary_law}
use Rattle.rvd_listing.proofs.laws.primary_law.Goals as goal

pub returns : goal.returns
returns c = primary_law
