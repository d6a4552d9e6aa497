use Rattle.rvd_ask.proofs.Listings.{listing}
use Rattle.rvd_ask.proofs.laws.listing_law.Goals as goal

pub returns : goal.returns
returns c = listing
