use Rattle.rvd_ask.proofs.CodeAddresses.{are_codes}
use Rattle.rvd_ask.proofs.ReachWalks.{member, reached}
use Rattle.rvd_ask.proofs.laws.reach_law.Goals as goal

pub returns : goal.returns
returns c = λ S e z valid. (reached S e (are_codes S valid) z, member S e (are_codes S valid) z)
