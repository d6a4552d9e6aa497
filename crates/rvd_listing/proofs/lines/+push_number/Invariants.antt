use Rattle.std.proofs.Common.{length}
use Rattle.rvd_listing.proofs.lines.+push_number.Given as goal

-- the bytes that are left
abbrev pub decreases-push_number : goal.decreases-push_number
decreases-push_number l = length l.bytes.now
