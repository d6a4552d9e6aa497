use Rattle.std.proofs.Common.{length}
use Rattle.rvd_top.proofs.fetching.+fetch_files.Given as goal

abbrev pub decreases-fetch_files : goal.decreases-fetch_files
decreases-fetch_files g l = length l.names.now
