use Rattle.rvd_decode.proofs.Rows.{one_row}
use Rattle.rvd_decode.proofs.table.no_two_rows.Goals as goal

pub returns : goal.returns
returns c = one_row
