use Rattle.std.proofs.lemmas.Slice.Eq.{slice_eq-Decides}
use Rattle.rvd_ask.proofs.Pairs.{pair_decides}
use Rattle.rvd_ask.proofs.sameness.same_ranges.Goals as goal

pub returns : goal.returns
returns c = slice_eq-Decides pair_decides c.args.a.now c.args.b.now c.eq.result c.eq.ensures
