use Rattle.std.proofs.Common.{sym, ◌∙◌, subst, arith, add-one}
use Rattle.rvd_table.proofs.Searching.{IsBelowFrom, below_from_end, gap_between, passed_to, below_from, tied_at}
use Rattle.rvd_table.proofs.Places.{is_key_at, is_key_gap}
use Rattle.rvd_table.proofs.place.search.Goals as goal

pub loop-low-init : goal.loop-low-init
loop-low-init g c = record { ordered = omega arith; within = omega arith; above = tt; below = below_from_end g.K.Ord.cmp c.args.key.now c.args.entries.now }

pub loop-low-preserved-in-Less : goal.loop-low-preserved-in-Less
loop-low-preserved-in-Less g c = record {
  ordered = omega arith;
  within = omega (arith, c.loop-low.invariant.within);
  above = c.loop-low.invariant.above;
  below = below_from g.K.Ord.cmp g.met.K.Ord.total c.args.key.now c.args.entries.now _ c.index-entries-middle.result c.requires (omega (arith, c.loop-low.invariant.within)) (sym c.cmp.ensures ∙ c.in-Less.is);
}

pub returns-in-Equal-clause-found : goal.returns-in-Equal-clause-found
returns-in-Equal-clause-found g c = is_key_at g.K.Ord.cmp g.met.K.Ord.total c.args.key.now c.args.entries.now _ c.requires (tied_at g.K.Ord.cmp g.met.K.Ord.total c.args.key.now c.args.entries.now _ c.index-entries-middle.result c.requires (omega (arith, c.loop-low.invariant.within)) (sym c.cmp.ensures ∙ c.in-Equal.is))

pub loop-low-preserved : goal.loop-low-preserved
loop-low-preserved g c = record {
  ordered = omega arith;
  within = c.loop-low.invariant.within;
  above = rw add-one (passed_to g.K.Ord.cmp g.met.K.Ord.total c.args.key.now c.args.entries.now _ c.index-entries-middle.result c.requires (omega (arith, c.loop-low.invariant.within)) (sym c.cmp.ensures ∙ c.in-Greater.is));
  below = c.loop-low.invariant.below;
}

pub returns-clause-absent : goal.returns-clause-absent
returns-clause-absent g c = is_key_gap g.K.Ord.cmp g.met.K.Ord.total c.args.key.now c.args.entries.now _ c.requires (gap_between g.K.Ord.cmp c.args.key.now c.args.entries.now c.loop-low.low (omega (arith, c.loop-low.invariant.within, c.loop-low.invariant.ordered)) c.loop-low.invariant.above (subst (IsBelowFrom g.K.Ord.cmp c.args.key.now c.args.entries.now) (omega (arith, c.loop-low.invariant.ordered)) c.loop-low.invariant.below))
