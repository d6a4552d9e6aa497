use Rattle.std.proofs.Common.{◌≡◌, sym, ◌∙◌, suc, ◌-◌, length, arith}
use Rattle.rvd_table.proofs.Searching.{passed_gap, passed_to, tied_at}
use Rattle.rvd_table.proofs.Places.{is_key_at, is_key_gap}
use Rattle.rvd_table.proofs.place.place_of.Goals as goal

pub returns-in-Greater-clause-absent : goal.returns-in-Greater-clause-absent
returns-in-Greater-clause-absent g c =
    let above = passed_to g.K.Ord.cmp g.met.K.Ord.total c.args.key.now c.args.entries.now (length c.args.entries.now - 1) c.index-entries-count.result c.requires (omega arith) (sym c.cmp.ensures ∙ c.in-Greater.is) in
    is_key_gap g.K.Ord.cmp g.met.K.Ord.total c.args.key.now c.args.entries.now _ c.requires (passed_gap g.K.Ord.cmp c.args.key.now c.args.entries.now _ (let e : suc (length c.args.entries.now - 1) ≡ length c.args.entries.now = omega arith in e) above)

pub returns-in-Equal-clause-found : goal.returns-in-Equal-clause-found
returns-in-Equal-clause-found g c = is_key_at g.K.Ord.cmp g.met.K.Ord.total c.args.key.now c.args.entries.now _ c.requires (tied_at g.K.Ord.cmp g.met.K.Ord.total c.args.key.now c.args.entries.now _ c.index-entries-count.result c.requires (omega arith) (sym c.cmp.ensures ∙ c.in-Equal.is))
