use Rattle.std.proofs.Common.{ℕ, ◌+◌, ap, ◌∙◌, add-zero, List, refl}
use Rattle.std.proofs.Math.ListN.{drop_of_length-le}
use Rattle.rvd_emul.specs.Machine.{newest, stored_from}
use Rattle.rvd_emul.proofs.StoredBytes.{same-next}
use Rattle.rvd_emul.proofs.stored.store.Goals as goal

pub loop-index-init : goal.loop-index-init
loop-index-init c a = rw add-zero refl

pub loop-index-preserved : goal.loop-index-preserved
loop-index-preserved c = same-next c.args.at c.loop-index.index c.args.bytes.now c.loop-index.stored (stored_from c.args.at c.args.bytes.now c.args.stored.now) c.set.new.self _ c.loop-index-test.true refl c.loop-index.invariant c.in_ok-set.ensures.ok

pub returns : goal.returns
returns c a =
    c.loop-index.invariant a ∙ ap (λ (bs : List ℕ). newest (stored_from (c.args.at + c.loop-index.index) bs c.loop-index.stored) a) (drop_of_length-le c.args.bytes.now c.loop-index-test.false)
