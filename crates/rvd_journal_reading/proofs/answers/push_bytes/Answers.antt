use Rattle.std.proofs.Common.{◌+◌, ◌-◌, [], ap, ◌∙◌, refl}
use Rattle.rvd_reading.specs.Lists.{appended, list_of}
use Rattle.rvd_reading.proofs.ListSteps.{walk-end, walk-more, walk-none}
use Rattle.rvd_journal_reading.specs.Answers.{bytes_of, hex2_of}
use Rattle.rvd_journal_reading.proofs.answers.push_bytes.Goals as goal

pub returns-in-Err : goal.returns-in-Err
unfolding bytes_of
returns-in-Err c =
    let whole = appended c.args.out.now.items (list_of c.args.count [] hex2_of c.args.rest.now) in
    walk-none c.args.count c.loop-taken._taken [] hex2_of c.loop-taken.rest c.loop-taken.out.items whole c.loop-taken.invariant c.loop-taken-test.true refl c.in-Err.ensures

pub returns : goal.returns
unfolding bytes_of
returns c =
    let whole = appended c.args.out.now.items (list_of c.args.count [] hex2_of c.args.rest.now) in
    walk-end c.args.count c.loop-taken._taken [] hex2_of c.loop-taken.rest c.loop-taken.out.items whole c.loop-taken.invariant c.loop-taken-test.false

pub loop-taken-preserved : goal.loop-taken-preserved
loop-taken-preserved c =
    let whole = appended c.args.out.now.items (list_of c.args.count [] hex2_of c.args.rest.now) in
    ap (λ items. appended items (list_of (c.args.count - (c.loop-taken._taken + 1)) [] hex2_of c.hex2.new.rest)) c.in_ok-push-in-Ok.ensures.items
    ∙ walk-more c.args.count c.loop-taken._taken [] hex2_of c.loop-taken.rest c.loop-taken.out.items whole c.in-Ok.byte c.hex2.new.rest c.loop-taken.invariant c.loop-taken-test.true refl c.in-Ok.ensures
