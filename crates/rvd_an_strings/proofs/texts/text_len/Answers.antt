use Rattle.std.proofs.Common.{◌<◌, ◌≤◌, arith}
use Rattle.std.specs.Prelude.{min}
use Rattle.rvd_an_strings.proofs.TextSteps.{done_len, done_reads, more_len, more_reads, other_len, other_reads, place, zero_len, zero_reads}
use Rattle.rvd_an_strings.proofs.texts.text_len.Goals as goal

pub overflow_add-at : goal.overflow_add-at
overflow_add-at g c =
    let P = g.V.View.program c.args.view.now in
    let d = c.loop-offset.offset in
    let low : d < min c.args.room 256 = omega arith in
    let inside = place P c.requires.valid c.args.at c.args.room d c.requires.room low in
    omega (arith, inside)

pub returns-then-eq-clause-answer : goal.returns-then-eq-clause-answer
returns-then-eq-clause-answer g c =
    let P = g.V.View.program c.args.view.now in
    let low : c.loop-offset.offset < min c.args.room 256 = omega arith in
    zero_len P c.requires.valid c.args.at c.args.room c.loop-offset.offset c.requires.room low c.in_ok-byte.byte c.in_ok-byte.ensures.answer c.loop-offset.invariant.len c.if-eq.ensures

pub returns-then-eq-clause-reads : goal.returns-then-eq-clause-reads
returns-then-eq-clause-reads g c =
    let P = g.V.View.program c.args.view.now in
    let low : c.loop-offset.offset < min c.args.room 256 = omega arith in
    zero_reads P c.requires.valid c.args.at c.args.room c.loop-offset.offset c.requires.room low c.in_ok-byte.byte c.in_ok-byte.ensures.answer
    c.loop-offset.reads.items c.ask_byte.new.reads.items c.args.reads.now.items c.in_ok-byte.ensures.reads c.loop-offset.invariant.reads c.if-eq.ensures

pub returns-then-not-is_text-clause-answer : goal.returns-then-not-is_text-clause-answer
returns-then-not-is_text-clause-answer g c =
    let P = g.V.View.program c.args.view.now in
    let low : c.loop-offset.offset < min c.args.room 256 = omega arith in
    other_len P c.requires.valid c.args.at c.args.room c.loop-offset.offset c.requires.room low c.in_ok-byte.byte c.in_ok-byte.ensures.answer c.loop-offset.invariant.len c.if-eq.ensures c.if-not-is_text.ensures

pub returns-then-not-is_text-clause-reads : goal.returns-then-not-is_text-clause-reads
returns-then-not-is_text-clause-reads g c =
    let P = g.V.View.program c.args.view.now in
    let low : c.loop-offset.offset < min c.args.room 256 = omega arith in
    other_reads P c.requires.valid c.args.at c.args.room c.loop-offset.offset c.requires.room low c.in_ok-byte.byte c.in_ok-byte.ensures.answer
    c.loop-offset.reads.items c.ask_byte.new.reads.items c.args.reads.now.items c.in_ok-byte.ensures.reads c.loop-offset.invariant.reads c.if-not-is_text.ensures

pub loop-offset-preserved : goal.loop-offset-preserved
loop-offset-preserved g c =
    let P = g.V.View.program c.args.view.now in
    let low : c.loop-offset.offset < min c.args.room 256 = omega arith in
    record {
      reads = more_reads P c.requires.valid c.args.at c.args.room c.loop-offset.offset c.requires.room low c.in_ok-byte.byte c.in_ok-byte.ensures.answer
          c.loop-offset.reads.items c.ask_byte.new.reads.items c.args.reads.now.items c.in_ok-byte.ensures.reads c.loop-offset.invariant.reads c.if-not-is_text.ensures;
      len = more_len P c.requires.valid c.args.at c.args.room c.loop-offset.offset c.requires.room low c.in_ok-byte.byte c.in_ok-byte.ensures.answer c.loop-offset.invariant.len c.if-eq.ensures c.if-not-is_text.ensures;
    }

pub returns-clause-answer : goal.returns-clause-answer
returns-clause-answer g c =
    let high : min c.args.room 256 ≤ c.loop-offset.offset = omega arith in
    done_len (g.V.View.program c.args.view.now) c.requires.valid c.args.at c.args.room c.loop-offset.offset c.requires.room high c.loop-offset.invariant.len

pub returns-clause-reads : goal.returns-clause-reads
returns-clause-reads g c =
    let high : min c.args.room 256 ≤ c.loop-offset.offset = omega arith in
    done_reads (g.V.View.program c.args.view.now) c.requires.valid c.args.at c.args.room c.loop-offset.offset c.requires.room c.loop-offset.reads.items c.args.reads.now.items high c.loop-offset.invariant.reads
