use Rattle.std.proofs.Common.{◌≡◌, ◌+◌, ◌-◌, true, false, sym, ap, ◌∙◌, length, codes}
use Rattle.std.specs.Prelude.{nat_eq}
use Rattle.std.specs.List.{starts_with}
use Rattle.rvd_reading.specs.Lists.{appended}
use Rattle.rvd_line_reading.specs.Edits.{range_words_of, ranges_to}
use Rattle.rvd_line_reading.proofs.RangeSteps.{walk-end, walk-more, walk-none, walk-stop}
use Rattle.rvd_line_reading.proofs.range_words.push_range_words.Goals as goal

pub returns-then-has_sign : goal.returns-then-has_sign
unfolding range_words_of
returns-then-has_sign c =
    let n = length c.bytes-most.result.now in
    let whole = appended c.args.out.now.items (ranges_to n c.args.rest.now) in
    let starts : starts_with nat_eq c.loop-taken.rest (codes " =") ≡ true = sym c.has_sign.ensures ∙ c.if-has_sign.true in
    ap (λ m. appended c.args.out.now.items (ranges_to (length m) c.args.rest.now)) (sym c.bytes-most.ensures)
    ∙ walk-stop n c.loop-taken._taken c.loop-taken.rest c.loop-taken.out.items whole c.loop-taken.invariant starts

pub returns-in-Err : goal.returns-in-Err
unfolding range_words_of
returns-in-Err c =
    let n = length c.bytes-most.result.now in
    let whole = appended c.args.out.now.items (ranges_to n c.args.rest.now) in
    let starts : starts_with nat_eq c.loop-taken.rest (codes " =") ≡ false = sym c.has_sign.ensures ∙ c.if-has_sign.false in
    ap (λ m. appended c.args.out.now.items (ranges_to (length m) c.args.rest.now)) (sym c.bytes-most.ensures)
    ∙ walk-none n c.loop-taken._taken c.loop-taken.rest c.loop-taken.out.items whole c.loop-taken.invariant c.loop-taken-test.true starts c.in-Err.ensures

pub returns : goal.returns
unfolding range_words_of
returns c =
    let n = length c.bytes-most.result.now in
    let whole = appended c.args.out.now.items (ranges_to n c.args.rest.now) in
    ap (λ m. appended c.args.out.now.items (ranges_to (length m) c.args.rest.now)) (sym c.bytes-most.ensures)
    ∙ walk-end n c.loop-taken._taken c.loop-taken.rest c.loop-taken.out.items whole c.loop-taken.invariant c.loop-taken-test.false

pub loop-taken-preserved : goal.loop-taken-preserved
loop-taken-preserved c =
    let n = length c.bytes-most.result.now in
    let whole = appended c.args.out.now.items (ranges_to n c.args.rest.now) in
    let starts : starts_with nat_eq c.loop-taken.rest (codes " =") ≡ false = sym c.has_sign.ensures ∙ c.if-has_sign.false in
    ap (λ items. appended items (ranges_to (n - (c.loop-taken._taken + 1)) c.next_range.new.rest)) c.in_ok-push-in-Ok.ensures.items
    ∙ walk-more n c.loop-taken._taken c.loop-taken.rest c.loop-taken.out.items whole c.in-Ok.range c.next_range.new.rest c.loop-taken.invariant c.loop-taken-test.true starts c.in-Ok.ensures
