use Rattle.std.proofs.Common.{◌≡◌, ◌+◌, ◌-◌, true, false, Some, sym, ap, ◌∙◌, length, codes}
use Rattle.std.specs.Prelude.{nat_eq}
use Rattle.std.specs.List.{starts_with}
use Rattle.rvd_reading.specs.Lists.{appended, list_of}
use Rattle.rvd_line_reading.specs.Replies.{items_of, item_of}
use Rattle.rvd_reading.proofs.ListSteps.{walk-end, walk-more, walk-none, walk-stop, without-none, without-some}
use Rattle.rvd_line_reading.proofs.replies.push_items.Goals as goal

pub returns-then-not-strip : goal.returns-then-not-strip
unfolding items_of
returns-then-not-strip c =
    let n = length c.bytes-most.result.now in
    let whole = appended c.args.out.now.items (list_of n (codes " ") item_of c.args.rest.now) in
    let starts : starts_with nat_eq c.loop-taken.rest (codes " ") ≡ false = sym c.strip.ensures.value ∙ c.if-not-strip.true in
    let left = c.strip.ensures.rest ∙ without-none (codes " ") c.loop-taken.rest starts in
    ap (λ m. appended c.args.out.now.items (list_of (length m) (codes " ") item_of c.args.rest.now)) (sym c.bytes-most.ensures)
    ∙ walk-stop n c.loop-taken._taken (codes " ") item_of c.loop-taken.rest c.loop-taken.out.items whole c.loop-taken.invariant starts
    ∙ ap (λ b. Some (c.loop-taken.out.items, b)) (sym left)

pub returns-in-Err : goal.returns-in-Err
unfolding items_of
returns-in-Err c =
    let n = length c.bytes-most.result.now in
    let whole = appended c.args.out.now.items (list_of n (codes " ") item_of c.args.rest.now) in
    let starts : starts_with nat_eq c.loop-taken.rest (codes " ") ≡ true = sym c.strip.ensures.value ∙ c.if-not-strip.false in
    let left = c.strip.ensures.rest ∙ without-some (codes " ") c.loop-taken.rest starts in
    ap (λ m. appended c.args.out.now.items (list_of (length m) (codes " ") item_of c.args.rest.now)) (sym c.bytes-most.ensures)
    ∙ walk-none n c.loop-taken._taken (codes " ") item_of c.loop-taken.rest c.loop-taken.out.items whole c.loop-taken.invariant c.loop-taken-test.true starts (ap item_of (sym left) ∙ c.in-Err.ensures)

pub returns : goal.returns
unfolding items_of
returns c =
    let n = length c.bytes-most.result.now in
    let whole = appended c.args.out.now.items (list_of n (codes " ") item_of c.args.rest.now) in
    ap (λ m. appended c.args.out.now.items (list_of (length m) (codes " ") item_of c.args.rest.now)) (sym c.bytes-most.ensures)
    ∙ walk-end n c.loop-taken._taken (codes " ") item_of c.loop-taken.rest c.loop-taken.out.items whole c.loop-taken.invariant c.loop-taken-test.false

pub loop-taken-preserved : goal.loop-taken-preserved
loop-taken-preserved c =
    let n = length c.bytes-most.result.now in
    let whole = appended c.args.out.now.items (list_of n (codes " ") item_of c.args.rest.now) in
    let starts : starts_with nat_eq c.loop-taken.rest (codes " ") ≡ true = sym c.strip.ensures.value ∙ c.if-not-strip.false in
    let left = c.strip.ensures.rest ∙ without-some (codes " ") c.loop-taken.rest starts in
    ap (λ items. appended items (list_of (n - (c.loop-taken._taken + 1)) (codes " ") item_of c.item.new.rest)) c.in_ok-push-in-Ok.ensures.items
    ∙ walk-more n c.loop-taken._taken (codes " ") item_of c.loop-taken.rest c.loop-taken.out.items whole c.in-Ok.item c.item.new.rest c.loop-taken.invariant c.loop-taken-test.true starts (ap item_of (sym left) ∙ c.in-Ok.ensures)
