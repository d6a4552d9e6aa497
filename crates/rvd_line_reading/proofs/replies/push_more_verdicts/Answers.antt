use Rattle.std.proofs.Common.{◌≡◌, ℕ, ◌+◌, ◌-◌, true, false, List, Some, None, Err, subst, sym, ap, ◌∙◌, length, codes}
use Rattle.std.specs.Prelude.{nat_eq}
use Rattle.std.specs.List.{starts_with}
use Rattle.rvd_event.specs.declared.verdicts.Verdict.{Verdict}
use Rattle.rvd_reading.specs.declared.errors.ReadError.{ReadError}
use Rattle.rvd_reading.specs.declared.errors.ReadError.TheVariants as error
use Rattle.rvd_reading.specs.Steps.{Reads, Step}
use Rattle.rvd_reading.specs.Lists.{appended, list_of}
use Rattle.rvd_journal_reading.specs.Verdicts.{verdict_of}
use Rattle.rvd_line_reading.specs.Replies.{more_verdicts_of}
use Rattle.rvd_reading.proofs.ListSteps.{walk-end, walk-more, walk-none, walk-stop, without-none, without-some}
use Rattle.rvd_line_reading.proofs.replies.push_more_verdicts.Goals as goal

told_none : (e : ReadError) (rest : List ℕ) (step : Step Verdict) → e ≡ error.Unread → Reads rest (Err e) step → step ≡ None
told_none e rest step is reads = subst (λ (x : ReadError). Reads rest (Err x) step) is reads

pub returns-then-not-strip : goal.returns-then-not-strip
unfolding more_verdicts_of
returns-then-not-strip c =
    let n = length c.bytes-most.result.now in
    let whole = appended c.args.out.now.items (list_of n (codes " ") verdict_of c.args.rest.now) in
    let starts : starts_with nat_eq c.loop-taken.rest (codes " ") ≡ false = sym c.strip.ensures.value ∙ c.if-not-strip.true in
    let left = c.strip.ensures.rest ∙ without-none (codes " ") c.loop-taken.rest starts in
    ap (λ m. appended c.args.out.now.items (list_of (length m) (codes " ") verdict_of c.args.rest.now)) (sym c.bytes-most.ensures)
    ∙ walk-stop n c.loop-taken._taken (codes " ") verdict_of c.loop-taken.rest c.loop-taken.out.items whole c.loop-taken.invariant starts
    ∙ ap (λ b. Some (c.loop-taken.out.items, b)) (sym left)

pub returns-in-Err-Unread : goal.returns-in-Err-Unread
unfolding more_verdicts_of
returns-in-Err-Unread c =
    let n = length c.bytes-most.result.now in
    let whole = appended c.args.out.now.items (list_of n (codes " ") verdict_of c.args.rest.now) in
    let starts : starts_with nat_eq c.loop-taken.rest (codes " ") ≡ true = sym c.strip.ensures.value ∙ c.if-not-strip.false in
    let left = c.strip.ensures.rest ∙ without-some (codes " ") c.loop-taken.rest starts in
    ap (λ m. appended c.args.out.now.items (list_of (length m) (codes " ") verdict_of c.args.rest.now)) (sym c.bytes-most.ensures)
    ∙ walk-none n c.loop-taken._taken (codes " ") verdict_of c.loop-taken.rest c.loop-taken.out.items whole c.loop-taken.invariant c.loop-taken-test.true starts (ap verdict_of (sym left) ∙ told_none c.in-Err-Unread.field-0 c.verdict.new.rest (verdict_of c.strip.new.self) c.in-Err-Unread.field-0-is c.in-Err-Unread.ensures)

pub returns : goal.returns
unfolding more_verdicts_of
returns c =
    let n = length c.bytes-most.result.now in
    let whole = appended c.args.out.now.items (list_of n (codes " ") verdict_of c.args.rest.now) in
    ap (λ m. appended c.args.out.now.items (list_of (length m) (codes " ") verdict_of c.args.rest.now)) (sym c.bytes-most.ensures)
    ∙ walk-end n c.loop-taken._taken (codes " ") verdict_of c.loop-taken.rest c.loop-taken.out.items whole c.loop-taken.invariant c.loop-taken-test.false

pub loop-taken-preserved : goal.loop-taken-preserved
loop-taken-preserved c =
    let n = length c.bytes-most.result.now in
    let whole = appended c.args.out.now.items (list_of n (codes " ") verdict_of c.args.rest.now) in
    let starts : starts_with nat_eq c.loop-taken.rest (codes " ") ≡ true = sym c.strip.ensures.value ∙ c.if-not-strip.false in
    let left = c.strip.ensures.rest ∙ without-some (codes " ") c.loop-taken.rest starts in
    ap (λ items. appended items (list_of (n - (c.loop-taken._taken + 1)) (codes " ") verdict_of c.verdict.new.rest)) c.in_ok-push-in-Ok.ensures.items
    ∙ walk-more n c.loop-taken._taken (codes " ") verdict_of c.loop-taken.rest c.loop-taken.out.items whole c.in-Ok.verdict c.verdict.new.rest c.loop-taken.invariant c.loop-taken-test.true starts (ap verdict_of (sym left) ∙ c.in-Ok.ensures)
