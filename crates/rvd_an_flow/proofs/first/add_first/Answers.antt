use Rattle.std.proofs.Common.{◌≡◌, ◌+◌, ◌++◌, [], false, drop, sym, ap, ◌∙◌, arith}
use Rattle.std.specs.Prelude.{get_or}
use Rattle.std.proofs.lemmas.List.{drop_more, drop_all}
use Rattle.rvd_ask.specs.Answers.{told}
use Rattle.rvd_an_flow.specs.Parts.{decided, decided_asks, first_asks, first_decided, is_deciding}
use Rattle.rvd_ask.proofs.Proposing.{append-nil, told-first}
use Rattle.rvd_an_flow.proofs.Steps.{first-passed, first-deciding, asks-passed, asks-deciding, decided-passed, none-decided, none-asked}
use Rattle.rvd_an_flow.proofs.first.add_first.Goals as goal

pub returns-then-branch-clause-changes : goal.returns-then-branch-clause-changes
returns-then-branch-clause-changes g c =
    let P = g.V.View.program c.args.view.now in
    let ts = c.args.starts.now in
    let i = c.loop-start.start-index in
    let t = get_or ts i 0 in
    let first : first_decided P ts ≡ decided P t = sym c.loop-start.invariant.first ∙ ap (first_decided P) (drop_more ts i 0 c.loop-start-test.true) ∙ first-deciding P t (drop (i + 1) ts) (sym c.in_ok-add_decided.ensures.answer ∙ c.if-branch.true) in
    c.in_ok-add_decided.ensures.changes ∙ ap (λ cs. cs ++ decided P t) c.loop-start.invariant.changes ∙ ap (λ cs. c.args.changes.now.items ++ cs) (sym first)

pub returns-then-branch-clause-reads : goal.returns-then-branch-clause-reads
returns-then-branch-clause-reads g c =
    let P = g.V.View.program c.args.view.now in
    let ts = c.args.starts.now in
    let i = c.loop-start.start-index in
    let t = get_or ts i 0 in
    let asks : first_asks P (drop i ts) ≡ decided_asks P t = ap (first_asks P) (drop_more ts i 0 c.loop-start-test.true) ∙ asks-deciding P t (drop (i + 1) ts) (sym c.in_ok-add_decided.ensures.answer ∙ c.if-branch.true) in
    c.in_ok-add_decided.ensures.reads ∙ ap (λ qs. c.loop-start.reads.items ++ told P qs) (sym asks) ∙ c.loop-start.invariant.reads

pub loop-start-preserved : goal.loop-start-preserved
loop-start-preserved g c =
    let P = g.V.View.program c.args.view.now in
    let ts = c.args.starts.now in
    let i = c.loop-start.start-index in
    let t = get_or ts i 0 in
    let rest = drop (i + 1) ts in
    let more = drop_more ts i 0 c.loop-start-test.true in
    let passed : is_deciding P t ≡ false = sym c.in_ok-add_decided.ensures.answer ∙ c.if-branch.false in
    record {
      reads = ap (λ rs. rs ++ told P (first_asks P rest)) c.in_ok-add_decided.ensures.reads
          ∙ told-first P c.loop-start.reads.items (decided_asks P t) (first_asks P rest) (first_asks P (drop i ts)) (ap (first_asks P) more ∙ asks-passed P t rest passed)
          ∙ c.loop-start.invariant.reads;
      changes = c.in_ok-add_decided.ensures.changes ∙ ap (λ cs. c.loop-start.changes.items ++ cs) (decided-passed P t passed) ∙ append-nil c.loop-start.changes.items ∙ c.loop-start.invariant.changes;
      first = sym (ap (first_decided P) more ∙ first-passed P t rest passed) ∙ c.loop-start.invariant.first;
    }

pub returns-clause-changes : goal.returns-clause-changes
returns-clause-changes g c =
    let P = g.V.View.program c.args.view.now in
    let ts = c.args.starts.now in
    let i = c.loop-start.start-index in
    let none : [] ≡ first_decided P ts = sym (none-decided P) ∙ sym (ap (first_decided P) (drop_all i ts (omega (arith, c.loop-start-test.false)))) ∙ c.loop-start.invariant.first in
    c.loop-start.invariant.changes ∙ sym (append-nil c.args.changes.now.items) ∙ ap (λ cs. c.args.changes.now.items ++ cs) none

pub returns-clause-reads : goal.returns-clause-reads
returns-clause-reads g c =
    let P = g.V.View.program c.args.view.now in
    let ts = c.args.starts.now in
    let i = c.loop-start.start-index in
    let none : [] ≡ first_asks P (drop i ts) = sym (ap (first_asks P) (drop_all i ts (omega (arith, c.loop-start-test.false))) ∙ none-asked P) in
    sym (append-nil c.loop-start.reads.items) ∙ ap (λ qs. c.loop-start.reads.items ++ told P qs) none ∙ c.loop-start.invariant.reads
