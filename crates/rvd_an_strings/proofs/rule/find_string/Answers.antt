use Rattle.std.proofs.Common.{◌≡◌, ◌++◌, false, true, Some, None, sym, ap, ◌∙◌}
use Rattle.std.proofs.lemmas.List.{append-nil}
use Rattle.std.proofs.lemmas.Result.{on_ok_weaker}
use Rattle.rvd_ask.specs.Answers.{told}
use Rattle.rvd_ask.specs.Strings.{is_read_at, string_changes, string_len, unit_asks}
use Rattle.rvd_an_strings.proofs.Wholes.{one_reads, read_changes, three_reads, two_reads, unread_changes}
use Rattle.rvd_an_strings.proofs.rule.find_string.Given as given
use Rattle.rvd_an_strings.proofs.rule.find_string.Goals as goal

-- ---- nothing refers to the address
unread : (g : given.Over) (c : goal.Then-not-branch g) → is_read_at (g.V.View.program c.args.view.now) c.args.at ≡ false
unread g c = sym c.in_ok-is_read.ensures.answer ∙ c.if-not-branch.true

pub returns-then-not-branch-clause-changes : goal.returns-then-not-branch-clause-changes
returns-then-not-branch-clause-changes g c =
    let old = c.args.changes.now.items in
    sym (ap (λ cs. old ++ cs) (unread_changes (g.V.View.program c.args.view.now) c.args.at (unread g c)) ∙ append-nil old)

pub returns-then-not-branch-clause-reads : goal.returns-then-not-branch-clause-reads
returns-then-not-branch-clause-reads g c =
    one_reads (g.V.View.program c.args.view.now) c.args.at c.args.reads.now.items c.is_read.new.reads.items c.in_ok-is_read.ensures.reads (unread g c)

-- ---- no string is there
pub returns-in-None-clause-changes : goal.returns-in-None-clause-changes
returns-in-None-clause-changes g c =
    let P = g.V.View.program c.args.view.now in
    let old = c.args.changes.now.items in
    let read : is_read_at P c.args.at ≡ true = sym c.in_ok-is_read.ensures.answer ∙ c.if-not-branch.false in
    let none : string_len P c.args.at ≡ None = sym c.in_ok-ask_string.ensures.answer ∙ c.in-None.is in
    sym (ap (λ cs. old ++ cs) (read_changes P c.args.at read ∙ ap (string_changes P c.args.at) none) ∙ append-nil old)

pub returns-in-None-clause-reads : goal.returns-in-None-clause-reads
returns-in-None-clause-reads g c =
    two_reads (g.V.View.program c.args.view.now) c.args.at c.args.reads.now.items c.is_read.new.reads.items c.in_ok-is_read.ensures.reads
    (sym c.in_ok-is_read.ensures.answer ∙ c.if-not-branch.false)
    c.ask_string.new.reads.items c.in_ok-ask_string.ensures.reads
    (sym c.in_ok-ask_string.ensures.answer ∙ c.in-None.is)

-- ---- a string is there
pub returns-in-Some-clause-changes : goal.returns-in-Some-clause-changes
returns-in-Some-clause-changes g c =
    let P = g.V.View.program c.args.view.now in
    let old = c.args.changes.now.items in
    let read : is_read_at P c.args.at ≡ true = sym c.in_ok-is_read.ensures.answer ∙ c.if-not-branch.false in
    let some : string_len P c.args.at ≡ Some c.in-Some.len = sym c.in_ok-ask_string.ensures.answer ∙ c.in-Some.is in
    on_ok_weaker c.add_string.result
    (λ added. added ∙ sym (ap (λ cs. old ++ cs) (read_changes P c.args.at read ∙ ap (string_changes P c.args.at) some)))
    c.add_string.ensures.changes

pub returns-in-Some-clause-reads : goal.returns-in-Some-clause-reads
returns-in-Some-clause-reads g c =
    let P = g.V.View.program c.args.view.now in
    let some : string_len P c.args.at ≡ Some c.in-Some.len = sym c.in_ok-ask_string.ensures.answer ∙ c.in-Some.is in
    on_ok_weaker c.add_string.result
    (λ added. three_reads P c.args.at c.args.reads.now.items c.is_read.new.reads.items c.in_ok-is_read.ensures.reads
    (sym c.in_ok-is_read.ensures.answer ∙ c.if-not-branch.false)
    c.ask_string.new.reads.items c.in_ok-ask_string.ensures.reads
    c.add_string.new.reads.items
    (added ∙ ap (λ o. c.ask_string.new.reads.items ++ told P (unit_asks P c.args.at o)) (sym some)))
    c.add_string.ensures.reads
