use Rattle.std.proofs.Common.{Bool, [], ◌∷◌, ◌++◌, ap, sym, subst, ◌∙◌}
use Rattle.rvd_journal_text.specs.Lines.{head_line}
use Rattle.rvd_line_reading.specs.Front.{Takes, head_of}
use Rattle.rvd_line_reading.proofs.FrontsBack.{no_sessions, other_head, unread_head}
use Rattle.rvd_line_reading.proofs.front.read_head.Goals as goal

pub returns-in-Err : goal.returns-in-Err
returns-in-Err c = unread_head c.args.rest.now (ap head_of (sym (c.of-copy.ensures ∙ c.bytes.ensures)) ∙ c.in-Err.ensures.value)

pub returns-then-names-eq0 : goal.returns-then-names-eq0
returns-then-names-eq0 c = no_sessions c.args.rest.now c.head.new.rest c.in-Ok.names (ap head_of (sym (c.of-copy.ensures ∙ c.bytes.ensures)) ∙ c.in-Ok.ensures.value) c.if-names-eq0.true

pub returns-else-branch : goal.returns-else-branch
returns-else-branch c =
    other_head c.args.rest.now c.head.new.rest c.in-Ok.names (ap head_of (sym (c.of-copy.ensures ∙ c.bytes.ensures)) ∙ c.in-Ok.ensures.value)
    (subst (λ (found : Bool). Takes c.args.rest.now (head_line c.in-Ok.names ++ 10 ∷ []) c.strip_head.new.rest found) c.if-branch.false c.in_ok-strip_head.ensures)
