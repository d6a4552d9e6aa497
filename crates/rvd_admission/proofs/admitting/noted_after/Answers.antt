use Rattle.std.proofs.Common.{sym, ap, ◌∙◌}
use Rattle.rvd_machine.specs.Moves.{settled_step}
use Rattle.rvd_admission.proofs.SessionReplies.{plain_moved, refused_moved}
use Rattle.rvd_admission.proofs.admitting.noted_after.Goals as goal

pub returns-then-is_refusal : goal.returns-then-is_refusal
returns-then-is_refusal c =
    c.settled_step.ensures ∙ sym (ap settled_step (refused_moved c.args.machine.now c.args.actor c.args.event.now c.args.reply.now (sym c.is_refusal.ensures ∙ c.if-is_refusal.true)))

pub returns : goal.returns
returns c =
    sym c.in_ok-noted.ensures
    ∙ sym (ap settled_step (plain_moved c.args.machine.now c.args.actor c.args.event.now c.args.reply.now c.requires.plain (sym c.is_refusal.ensures ∙ c.if-is_refusal.false)))
