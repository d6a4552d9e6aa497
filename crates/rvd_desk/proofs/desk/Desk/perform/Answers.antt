use Rattle.std.proofs.Common.{List, ◌∷◌, [], ◌++◌, ap, ◌∙◌}
use Rattle.rvd_journal.specs.declared.entries.Entry.{Entry}
use Rattle.rvd_journal.specs.Journal.{Contents}
use Rattle.rvd_machine.specs.Steps.{has_room, may_call}
use Rattle.rvd_desk.specs.Story.{Story, state_of}
use Rattle.rvd_desk.proofs.Steps.{kept_in}
use Rattle.rvd_desk.proofs.desk.Desk.perform.Goals as goal

pub invariant_of-self-2 : goal.invariant_of-self-2
invariant_of-self-2 c =
    let d : Story = record { head = record { program = c.self.inside.head.program; sessions = c.self.inside.head.sessions; workers = c.self.inside.head.workers }; journal = c.self.inside.journal.entries; halt = c.self.inside.halt } in
    let x : Entry = record { actor = c.args.actor; event = c.args.event; reply = c.in_ok-made.made.kept; settled = c.in_ok-made.made.settled } in
    kept_in d c.self.inside.machine c.perform.new.self c.args.actor c.args.event c.in_ok-made.made.kept c.in_ok-made.made.settled c.push.new.self.entries
    (ap (λ (j : Contents). j.entries) c.push.ensures ∙ ap (λ (es : List Entry). es ++ x ∷ []) c.reserve.ensures.entries)
    c.self.invariant c.in_ok-made.ensures.ok c.requires.legal
    (ap (λ (y : Story). may_call (state_of y) c.args.actor c.args.event) c.self.view_is ∙ c.requires.caller)
    (ap (λ (y : Story). has_room (state_of y) c.args.actor c.args.event) c.self.view_is ∙ c.in_ok-check_room.ensures.room)
