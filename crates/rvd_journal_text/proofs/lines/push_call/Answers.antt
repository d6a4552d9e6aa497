use Rattle.std.proofs.Common.{◌++◌, [], ◌∷◌, codes, append_assoc}
use Rattle.rvd_notation.specs.Actors.{actor_text}
use Rattle.rvd_journal_text.specs.Events.{event_text}
use Rattle.rvd_journal_text.proofs.Fronts.{OnErr-front}
use Rattle.rvd_journal_text.proofs.lines.push_call.Goals as goal

pub returns-clause-err : goal.returns-clause-err
returns-clause-err c =
    OnErr-front c.args.out.now.items (actor_text c.args.names c.args.entry.now.actor ++ (32 ∷ [] ++ (event_text c.args.entry.now.event ++ codes " = "))) c.extend_from_slice.new.self.items c.push_reply.new.out.items c.push_reply.result
    (rw (c.in_ok-extend_from_slice.ensures.items, c.in_ok-push_event.ensures.ok, c.in_ok-push.ensures.items, c.in_ok-push_actor.ensures.ok) (simp append_assoc))
    c.push_reply.ensures.err
