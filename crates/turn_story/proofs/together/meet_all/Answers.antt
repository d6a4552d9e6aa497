use Rattle.std.proofs.Common.{◌≡◌, ◌∷◌, [], ◌++◌, map, ap, ◌∙◌, sym, false, append_assoc}
use Rattle.std.proofs.lemmas.List.Elements.{All-rest}
use mathlib.Core.List.{map-append}
use Rattle.rvd_turn.specs.Known.{met_by, met_all}
use Rattle.turn_story.specs.declared.task.Done.{Done}
use Rattle.rvd_turn.proofs.Meetings.{met_all-snoc}
use Rattle.turn_story.proofs.together.meet_all.Goals as goal

pub loop-done-preserved : goal.loop-done-preserved
loop-done-preserved c =
    let i = c.loop-done.invariant in
    let m = c.meet.ensures.both in record {
      met = m ∙ ap (λ p. met_by p c.in-Some.done.pass) i.met ∙ sym (ap (met_all c.args.first.now) (map-append (λ (d : Done). d.pass) c.loop-done.yielded (c.in-Some.done ∷ [])) ∙ met_all-snoc c.args.first.now (map (λ (d : Done). d.pass) c.loop-done.yielded) c.in-Some.done.pass);
      turn_id = ap (λ p. p.turn_id) m ∙ i.turn_id;
      idle = ap (λ p. p.turn) m ∙ i.idle;
      others = All-rest (λ (d : Done). (d.pass.turn_id ≡ c.args.turn.now) × (d.pass.turn ≡ false)) c.in-Some.done c.next.new.self.rest.items c.loop-done.done-iterator.rest.items c.in-Some.ensures.steps.0 i.others;
      parts = append_assoc c.loop-done.yielded (c.in-Some.done ∷ []) c.next.new.self.rest.items ∙ ap (λ l. c.loop-done.yielded ++ l) (sym c.in-Some.ensures.steps.0) ∙ i.parts;
    }
