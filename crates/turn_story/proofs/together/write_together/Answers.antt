use Rattle.std.proofs.Common.{◌≡◌, ℕ, All, map, true, false, sym, ap, ◌∙◌, subst, Some}
use Rattle.std.proofs.lemmas.List.Elements.{All-from_recursion, recursion_from_All}
use Rattle.std.specs.List.{AllByRecursion as Each}
use Rattle.std.proofs.lemmas.Option.{same_Some}
use Rattle.atomic_table.specs.Seated.{TableId}
use Rattle.rvd_turn.specs.Known.{Known, met_all}
use Rattle.turn_story.specs.declared.story.Note.{Note}
use Rattle.turn_story.specs.declared.task.Task.{Task}
use Rattle.turn_story.specs.declared.task.Done.{Done}
use Rattle.turn_story.proofs.Rounds.{ready_of, done_of, last_all, last_same, last_wrote}
use Rattle.turn_story.proofs.together.write_together.Goals as goal

abbrev K : Type 0
K = Known ℕ Note

pub work_all-requires-after_bounds : goal.work_all-requires-after_bounds
work_all-requires-after_bounds g c =
    let turn = ap (λ (p : K). p.turn_id) c.in_ok-turn.ensures in
    let h : All (λ (j : Task). j.writer.turn_id ≡ c.in_ok-turn.turn) c.in_ok-tasks.tasks.items =
    All-from_recursion (λ (j : Task). j.writer.turn_id ≡ c.in_ok-turn.turn) c.in_ok-tasks.tasks.items
    (subst (λ (z : TableId). Each (λ (j : Task). j.writer.turn_id ≡ z) c.in_ok-tasks.tasks.items) turn (ready_of c.in_ok-turn.first 1 c.in_ok-tasks.tasks.items c.args.lists.items c.in_ok-tasks.ensures.1)) in λ κs alive. h

pub meet_all-requires-clause-others : goal.meet_all-requires-clause-others
meet_all-requires-clause-others g c =
    let turn = ap (λ (p : K). p.turn_id) c.in_ok-turn.ensures in
    All-from_recursion (λ (d : Done). (d.pass.turn_id ≡ c.in_ok-turn.turn) × (d.pass.turn ≡ false)) c.in_ok-all.all.items
    (subst (λ (z : TableId). Each (λ (d : Done). (d.pass.turn_id ≡ z) × (d.pass.turn ≡ false)) c.in_ok-all.all.items) turn (done_of c.in_ok-turn.first 1 c.in_ok-tasks.tasks.items c.args.lists.items c.in_ok-all.all.items c.in_ok-tasks.ensures.1 c.in_ok-all.ensures).0)

pub close-story-requires-clause-this_turn : goal.close-story-requires-clause-this_turn
close-story-requires-clause-this_turn g c = (last_same c.in_ok-turn.first c.meet_all.new.first c.in_ok-tasks.tasks.items c.args.lists.items c.in_ok-all.all.items c.in_ok-tasks.ensures.1 c.in_ok-all.ensures (c.meet_all.ensures ∙ ap (λ (p : K). met_all p (map (λ (d : Done). d.pass) c.in_ok-all.all.items)) c.in_ok-tasks.ensures.0)).0 ∙ ap (λ (p : K). p.turn_id) c.in_ok-turn.ensures

pub close-story-requires-clause-no_turn : goal.close-story-requires-clause-no_turn
close-story-requires-clause-no_turn g c = (last_same c.in_ok-turn.first c.meet_all.new.first c.in_ok-tasks.tasks.items c.args.lists.items c.in_ok-all.all.items c.in_ok-tasks.ensures.1 c.in_ok-all.ensures (c.meet_all.ensures ∙ ap (λ (p : K). met_all p (map (λ (d : Done). d.pass) c.in_ok-all.all.items)) c.in_ok-tasks.ensures.0)).1 ∙ ap (λ (p : K). p.turn) c.in_ok-turn.ensures

pub close-story-requires-clause-all : goal.close-story-requires-clause-all
close-story-requires-clause-all g c = last_all c.in_ok-turn.first c.meet_all.new.first c.in_ok-tasks.tasks.items c.args.lists.items c.in_ok-all.all.items c.in_ok-tasks.ensures.1 c.in_ok-all.ensures (c.meet_all.ensures ∙ ap (λ (p : K). met_all p (map (λ (d : Done). d.pass) c.in_ok-all.all.items)) c.in_ok-tasks.ensures.0) (ap (λ (p : K). p.number) c.in_ok-turn.ensures)

pub returns-then-whole-clause-each : goal.returns-then-whole-clause-each
returns-then-whole-clause-each g c = last_wrote c.in_ok-turn.first c.meet_all.new.first c.in_ok-tasks.tasks.items c.args.lists.items c.in_ok-all.all.items c.in_ok-tasks.ensures.1 c.in_ok-all.ensures (c.meet_all.ensures ∙ ap (λ (p : K). met_all p (map (λ (d : Done). d.pass) c.in_ok-all.all.items)) c.in_ok-tasks.ensures.0) c.close-story.result.notes (ap (λ (p : K). p.met) c.in_ok-turn.ensures) (recursion_from_All (λ (d : Done). d.whole ≡ true) c.in_ok-all.all.items (subst (λ l. All (λ (d : Done). d.whole ≡ true) l) c.as_slice.ensures.value (c.all_whole-whole.ensures c.if-whole.true))) c.close-story.ensures.met

pub returns-then-whole-clause-title : goal.returns-then-whole-clause-title
returns-then-whole-clause-title g c =
    let same = last_same c.in_ok-turn.first c.meet_all.new.first c.in_ok-tasks.tasks.items c.args.lists.items c.in_ok-all.all.items c.in_ok-tasks.ensures.1 c.in_ok-all.ensures (c.meet_all.ensures ∙ ap (λ (p : K). met_all p (map (λ (d : Done). d.pass) c.in_ok-all.all.items)) c.in_ok-tasks.ensures.0) in
    same_Some c.close-story.result.title c.args.title (sym c.close-story.ensures.head ∙ same.2 ∙ ap (λ (p : K). p.head) c.in_ok-turn.ensures ∙ ap Some c.new.ensures.0)
