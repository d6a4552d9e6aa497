use Rattle.std.proofs.Common.{◌≡◌, ℕ, ◌+◌, ◌++◌, ◌∷◌, [], length, length-append, sym, ap, ◌∙◌, subst, arith, append_assoc}
use Rattle.rvd_turn.specs.Known.{Known, split_off}
use Rattle.turn_story.specs.declared.story.Note.{Note}
use Rattle.turn_story.specs.declared.task.Task.{Task}
use Rattle.turn_story.specs.Runs.{AreReady, split_at}
use Rattle.turn_story.proofs.Rounds.{AreReady-snoc}
use Rattle.turn_story.proofs.together.split_all.Goals as goal

abbrev K : Type 0
K = Known ℕ Note

pub loop-numbers-preserved : goal.loop-numbers-preserved
loop-numbers-preserved c =
    let i = c.loop-numbers.invariant in
    let n : length (c.loop-numbers.yielded ++ c.in-Some.numbers ∷ []) ≡ length c.loop-numbers.yielded + 1 = length-append c.loop-numbers.yielded (c.in-Some.numbers ∷ []) in
    let k = i.owner in
    let j : Task = record { writer = c.new-writer.result; numbers = c.in-Some.numbers } in
    let given : c.new-writer.result ≡ split_at c.args.first.now (1 + length c.loop-numbers.yielded) =
    c.new-writer.ensures ∙ c.in_ok-split.ensures.given ∙ ap split_off i.first ∙ ap (split_at c.args.first.now) (let e : length c.loop-numbers.yielded + 1 ≡ 1 + length c.loop-numbers.yielded = omega arith in e) in
    record {
      first = c.in_ok-split.ensures.kept ∙ ap (λ (p : K). record p { made = p.made + 1 }) i.first ∙ ap (λ m. record c.args.first.now { made = m + 1 }) (sym n);
      owner = omega arith;
      ready = subst (λ js. AreReady c.args.first.now 1 js (c.loop-numbers.yielded ++ c.in-Some.numbers ∷ [])) (sym c.in_ok-push.ensures.items)
          (AreReady-snoc c.args.first.now 1 c.loop-numbers.tasks.items c.loop-numbers.yielded j c.in-Some.numbers i.ready given (λ _. c.in-Some.numbers));
      parts = append_assoc c.loop-numbers.yielded (c.in-Some.numbers ∷ []) c.next.new.self.rest.items ∙ ap (λ l. c.loop-numbers.yielded ++ l) (sym c.in-Some.ensures.steps.0) ∙ i.parts;
    }
