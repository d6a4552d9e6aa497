use Rattle.std.proofs.Common.{◌≡◌, ℕ, List, ◌++◌, [], ◌∷◌, subst, append_assoc, OnErr, Ok, Err}
use Rattle.rvd_notation.specs.Pieces.{Keeps}
use Rattle.rvd_notation.proofs.Kept.{Keeps-front}
use Rattle.rvd_journal_text.specs.Answers.{ask_text, answer_text}
use Rattle.rvd_journal_text.proofs.Fronts.{OnErr-front}
use Rattle.rvd_journal_text.proofs.verdicts.push_difference.Goals as goal

pub returns-in_err-push_answer-clause-err : goal.returns-in_err-push_answer-clause-err
returns-in_err-push_answer-clause-err c =
    let more : List ℕ = c.args.word.now ++ (ask_text c.args.ask.now ++ 32 ∷ []) in
    let before : c.push.new.self.items ≡ c.args.out.now.items ++ more =
    rw (c.in_ok-push.ensures.items, c.in_ok-push_ask.ensures.ok, c.in_ok-extend_from_slice.ensures.items) (simp append_assoc) in
    let front = Keeps-front c.args.out.now.items more c.push_answer.new.out.items (subst (λ old. Keeps old c.push_answer.new.out.items) before c.in_err-push_answer.ensures.err) in
    elim c.from_residual-in_err-push_answer.result as (λ r. OnErr r (Keeps c.args.out.now.items c.push_answer.new.out.items)) [ Ok _ ↦ tt | Err _ ↦ front ]

pub returns-clause-err : goal.returns-clause-err
returns-clause-err c =
    OnErr-front c.args.out.now.items (c.args.word.now ++ (ask_text c.args.ask.now ++ (32 ∷ [] ++ (answer_text c.args.ask.now c.args.first.now ++ 32 ∷ [])))) c.push-2.new.self.items c.push_answer-2.new.out.items c.push_answer-2.result
    (rw (c.in_ok-push-2.ensures.items, c.in_ok-push_answer.ensures.ok, c.in_ok-push.ensures.items, c.in_ok-push_ask.ensures.ok, c.in_ok-extend_from_slice.ensures.items) (simp append_assoc))
    c.push_answer-2.ensures.err
