use Rattle.std.proofs.Common.{◌≡◌, ℕ, [], sym, ap, ◌∙◌, append-nil}
use Rattle.std.proofs.lemmas.List.Elements.{All-nil}
use Rattle.bench_turn.proofs.locks.take_and_give.Goals as goal

pub give-requires-clause-entries : goal.give-requires-clause-entries
give-requires-clause-entries g c = ([], sym (append-nil c.take-value.new.pass.seen ∙ ap (λ p. p.seen) c.take-value.ensures.pass), All-nil (λ (e : ℕ). e ≡ c.take-value.new.pass.number))
