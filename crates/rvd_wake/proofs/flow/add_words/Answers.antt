use Rattle.std.proofs.Common.{◌≡◌, ℕ, ◌-◌, ◌%◌, ◌||◌, ap, ◌∙◌, arith}
use Rattle.std.specs.Prelude.{◌==◌}
use Rattle.std.specs.List.{list_any}
use Rattle.rvd_ask.specs.Places.{word_before}
use Rattle.rvd_wake.specs.Walks.{has_place}
use Rattle.rvd_wake.proofs.Words.{word_count, words, words_are}
use Rattle.rvd_wake.proofs.flow.add_words.Goals as goal

pub returns : goal.returns
returns c = λ x below.
    let z = c.args.at in
    let p = λ (t : ℕ). x == t || x == word_before t in
    let from : c.from-at.result ≡ z = omega arith in
    let all : c.loop-k.k ≡ word_count z c.args.n = omega arith in
    c.loop-k.invariant x below ∙ ap (λ b. has_place x c.args.places.now.items || b) ((λ i. list_any p (words (from i - from i % 4) (all i))) ∙ words_are p z c.args.n c.requires)
