use Rattle.std.proofs.Common.{◌||◌}
use Rattle.std.specs.Prelude.{◌==◌}
use Rattle.std.specs.List.{list_any}
use Rattle.rvd_ask.specs.Places.{word_before}
use Rattle.rvd_wake.specs.Walks.{Gain}
use Rattle.rvd_wake.proofs.Words.{words}
use Rattle.rvd_wake.proofs.flow.add_words.Given as goal

abbrev pub invariant-loop-k : goal.invariant-loop-k
invariant-loop-k l = Gain (λ x. list_any (λ t. x == t || x == word_before t) (words l.first l.k)) l.initial.places.items l.places.items
