-- Proposals are made one by one. Use `made-push` for one more.
use Rattle.std.proofs.Common.{List, [], ◌∷◌, ◌++◌}
use Rattle.rvd_fact.specs.Program.{Program}
use Rattle.rvd_ask.specs.declared.asks.Item.{Item}
use Rattle.rvd_ask.specs.Promise.{Proposed}
use Rattle.rvd_wake.specs.Made.{AreMadeOn, IsMadeOn}

pub made-push : (P : Program) (items : List Item) (proposals : List Proposed) (i : Item) (p : Proposed) → AreMadeOn P items proposals → IsMadeOn P i p → AreMadeOn P (items ++ i ∷ []) (proposals ++ p ∷ [])
made-push P [] [] i p made one = (one, tt)
made-push P [] (q ∷ proposals) i p made one = absurd made
made-push P (j ∷ items) [] i p made one = absurd made
made-push P (j ∷ items) (q ∷ proposals) i p made one = (made.0, made-push P items proposals i p made.1 one)
