-- Proposals that were made on a program. Use `AreMadeOn` for one proposal for each of some items, in order.
use Rattle.std.specs.Prelude.{◌≡◌, List, [], ◌∷◌}
use Rattle.rvd_fact.specs.Program.{Program}
use Rattle.rvd_ask.specs.declared.asks.Item.{Item}
use Rattle.rvd_ask.specs.Answers.{Hold}
use Rattle.rvd_ask.specs.Promise.{AreAsks, Proposed}
use Rattle.rvd_ask.specs.Rules.{asks}

-- a proposal for an item that was made on a program: its reads hold there, and they ask just what the item's rule asks
pub record IsMadeOn (P : Program) (i : Item) (p : Proposed) : Type 0 where
  pub item : p.item ≡ i
  pub hold : Hold P p.reads
  pub asked : AreAsks p.reads (asks P p.item)

-- proposals that were made on a program, one for each item, in order
abbrev pub AreMadeOn : Program → List Item → List Proposed → Type 0
AreMadeOn P [] [] = Unit {0}
AreMadeOn P [] (p ∷ proposals) = ⊥
AreMadeOn P (i ∷ items) [] = ⊥
AreMadeOn P (i ∷ items) (p ∷ proposals) = IsMadeOn P i p × AreMadeOn P items proposals
