-- What holds of each entry of one actor, in the state before it. Use `AllBy` for what a pass knows of its own entries along what
-- it has seen, and `AllAlong` for each entry.
use Rattle.std.specs.Prelude.{◌≡◌, ℕ, List, [], ◌∷◌}
use Rattle.rvd_journal.specs.declared.entries.Entry.{Entry}
use Rattle.rvd_machine.specs.State.{State}
use Rattle.rvd_machine.specs.Steps.{after}

-- each entry of an actor meets a test with the state before it, where s is the state before these entries
abbrev pub AllBy : (State → Entry → Type 0) → ℕ → State → List Entry → Type 0
AllBy P actor s [] = Unit {0}
AllBy P actor s (e ∷ es) = (e.actor ≡ actor → P s e) × AllBy P actor (after s e) es

-- each entry does
abbrev pub AllAlong : (State → Entry → Type 0) → State → List Entry → Type 0
AllAlong P s [] = Unit {0}
AllAlong P s (e ∷ es) = P s e × AllAlong P (after s e) es
