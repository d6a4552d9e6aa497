-- What a pass knows of its own entries, turn by turn. Use `knows_looked` behind a turn that added nothing, and `knows_added`
-- behind one that added an entry.
use Rattle.std.proofs.Common.{◌≡◌, ℕ, List, [], ◌∷◌, ◌++◌, refl, sym, ap, ◌∙◌, subst, append-nil}
use Rattle.rvd_journal.specs.declared.entries.Entry.{Entry}
use Rattle.rvd_turn.proofs.Owned.{owned_same}
use Rattle.rvd_machine.specs.Steps.{Head, start_of, state_from, state}
use Rattle.rvd_desk.specs.Turns.{Looked, Passing, TurnOf, added, by, looked}
use Rattle.rvd_machine.specs.Proper.{IsProper}
use Rattle.rvd_desk.specs.Owners.{AllBy}
use Rattle.rvd_desk.proofs.Owners.{by_longer, by_push}
use Rattle.rvd_work.specs.Working.{Knows}

-- along the story that it took
along : (h : Head) (p : Passing) (log : List Entry) → Knows h p → TurnOf p h log → AllBy IsProper p.number (start_of h) log
along h p log k t =
    let more = t.begins in
    subst (AllBy IsProper p.number (start_of h)) more.1
    (by_longer IsProper p.number (start_of h) p.seen more.0 p.own k.mine (ap (by p.number) more.1 ∙ t.mine) k.proper)

pub knows_looked : (h : Head) (p : Passing) (log : List Entry) → Knows h p → TurnOf p h log → Knows h (looked p log)
knows_looked h p log k t = record { mine = t.mine; proper = along h p log k t }

pub knows_added : (h : Head) (p : Passing) (log : List Entry) (x : Entry) → Knows h p → TurnOf p h log → x.actor ≡ p.number → IsProper (state h log) x → Knows h (added p log x)
knows_added h p log x k t is proper = record {
  mine = owned_same (λ (e : Entry). e.actor) p.number log (x ∷ []) (log ++ x ∷ []) refl (is, tt) ∙ ap (λ l. l ++ x ∷ []) t.mine;
  proper = by_push IsProper p.number (start_of h) log x (along h p log k t) (λ _. proper);
}
