-- The latest read of a session. Use `shows_still` where the pass has seen more, `shows_after` behind a reply, and `never_fewer`
-- for its number of steps.
use Rattle.std.proofs.Common.{◌≤◌, List, ◌++◌, Option, Some, None, refl, subst, arith}
use Rattle.rvd_journal.specs.declared.entries.Entry.{Entry}
use Rattle.rvd_machine.specs.Running.{KeepsSteps, StepsStay}
use Rattle.rvd_machine.specs.Steps.{Head, state}
use Rattle.rvd_machine.proofs.Readings.{longer}
use Rattle.rvd_turn.specs.Story.{IsPrefix}
use Rattle.rvd_turn.proofs.Prefixes.{prefix_trans}
use Rattle.rvd_desk.specs.declared.snapshots.Snapshot.{Snapshot}
use Rattle.rvd_desk.specs.Shown.{latest}
use Rattle.rvd_desk.proofs.Shown.{ShowsSome}
use Rattle.rvd_session.specs.Sitting.{IsReadIn}

pub shows_still : (h : Head) (seen more : List Entry) (x : Snapshot) → IsPrefix seen more → IsReadIn h seen x → IsReadIn h more x
shows_still h seen more x p r = record { part = r.part; begins = prefix_trans r.part seen more r.begins p; shows = r.shows }

pub shows_after : (h : Head) (log more : List Entry) (x : Snapshot) (o : Option Snapshot) → ShowsSome (state h log) o → IsReadIn h log x → IsReadIn h (log ++ more) (latest x o)
shows_after h log more x None some old = shows_still h log (log ++ more) x (more, refl) old
shows_after h log more x (Some y) some old = record { part = log; begins = (more, refl); shows = some }

pub never_fewer : StepsStay → (h : Head) (log : List Entry) (x : Snapshot) (o : Option Snapshot) → ShowsSome (state h log) o → IsReadIn h log x → x.steps ≤ (latest x o).steps
never_fewer stay h log x None some old = omega arith
never_fewer stay h log x (Some y) some old =
    let keeps : KeepsSteps (state h old.part) (state h log) = subst (λ (J : List Entry). KeepsSteps (state h old.part) (state h J)) old.begins.1 (stay h old.part old.begins.0) in
    let le = longer (state h old.part) (state h log) keeps in
    let first = old.shows.steps in
    let then_ = some.steps in
    omega (arith, le, first, then_)
