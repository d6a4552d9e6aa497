-- The actors of an event file. Use `of_actor` for a line that one of them may have.
use Rattle.std.proofs.Common.{◌≡◌, ℕ, ◌+◌, Bool, true, false, ◌||◌, refl, arith}
use Rattle.std.proofs.lemmas.Bool.{and_from, or_left, le-leb, lt-ltb, or_right}
use Rattle.rvd_event.specs.declared.queries.Names.{Names}
use Rattle.rvd_script.specs.declared.actor_lines.Actor.{Actor}
use Rattle.rvd_script.specs.declared.actor_lines.Actor.TheVariants.{Session, Worker}
use Rattle.rvd_script.specs.declared.script_lines.What1.{What1}
use Rattle.rvd_script.specs.Files.{actor_number}
use Rattle.rvd_script.specs.Legal.{IsActor, is_actor_what, is_of_actor}

pub of_actor : (names : Names) (actor : Actor) (number : ℕ) (what : What1) → IsActor names actor → is_actor_what actor what ≡ true → number ≡ actor_number names actor → is_of_actor names.sessions names.workers number what ≡ true
of_actor names (Session k) number what is legal same = rw same (or_left _ _ (and_from _ _ (le-leb 1 k is.0) (and_from _ _ (le-leb k names.sessions is.1) legal)))
of_actor names (Worker k) number what is legal same = rw same (or_right _ _ (and_from _ _ (lt-ltb names.sessions (names.sessions + k) (omega (arith, is.0))) (and_from _ _ (le-leb (names.sessions + k) (names.sessions + names.workers) (omega (arith, is.1))) legal)))
