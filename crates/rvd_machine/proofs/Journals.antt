-- A journal that gains an entry at its end, and the parts of a journal. Use `legal-push` and `legal_part` for its legality,
-- `state-push` and `state-append` for the state after it, and `steps_after` for the entries behind a part.
use Rattle.std.proofs.Common.{◌≡◌, List, [], ◌∷◌, ◌++◌, refl}
use Rattle.rvd_journal.specs.declared.entries.Entry.{Entry}
use Rattle.rvd_machine.specs.State.{State}
use Rattle.rvd_machine.specs.Steps.{Head, start_of, state_from, state, after, IsStep, AreSteps, IsLegal}

pub state_from-push : (s : State) (J : List Entry) (e : Entry) → state_from s (J ++ e ∷ []) ≡ after (state_from s J) e
state_from-push s [] e = refl
state_from-push s (x ∷ J) e = state_from-push (after s x) J e

pub steps-push : (s : State) (J : List Entry) (e : Entry) → AreSteps s J → IsStep (state_from s J) e → AreSteps s (J ++ e ∷ [])
steps-push s [] e steps step = (step, tt)
steps-push s (x ∷ J) e steps step = (steps.0, steps-push (after s x) J e steps.1 step)

pub state-push : (h : Head) (J : List Entry) (e : Entry) → state h (J ++ e ∷ []) ≡ after (state h J) e
state-push h J e = state_from-push (start_of h) J e

pub legal-push : (h : Head) (J : List Entry) (e : Entry) → IsLegal h J → IsStep (state h J) e → IsLegal h (J ++ e ∷ [])
legal-push h J e legal step = record {
  valid = legal.valid;
  sessions = legal.sessions;
  workers = legal.workers;
  steps = steps-push (start_of h) J e legal.steps step;
}

-- ---- parts
pub state_from-append : (s : State) (J K : List Entry) → state_from s (J ++ K) ≡ state_from (state_from s J) K
state_from-append s [] K = refl
state_from-append s (e ∷ J) K = state_from-append (after s e) J K

pub steps_parts : (s : State) (J K : List Entry) → AreSteps s (J ++ K) → AreSteps s J × AreSteps (state_from s J) K
steps_parts s [] K steps = (tt, steps)
steps_parts s (e ∷ J) K steps = let rest = steps_parts (after s e) J K steps.1 in ((steps.0, rest.0), rest.1)

pub state-append : (h : Head) (J K : List Entry) → state h (J ++ K) ≡ state_from (state h J) K
state-append h J K = state_from-append (start_of h) J K

pub legal_part : (h : Head) (J K : List Entry) → IsLegal h (J ++ K) → IsLegal h J
legal_part h J K legal = record {
  valid = legal.valid;
  sessions = legal.sessions;
  workers = legal.workers;
  steps = (steps_parts (start_of h) J K legal.steps).0;
}

pub steps_after : (h : Head) (J K : List Entry) → IsLegal h (J ++ K) → AreSteps (state h J) K
steps_after h J K legal = (steps_parts (start_of h) J K legal.steps).1
