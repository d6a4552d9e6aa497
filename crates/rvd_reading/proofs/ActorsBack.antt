-- Actors and ranges are read back.
use Rattle.std.proofs.Common.{◌≡◌, ℕ, ◌+◌, ◌-◌, ◌^◌, ◌<◌, ◌≤◌, true, false, ◌&&◌, List, ◌++◌, Option, Some, codes, refl, ap, ◌∙◌, arith, append_assoc}
use Rattle.std.specs.Prelude.{nat_le, nat_lt}
use Rattle.std.proofs.lemmas.Bool.{cond_both}
use Rattle.std.proofs.lemmas.Bool.Decides.{nat_tests}
use Rattle.rvd_text.specs.Hex.{hex8}
use Rattle.rvd_event.specs.declared.queries.Names.{Names}
use Rattle.rvd_notation.specs.Words.{range_text}
use Rattle.rvd_notation.specs.Actors.{actor_text}
use Rattle.rvd_reading.specs.Steps.{◌>>=◌}
use Rattle.rvd_reading.specs.Numbers.{begins_with_digit}
use Rattle.rvd_reading.specs.Actors.{actor_of, placed}
use Rattle.rvd_reading.specs.Lists.{range_of}
use Rattle.rvd_reading.specs.Laws.{PlaceLaw}
use Rattle.rvd_reading.proofs.NumbersBack.{hex8-back, number-back}

-- an actor in its place
placed-is : (others n : ℕ) (rest : List ℕ) → 0 < n → others + n < 2 ^ 32 → placed others (n, rest) ≡ Some (others + n, rest)
placed-is others n rest some small =
    let fits : (nat_lt 0 n && nat_lt (others + n) 4294967296) ≡ true = grind (arith, nat_tests) in
    rw fits refl

-- the tests of a session, and of a worker
session : (names : Names) (actor : ℕ) → (nat_le 1 actor && nat_le actor names.sessions) ≡ true → actor ≤ names.sessions
session names actor h = grind (arith, nat_tests)

worker : (names : Names) (actor : ℕ) → 0 < actor → (nat_le 1 actor && nat_le actor names.sessions) ≡ false → names.sessions < actor
worker names actor some h = grind (arith, nat_tests)

pub actor-back : (names : Names) (actor : ℕ) (rest : List ℕ) → 0 < actor → actor ≤ names.sessions + names.workers → actor < 2 ^ 32 → begins_with_digit rest ≡ false → actor_of names (actor_text names actor ++ rest) ≡ Some (actor, rest)
unfolding actor_of
actor-back names actor rest some most small none =
    let Read : List ℕ → Type 0 = λ w. actor_of names (w ++ rest) ≡ Some (actor, rest) in
    cond_both (nat_le 1 actor && nat_le actor names.sessions) _ _ Read
    (λ h.
    ap (λ (o : Option (ℕ × List ℕ)). o >>= placed 0) (number-back names.sessions actor rest (session names actor h) (omega arith) none)
    ∙ placed-is 0 actor rest some (omega arith)
    ∙ ap (λ (m : ℕ). let o : Option (ℕ × List ℕ) = Some (m, rest) in o) (omega arith))
    (λ h.
    let above = worker names actor some h in
    ap (λ (o : Option (ℕ × List ℕ)). o >>= placed names.sessions) (number-back names.workers (actor - names.sessions) rest (omega arith) (omega arith) none)
    ∙ placed-is names.sessions (actor - names.sessions) rest (omega arith) (omega arith)
    ∙ ap (λ (m : ℕ). let o : Option (ℕ × List ℕ) = Some (m, rest) in o) (omega arith))

pub range-back : (r : ℕ × ℕ) (rest : List ℕ) → r.0 < 2 ^ 32 → r.1 < 2 ^ 32 → range_of (range_text r ++ rest) ≡ Some (r, rest)
unfolding range_of
range-back r rest first last =
    let flat : range_text r ++ rest ≡ hex8 r.0 ++ (codes "-" ++ (hex8 r.1 ++ rest)) = simp append_assoc in
    let low = hex8-back r.0 (codes "-" ++ (hex8 r.1 ++ rest)) first in
    let high = hex8-back r.1 rest last in
    rw (flat, low, high) refl

pub place_law : PlaceLaw
place_law = record { actor = actor-back; range = range-back }
