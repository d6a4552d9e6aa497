-- An actor's newest entry is the last of its entries. Use `newest_is` where a search from the end has met an entry of the
-- actor, with none behind it.
use Rattle.std.proofs.Common.{◌≡◌, ℕ, zero, suc, ◌+◌, ◌-◌, ◌<◌, ◌≤◌, true, cond, List, [], ◌∷◌, length, drop, get_or, eqb, ltb, refl, ap, arith}
use Rattle.std.specs.Prelude.{remove}
use Rattle.std.proofs.lemmas.Bool.{eq-eqb}
use Rattle.std.proofs.lemmas.Bool.Decides.{nat_tests}
use Rattle.std.proofs.lemmas.List.Sums.{sum_by-cons}
use Rattle.rvd_trans.specs.declared.entries.Entry.{Entry}
use Rattle.rvd_trans.specs.Entries.{count_of, has_of, without_newest}

-- one more entry in front
count_of-cons : (actor : ℕ) (x : Entry) (es : List Entry) → count_of actor (x ∷ es) ≡ cond (eqb x.actor actor) 1 0 + count_of actor es
count_of-cons actor x es = sum_by-cons (λ (e : Entry). cond (eqb e.actor actor) 1 0) x es

-- a positive number passes the test for one
above_zero : (n : ℕ) → 0 < n → ltb 0 n ≡ true
above_zero n h = grind (arith, nat_tests)

-- an entry at a place is counted
count_of-at : (actor : ℕ) (es : List Entry) (place : ℕ) (e : Entry) → place < length es → (get_or es place e).actor ≡ actor → 0 < count_of actor es
count_of-at actor [] place e within mine = absurd (omega (arith, within))
count_of-at actor (x ∷ es) zero e within mine =
    let test : eqb x.actor actor ≡ true = eq-eqb x.actor actor mine in
    rw (count_of-cons actor x es, test) (omega arith)
count_of-at actor (x ∷ es) (suc place) e within mine =
    let there : 0 < count_of actor es = count_of-at actor es place e (omega (arith, within)) mine in
    rw (count_of-cons actor x es) (omega (arith, there))

-- taking away an entry with none of the actor's behind it
remove-newest : (actor : ℕ) (es : List Entry) (place : ℕ) (e : Entry) → place < length es → count_of actor (drop (suc place) es) ≡ 0 → (get_or es place e).actor ≡ actor → remove es place ≡ without_newest actor es
remove-newest actor [] place e within last mine = absurd (omega (arith, within))
remove-newest actor (x ∷ es) zero e within last mine =
    let test : eqb x.actor actor ≡ true = eq-eqb x.actor actor mine in
    let none : count_of actor es ≡ 0 = last in
    rw (none, test) refl
remove-newest actor (x ∷ es) (suc place) e within last mine =
    let here : place < length es = omega (arith, within) in
    let has : has_of actor es ≡ true = above_zero (count_of actor es) (count_of-at actor es place e here mine) in
    rw has (ap (λ (ys : List Entry). x ∷ ys) (remove-newest actor es place e here last mine))

-- the entry before the first place from which on the actor has none
pub newest_is : (actor : ℕ) (es : List Entry) (place : ℕ) (e : Entry) → 0 < place → place ≤ length es → count_of actor (drop place es) ≡ 0 → (get_or es (place - 1) e).actor ≡ actor → (place - 1 < length es) × (has_of actor es ≡ true) × (remove es (place - 1) ≡ without_newest actor es)
newest_is actor es zero e some within last mine = absurd (omega (arith, some))
newest_is actor es (suc place) e some within last mine =
    let before : suc place - 1 ≡ place = omega arith in
    let here : place < length es = omega (arith, within) in
    let at : (get_or es place e).actor ≡ actor = rw before at mine in
    rw before (here, above_zero (count_of actor es) (count_of-at actor es place e here at), remove-newest actor es place e here last at)
