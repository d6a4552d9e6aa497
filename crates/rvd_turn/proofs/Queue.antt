-- The queue of numbers and its tickets, which count modulo 2^64. Use it where a step draws, compares or serves a ticket.
use Rattle.std.proofs.Common.{◌≡◌, ℕ, ◌+◌, ◌%◌, ◌^◌, ◌<◌, ◌≤◌, ◌≢◌, eqb, Bool, true, false, true≢false, cond, List, [], ◌∷◌, ◌++◌, length, refl, sym, ap, subst, arith, ne_eqb}
use Rattle.std.specs.List.{AllByRecursion as Each}
use Rattle.std.specs.Prelude.{Option, None, Some, ◌||◌}
use Rattle.std.specs.List.{IsDistinct, list_any}
use Rattle.std.proofs.lemmas.Map.Steps.{length-le_from_distinct_below}
use Rattle.std.proofs.lemmas.Bool.{eqb-true}
use Rattle.rvd_turn.specs.Views.{is_ticket}
use Rattle.rvd_turn.specs.Rule.{Apart}
use Rattle.rvd_turn.proofs.Lists.{Each-imp, Each-append}

pub Apart-append : (xs : List ℕ) (n : ℕ) → Apart xs → Each (λ y. y ≢ n) xs → Apart (xs ++ n ∷ [])
Apart-append [] n a h = (tt, tt)
Apart-append (x ∷ xs) n a h = (Each-append (λ y. y ≢ x) xs (n ∷ []) a.0 ((λ e. h.0 (sym e)), tt), Apart-append xs n a.1 h.1)

Apart-distinct : (xs : List ℕ) → Apart xs → IsDistinct eqb xs
unfolding IsDistinct
Apart-distinct [] a = tt
Apart-distinct (x ∷ xs) a = (Each-imp (λ y. y ≢ x) (λ y. eqb x y ≡ false) xs (λ y ne. ne_eqb x y (λ e. ne (sym e))) a.0, Apart-distinct xs a.1)

one_member : (P : ℕ → Type 0) (q x : ℕ) (more : Bool) → P x → (more ≡ true → P q) → (b : Bool) → eqb q x ≡ b → (b || more) ≡ true → P q
one_member P q x more h k true is _ = subst P (sym (eqb-true q x is)) h
one_member P q x more h k false _ e = k e

Each-member : (P : ℕ → Type 0) (q : ℕ) (xs : List ℕ) → Each P xs → list_any (eqb q) xs ≡ true → P q
Each-member P q [] h e = absurd (true≢false (sym e))
Each-member P q (x ∷ xs) h e = one_member P q x (list_any (eqb q) xs) h.0 (Each-member P q xs h.1) (eqb q x) refl e

-- Numbers below n of which none stands twice are at most n.
pub Apart-short : (xs : List ℕ) (n : ℕ) → Apart xs → Each (λ x. x < n) xs → length xs ≤ n
Apart-short xs n a h = length-le_from_distinct_below xs n (Apart-distinct xs a) (λ q e. Each-member (λ x. x < n) q xs h e)

-- The next ticket, after one is drawn, and after one is served.
pub ticket_next : (s k : ℕ) → ((s + k) % 2 ^ 64 + 1) % 2 ^ 64 ≡ (s + (k + 1)) % 2 ^ 64
ticket_next s k = omega arith

pub ticket_served : (s k : ℕ) → ((s + 1) % 2 ^ 64 + k) % 2 ^ 64 ≡ (s + (k + 1)) % 2 ^ 64
ticket_served s k = omega arith

-- The ticket that is served is the first of the queue, since fewer than 2^64 are out.
pub ticket_first : (s k : ℕ) → s < 2 ^ 64 → k < 2 ^ 64 → s ≡ (s + k) % 2 ^ 64 → k ≡ 0
ticket_first s k a b e = omega arith

-- A look that gives the turn found the ticket of a pass without the turn.
pub due_is : (b : Bool) (t : Option ℕ) (n : ℕ) → cond b false (is_ticket t n) ≡ true → (b ≡ false) × (t ≡ Some n)
due_is true t n e = absurd (true≢false (sym e))
due_is false None n e = absurd (true≢false (sym e))
due_is false (Some t) n e = (refl, ap Some (eqb-true t n e))
