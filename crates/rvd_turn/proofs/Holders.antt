-- Who holds which number: the holders as a step changes them at one number (`upd`) or hands a spent pass's numbers on (`passed`), and the numbers that a pass holds
-- as it meets another. Use it where a step changes `role`, and in callers for `Holds`.
use Rattle.std.proofs.Common.{◌≡◌, ℕ, ◌≤◌, ◌≢◌, ◌⊎◌, eqb, Bool, true, false, cond, List, ◌∷◌, ◌++◌, refl, sym, ap, ◌∙◌, subst, inl, inr, ⊎_elim, arith, eq-eqb, ne_eqb}
use Rattle.std.specs.Prelude.{ltb, Any}
use Rattle.std.proofs.lemmas.Bool.{ltb-true}
use mathlib.Core.Logic.{dite}
use native.Mathlib.Decide.{ℕ_discrete}
use Rattle.rvd_turn.specs.Known.{IsHeld}
use Rattle.rvd_turn.proofs.Lists.{any_here, any_later, any_cons, any_left, any_right, any_append}

-- The function f, but b at a.
abbrev pub upd : {B : Type 0} → (ℕ → B) → ℕ → B → ℕ → B
upd f a b x = cond (eqb x a) b (f x)

module _ {B : Type 0} (f : ℕ → B) (a : ℕ) (b : B) where
  pub upd_same : upd f a b a ≡ b
  upd_same = ap (λ c. cond c b (f a)) (eq-eqb a a refl)

  pub upd_other : (x : ℕ) → x ≢ a → upd f a b x ≡ f x
  upd_other x ne = ap (λ c. cond c b (f x)) (ne_eqb x a ne)

-- A number with a ticket still has one, where one number changes to a kind with a ticket.
pub waits_upd : (role : ℕ → ℕ × ℕ) (a : ℕ) (b : ℕ × ℕ) → 2 ≤ b.1 → (n : ℕ) → 2 ≤ (role n).1 → 2 ≤ (upd role a b n).1
waits_upd role a b h n k = dite (ℕ_discrete n a)
    (λ e. subst (λ (z : ℕ × ℕ). 2 ≤ z.1) (sym (ap (upd role a b) e ∙ upd_same role a b)) h)
    (λ ne. subst (λ (z : ℕ × ℕ). 2 ≤ z.1) (sym (upd_other role a b n ne)) k)

-- Where one number stays at its seat, all do.
pub seat_upd : (role : ℕ → ℕ × ℕ) (a : ℕ) (b : ℕ × ℕ) → (role a).0 ≡ b.0 → (n : ℕ) → (upd role a b n).0 ≡ (role n).0
seat_upd role a b h n = dite (ℕ_discrete n a)
    (λ e. ap (λ (z : ℕ × ℕ). z.0) (ap (upd role a b) e ∙ upd_same role a b) ∙ sym h ∙ ap (λ k. (role k).0) (sym e))
    (λ ne. ap (λ (z : ℕ × ℕ). z.0) (upd_other role a b n ne))

-- What the seat `other` held without a ticket goes to the seat id.
module _ (other id : ℕ) where
  abbrev pub passed : ℕ × ℕ → ℕ × ℕ
  passed p = cond (eqb p.0 other) (cond (ltb p.1 2) (id, 0) p) p

  pub passed_met : passed (other, 0) ≡ (id, 0)
  passed_met = ap (λ b. cond b (cond (ltb 0 2) (id, 0) (other, 0)) (other, 0)) (eq-eqb other other refl)

  pub passed_main : passed (other, 1) ≡ (id, 0)
  passed_main = ap (λ b. cond b (cond (ltb 1 2) (id, 0) (other, 1)) (other, 1)) (eq-eqb other other refl)

  pub passed_by : (p : ℕ × ℕ) → p.0 ≢ other → passed p ≡ p
  passed_by p ne = ap (λ b. cond b (cond (ltb p.1 2) (id, 0) p) p) (ne_eqb p.0 other ne)

  not_below : (k : ℕ) (b : Bool) → ltb k 2 ≡ b → 2 ≤ k → b ≡ false
  not_below k true e h = let a = ltb-true k 2 e in absurd (omega arith)
  not_below k false e h = refl

  cond_same : {A : Type 0} (b : Bool) (x : A) → cond b x x ≡ x
  cond_same true x = refl
  cond_same false x = refl

  pub passed_waiting : (p : ℕ × ℕ) → 2 ≤ p.1 → passed p ≡ p
  passed_waiting p h = ap (λ b. cond (eqb p.0 other) (cond b (id, 0) p) p) (not_below p.1 (ltb p.1 2) refl h) ∙ cond_same (eqb p.0 other) p

-- The numbers that a pass holds, as it takes in the pass of the number b, which holds those in `more`.
module _ {E : Type 0} (a : ℕ) (met : List (ℕ × List E)) (b : ℕ) (own : List E) (more : List (ℕ × List E)) (n : ℕ) where
  abbrev Is : ℕ × List E → Type 0
  Is m = m.0 ≡ n

  pub held_still : IsHeld a met n → IsHeld a (met ++ (b, own) ∷ more) n
  held_still h = ⊎_elim (λ e. inl e) (λ (r : Any Is met). inr (any_left Is met ((b, own) ∷ more) r)) h

  pub held_other : IsHeld b more n → IsHeld a (met ++ (b, own) ∷ more) n
  held_other h = inr (any_right Is met ((b, own) ∷ more) (⊎_elim (λ e. any_here Is (b, own) more e) (λ (r : Any Is more). any_later Is (b, own) more r) h))

  pub held_before : IsHeld a (met ++ (b, own) ∷ more) n → IsHeld a met n ⊎ IsHeld b more n
  held_before h = ⊎_elim
      (λ e. inl (inl e))
      (λ (r : Any Is (met ++ (b, own) ∷ more)). ⊎_elim
      (λ (x : Any Is met). inl (inr x))
      (λ (x : Any Is ((b, own) ∷ more)). ⊎_elim (λ e. inr (inl e)) (λ (y : Any Is more). inr (inr y)) (any_cons Is (b, own) more x))
      (any_append Is met ((b, own) ∷ more) r))
      h
