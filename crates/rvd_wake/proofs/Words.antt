-- The words that meet some bytes, as they are counted: `words_are` says that they are those of the addresses around.
use Rattle.std.proofs.Common.{◌≡◌, ℕ, zero, suc, ◌+◌, ◌-◌, ◌*◌, ◌/◌, ◌%◌, ◌<◌, Bool, true, false, ◌&&◌, List, [], ◌∷◌, sym, ap, ◌∙◌, inl, inr, arith}
use Rattle.std.specs.Prelude.{◌==◌, nat_lt}
use Rattle.std.specs.List.{list_any}
use Rattle.std.proofs.lemmas.Bool.{and_from, and_parts, cases_eq, eq-eqb, eqb-true, false≢true, lt-ltb, ltb-true, or_cases, or_left, or_right}
use Rattle.rvd_ask.specs.Wake.{around, meets}
use Rattle.rvd_wake.proofs.Bools.{agree, any_elim}

-- m multiples of 4 from the first one on
abbrev pub words : ℕ → ℕ → List ℕ
words first zero = []
words first (suc k) = (first + 4 * k) ∷ words first k

-- an address that meets the bytes is around them
pub in_around : (p : ℕ → Bool) (z n t : ℕ) → t < z + n → z < t + 4 → p t ≡ true → list_any p (around z n) ≡ true
in_around p z zero t above below passes =
    elim (cases_eq t (z - 3)) [
      | inl is ↦ or_left (p (z - 3)) _ (ap p (sym is) ∙ passes)
      | inr not_first ↦ or_right (p (z - 3)) _ (elim (cases_eq t (z - 2)) [
        | inl is ↦ or_left (p (z - 2)) _ (ap p (sym is) ∙ passes)
        | inr not_second ↦ or_right (p (z - 2)) _ (let is : z - 1 ≡ t = omega arith in or_left (p (z - 1)) false (ap p is ∙ passes))
      ])
    ]
in_around p z (suc n) t above below passes =
    elim (cases_eq t (z + n)) [
      | inl is ↦ or_left (p (z + n)) _ (ap p (sym is) ∙ passes)
      | inr other ↦ or_right (p (z + n)) _ (in_around p z n t (omega arith) below passes)
    ]

pub record Met (z n t : ℕ) : Type 0 where
  pub whole : t % 4 ≡ 0
  pub some : 0 < n
  pub above : t < z + n
  pub below : z < t + 4

pub met : (z n t : ℕ) → meets z n t ≡ true → Met z n t
met z n t h =
    let a = and_parts (t % 4 == 0) (nat_lt 0 n && (nat_lt t (z + n) && nat_lt z (t + 4))) h in
    let b = and_parts (nat_lt 0 n) (nat_lt t (z + n) && nat_lt z (t + 4)) a.1 in
    let c = and_parts (nat_lt t (z + n)) (nat_lt z (t + 4)) b.1 in
    record { whole = eqb-true (t % 4) 0 a.0; some = ltb-true 0 n b.0; above = ltb-true t (z + n) c.0; below = ltb-true z (t + 4) c.1 }

pub meets-met : (z n t : ℕ) → Met z n t → meets z n t ≡ true
meets-met z n t m =
    and_from (t % 4 == 0) (nat_lt 0 n && (nat_lt t (z + n) && nat_lt z (t + 4))) (eq-eqb (t % 4) 0 m.whole)
    (and_from (nat_lt 0 n) (nat_lt t (z + n) && nat_lt z (t + 4)) (lt-ltb 0 n m.some)
    (and_from (nat_lt t (z + n)) (nat_lt z (t + 4)) (lt-ltb t (z + n) m.above) (lt-ltb z (t + 4) m.below)))

words_at : (p : ℕ → Bool) (first m k : ℕ) → k < m → p (first + 4 * k) ≡ true → list_any p (words first m) ≡ true
words_at p first zero k below passes = absurd (omega arith)
words_at p first (suc m) k below passes = elim (cases_eq k m) [
  | inl is ↦ or_left (p (first + 4 * m)) (list_any p (words first m)) (ap (λ j. p (first + 4 * j)) (sym is) ∙ passes)
  | inr other ↦ or_right (p (first + 4 * m)) (list_any p (words first m)) (words_at p first m k (omega arith) passes)
]

-- one of the words that passes
words_elim : {Q : Type 0} (p : ℕ → Bool) (first m : ℕ) → list_any p (words first m) ≡ true → ((k : ℕ) → k < m → p (first + 4 * k) ≡ true → Q) → Q
words_elim p first zero h use_it = absurd (false≢true h)
words_elim p first (suc m) h use_it = elim (or_cases (p (first + 4 * m)) (list_any p (words first m)) h) [
  | inl here ↦ use_it m (omega arith) here
  | inr later ↦ words_elim p first m later (λ k below passes. use_it k (omega arith) passes)
]

-- how many words meet n bytes from z on
abbrev pub word_count : ℕ → ℕ → ℕ
word_count z n = (z % 4 + n + 3) / 4

counted_meets : (z n k : ℕ) → 0 < n → k < word_count z n → Met z n (z - z % 4 + 4 * k)
counted_meets z n k some below = record { whole = omega arith; some = some; above = omega arith; below = omega arith }

met_is_counted : (z n t : ℕ) → Met z n t → (k : ℕ) × (k < word_count z n) × (t ≡ z - z % 4 + 4 * k)
met_is_counted z n t m = let whole = m.whole in let above = m.above in let below = m.below in (t / 4 - z / 4, omega arith, omega arith)

pub words_are : (p : ℕ → Bool) (z n : ℕ) → 0 < n → list_any p (words (z - z % 4) (word_count z n)) ≡ list_any (λ t. meets z n t && p t) (around z n)
words_are p z n some =
    agree (list_any p (words (z - z % 4) (word_count z n))) (list_any (λ t. meets z n t && p t) (around z n))
    (λ h. words_elim p (z - z % 4) (word_count z n) h (λ k below passes.
    let t = z - z % 4 + 4 * k in
    let m = counted_meets z n k some below in
    in_around (λ t. meets z n t && p t) z n t m.above m.below (and_from (meets z n t) (p t) (meets-met z n t m) passes)))
    (λ h. any_elim (λ t. meets z n t && p t) (around z n) h (λ t passes.
    let parts = and_parts (meets z n t) (p t) passes in
    let k = met_is_counted z n t (met z n t parts.0) in
    words_at p (z - z % 4) (word_count z n) k.0 k.1 (ap p (sym k.2) ∙ parts.1)))
