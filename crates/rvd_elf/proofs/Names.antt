-- The length of a name, found from the front of what is left of a string table: `name_of-found` and its kin say
-- what the first zero byte among the first 1,001 bytes tells.
use Rattle.std.proofs.Common.{◌≡◌, ℕ, ◌+◌, ◌-◌, ◌<◌, ◌≤◌, Bool, true, false, cond, ◌==◌, ◌&&◌, nat_lt, nat_le, min, List, length, get_or, take, drop, Some, None, Ok, Err, refl, sym, ap, ◌∙◌, inl, inr, arith, length-drop, length-take, get_or-drop}
use Rattle.std.specs.Prelude.{position}
use Rattle.std.specs.List.{position_or_len}
use Rattle.std.proofs.lemmas.Bool.{cases_lt}
use Rattle.std.proofs.lemmas.Bool.Decides.{nat_tests}
use Rattle.std.proofs.lemmas.List.{get_or-take}
use Rattle.std.proofs.lemmas.List.Quantifiers.{position-Some}
use Rattle.std.proofs.lemmas.List.Sums.{position_or_len_is, fails_before_first, passes_at_first}
use Rattle.rvd_elf.specs.declared.refusals.ElfError.TheVariants.{BadName}
use Rattle.rvd_elf.specs.Symbol.{LastEnd, name_len, name_of}

abbrev is_zero : ℕ → Bool
is_zero c = c == 0

zero_true : (c : ℕ) → is_zero c ≡ true → c ≡ 0
zero_true c h = grind (arith, nat_tests)

zero_false : (c : ℕ) → is_zero c ≡ false → c ≡ 0 → ⊥
zero_false c h e = grind (arith, nat_tests)

is_true : (c : ℕ) → c ≡ 0 → is_zero c ≡ true
is_true c h = grind (arith, nat_tests)

is_false : (c : ℕ) → (c ≡ 0 → ⊥) → is_zero c ≡ false
is_false c h = grind (arith, nat_tests)

at_place : (xs : List ℕ) (n : ℕ) → position_or_len is_zero xs ≡ n → n < length xs → position is_zero xs ≡ Some n
at_place xs n e lt =
    ap (λ (m : ℕ). cond (nat_lt m (length xs)) (Some m) None) e
    ∙ ap (λ (t : Bool). cond t (Some n) None) (let t : nat_lt n (length xs) ≡ true = grind (arith, nat_tests) in t)

no_place : (xs : List ℕ) → position_or_len is_zero xs ≡ length xs → position is_zero xs ≡ None
no_place xs e =
    ap (λ (t : Bool). cond t (Some (position_or_len is_zero xs)) None) (let t : nat_lt (position_or_len is_zero xs) (length xs) ≡ false = grind (arith, nat_tests) in t)

past_front : (m n : ℕ) → (cond (nat_lt m n) (Some m) None) ≡ None → n ≤ m
past_front m n e =
    elim (nat_lt m n) as (λ t. nat_lt m n ≡ t → cond t (Some m) None ≡ None → n ≤ m) [
      | true ↦ λ t e. absurd (cc)
      | false ↦ λ t e. grind (arith, nat_tests)
    ] refl e

module _ (s : List ℕ) (end at : ℕ) (ends : LastEnd s end) where
  abbrev rest : List ℕ
  rest = drop at s

  -- a place behind the last zero byte begins no name
  pub name_of-behind : (i : ℕ) → end ≤ at → Err (BadName i) ≡ name_of i (name_len s at)
  name_of-behind i le =
      let none : position_or_len is_zero rest ≡ length rest =
      position_or_len_is is_zero rest (length rest) 0 (omega arith)
      (λ k lt. ap is_zero (get_or-drop at s k 0) ∙ is_false (get_or s (at + k) 0) (ends.rest (at + k) (omega arith) (omega (arith, length-drop at s, lt))))
      (λ lt. absurd (omega (arith, lt))) in
      sym (ap (name_of i) (no_place rest none))

  module _ (below : at < end) (m : ℕ) where
    front_at : (k : ℕ) → k < m → get_or (take m rest) k 0 ≡ get_or rest k 0
    front_at k lt = get_or-take m rest k 0 lt

    -- the first zero byte of the front is that of the rest
    found : (n : ℕ) → position is_zero (take m rest) ≡ Some n → (name_len s at ≡ Some n) × (n < m)
    found n e =
        let p = position-Some is_zero (take m rest) n 0 e in
        let lt : n < m = omega (arith, p.0, length-take m rest) in
        let long : n < length rest = omega (arith, p.0, length-take m rest) in (
          at_place rest n (position_or_len_is is_zero rest n 0 (omega arith)
              (λ k below_n. ap is_zero (sym (front_at k (omega (arith, below_n, lt)))) ∙ p.2 k below_n)
              (λ _. ap is_zero (sym (front_at n lt)) ∙ p.1)) long,
          lt,
        )

    -- the last zero byte is one of the rest
    last_zero : is_zero (get_or rest (end - 1 - at) 0) ≡ true
    last_zero = ap is_zero (get_or-drop at s (end - 1 - at) 0 ∙ ap (λ (k : ℕ). get_or s k 0) (omega (arith, below))) ∙ is_true (get_or s (end - 1) 0) (ends.last (omega (arith, below)))

    rest_long : end - at ≤ length rest
    rest_long = omega (arith, length-drop at s, ends.within)

    has_place : position_or_len is_zero rest < length rest
    has_place =
        elim (cases_lt (position_or_len is_zero rest) (length rest)) [
          | inl lt ↦ lt
          | inr le ↦ absurd (true_false (sym last_zero ∙ fails_before_first is_zero rest (end - 1 - at) 0 (omega (arith, le, rest_long, below))))
        ]
      where
        true_false : true ≡ false → ⊥
        true_false e = cc

    -- without a zero byte in the front, the name is longer
    longer : m ≡ min (end - at) 1001 → position is_zero (take m rest) ≡ None → 1001 ≤ position_or_len is_zero rest
    longer is e =
        let front_len : length (take m rest) ≡ m = omega (arith, length-take m rest, rest_long) in
        let none : length (take m rest) ≤ position_or_len is_zero (take m rest) = past_front _ _ e in
        let fails : (k : ℕ) → k < m → is_zero (get_or rest k 0) ≡ false = λ k lt. ap is_zero (sym (front_at k lt)) ∙ fails_before_first is_zero (take m rest) k 0 (omega (arith, lt, none, front_len)) in
        let no_less : m ≤ position_or_len is_zero rest =
        elim (cases_lt (position_or_len is_zero rest) m) [
          | inl lt ↦ absurd (true_false (sym (passes_at_first is_zero rest 0 has_place) ∙ fails (position_or_len is_zero rest) lt))
          | inr le ↦ le
        ] in
        elim (cases_lt m 1001) [
          | inl short ↦ absurd (true_false (sym last_zero ∙ fails (end - 1 - at) (omega (arith, short, is, below))))
          | inr long ↦ omega (arith, long, no_less)
        ]
      where
        true_false : true ≡ false → ⊥
        true_false e = cc

    pub name_of-found : (i n : ℕ) → m ≡ min (end - at) 1001 → position is_zero (take m rest) ≡ Some n → 0 < n → Ok (Some n) ≡ name_of i (name_len s at)
    name_of-found i n is e lt =
        let f = found n e in
        let t : (nat_lt 0 n && nat_le n 1000) ≡ true = let short : n < 1001 = omega (arith, f.1, is) in grind (arith, nat_tests) in
        sym (ap (name_of i) f.0 ∙ ap (λ (t : Bool). Ok (cond t (Some n) None)) t)

    pub name_of-empty : (i n : ℕ) → position is_zero (take m rest) ≡ Some n → n ≤ 0 → Ok None ≡ name_of i (name_len s at)
    name_of-empty i n e le =
        let f = found n e in
        let t : (nat_lt 0 n && nat_le n 1000) ≡ false = grind (arith, nat_tests) in
        sym (ap (name_of i) f.0 ∙ ap (λ (t : Bool). Ok (cond t (Some n) None)) t)

    pub name_of-long : (i : ℕ) → m ≡ min (end - at) 1001 → position is_zero (take m rest) ≡ None → Ok None ≡ name_of i (name_len s at)
    name_of-long i is e =
        let n : ℕ = position_or_len is_zero rest in
        let long : 1001 ≤ position_or_len is_zero rest = longer is e in
        let t : (nat_lt 0 (position_or_len is_zero rest) && nat_le (position_or_len is_zero rest) 1000) ≡ false = grind (arith, nat_tests) in
        sym (ap (name_of i) (at_place rest (position_or_len is_zero rest) refl has_place) ∙ ap (λ (t : Bool). Ok (cond t (Some (position_or_len is_zero rest)) None)) t)
