-- Each present unit lies in one block, and an instruction's word is that of its bytes, exactly where no unit hangs. Use
-- `in_a_block_from` and `words_from` for the way from the test to the facts, and `none_hangs` for the way back.
use Rattle.std.proofs.Common.{◌≡◌, ℕ, ◌+◌, ◌<◌, ◌≤◌, true, false, not, ◌&&◌, Option, Some, None, refl, sym, ap, ◌∙◌, subst, inl, inr, arith}
use Rattle.std.specs.Prelude.{nat_lt, nat_le}
use Rattle.std.specs.List.{list_any}
use Rattle.std.proofs.lemmas.Bool.{and_parts, and_from, both_ways, true≢false, not-false, not_from_true, false_from_ne_true, and_cases, and_left, and_right, ltb-true, leb-true, lt-ltb, le-leb, eq-eqb, eqb-true, cases_Bool}
use Rattle.rvd_fact.specs.declared.keys.Key.{Key}
use Rattle.rvd_fact.specs.declared.cells.Cell.{Cell}
use Rattle.rvd_fact.specs.declared.values.Source.{Source}
use Rattle.rvd_fact.specs.declared.values.Value.{Value}
use Rattle.rvd_fact.specs.declared.values.Value.TheVariants.{Code}
use Rattle.rvd_fact.specs.Program.{Program, cell_at, IsInOrder}
use Rattle.rvd_fact.specs.Memory.{unit_key, block_key, unit_len, block_len, word}
use Rattle.rvd_fact.specs.Valid.{IsValid, suits, span, unit_span, block_span}
use Rattle.rvd_fact.proofs.Scans.{Found, found, scanned}
use Rattle.rvd_program.specs.Checks.{encloses, is_word, agrees, hangs}
use Rattle.rvd_program.proofs.Lengths.{unit_at_key, block_at_key, some_of}

-- no unit of a program hangs
abbrev pub Stands : Program → Type 0
Stands T = (x : ℕ) (c : Cell) → cell_at T (unit_key x) ≡ Some c → hangs T (unit_key x, c) ≡ false

is_word-true : (o : Option ℕ) (w : ℕ) → is_word o w ≡ true → o ≡ Some w
is_word-true None w h = absurd (true≢false (sym h))
is_word-true (Some x) w h = ap Some (eqb-true x w h)

-- what a unit that doesn't hang has
held_up : (T : Program) (e : Key × Cell) → hangs T e ≡ false → 0 < unit_len e.1.value → (list_any (encloses e.0.at (unit_len e.1.value)) T ≡ true) × (agrees (word T e.0.at) e.1.value ≡ true)
held_up T e h up = elim (and_cases (nat_lt 0 (unit_len e.1.value)) (not (list_any (encloses e.0.at (unit_len e.1.value)) T && agrees (word T e.0.at) e.1.value)) h) [
  | inl short ↦ absurd (both_ways (nat_lt 0 (unit_len e.1.value)) short (lt-ltb 0 (unit_len e.1.value) up))
  | inr stands ↦ and_parts (list_any (encloses e.0.at (unit_len e.1.value)) T) (agrees (word T e.0.at) e.1.value) (not-false (list_any (encloses e.0.at (unit_len e.1.value)) T && agrees (word T e.0.at) e.1.value) stands)
]

module _ (T : Program) (s : IsInOrder T) (cells : (k : Key) (c : Cell) → cell_at T k ≡ Some c → suits k c ≡ true) (stands : Stands T) where
  pub in_a_block_from : (a : ℕ) → 0 < unit_span T a → (b : ℕ) × (b ≤ a) × (a + unit_span T a ≤ b + block_span T b)
  in_a_block_from a up =
      let held = some_of unit_len (cell_at T (unit_key a)) up in
      let size : unit_span T a ≡ unit_len held.0.value = ap (span unit_len) held.1 in
      let inside = (held_up T (unit_key a, held.0) (stands a held.0 held.1) (subst (λ (n : ℕ). 0 < n) size up)).0 in
      let f : Found (encloses a (unit_len held.0.value)) T = found (encloses a (unit_len held.0.value)) T s inside in
      let p = and_parts (nat_lt 0 (block_len f.cell.value)) (nat_le f.key.at a && nat_le (a + unit_len held.0.value) (f.key.at + block_len f.cell.value)) f.passes in
      let q = and_parts (nat_le f.key.at a) (nat_le (a + unit_len held.0.value) (f.key.at + block_len f.cell.value)) p.1 in
      let key : f.key ≡ block_key f.key.at = block_at_key f.key f.cell (cells f.key f.cell f.here) (ltb-true 0 (block_len f.cell.value) p.0) in
      let block : block_span T f.key.at ≡ block_len f.cell.value = ap (λ (k : Key). span block_len (cell_at T k)) (sym key) ∙ ap (span block_len) f.here in
      (f.key.at, leb-true f.key.at a q.0, omega (arith, size, block, leb-true (a + unit_len held.0.value) (f.key.at + block_len f.cell.value) q.1))

  pub words_from : (a w : ℕ) (s : Source) → cell_at T (unit_key a) ≡ Some (record { value = Code w; source = s }) → word T a ≡ Some w
  words_from a w s here = is_word-true (word T a) w (held_up T (unit_key a, record { value = Code w; source = s }) (stands a (record { value = Code w; source = s }) here) (omega arith)).1

module _ (T : Program) (valid : IsValid T) where
  agrees_where_valid : (x : ℕ) (v : Value) (s : Source) → cell_at T (unit_key x) ≡ Some (record { value = v; source = s }) → agrees (word T x) v ≡ true
  agrees_where_valid x (Code w) s h = ap (λ (o : Option ℕ). is_word o w) (valid.words x w s h) ∙ eq-eqb w w refl
  agrees_where_valid x v s h = refl

  enclosed : (x n : ℕ) → 0 < n → (b : ℕ) → b ≤ x → x + n ≤ b + block_span T b → list_any (encloses x n) T ≡ true
  enclosed x n up b below end =
      let wide : 0 < block_span T b = omega (arith, up, below, end) in
      let held = some_of block_len (cell_at T (block_key b)) wide in
      let size : block_span T b ≡ block_len held.0.value = ap (span block_len) held.1 in
      scanned (encloses x n) T (record {
        key = block_key b;
        cell = held.0;
        here = held.1;
        passes =
            and_from (nat_lt 0 (block_len held.0.value)) _ (lt-ltb 0 (block_len held.0.value) (subst (λ (m : ℕ). 0 < m) size wide))
            (and_from (nat_le b x) _ (le-leb b x below) (le-leb (x + n) (b + block_len held.0.value) (subst (λ (m : ℕ). x + n ≤ b + m) size end)));
      })

  pub stands_where_valid : Stands T
  stands_where_valid x c here = elim (cases_Bool (nat_lt 0 (unit_len c.value))) [
    | inr short ↦ and_left (nat_lt 0 (unit_len c.value)) _ short
    | inl long ↦
        let up : 0 < unit_len c.value = ltb-true 0 (unit_len c.value) long in
        let size : unit_span T x ≡ unit_len c.value = ap (span unit_len) here in
        let home = valid.in_a_block x (subst (λ (n : ℕ). 0 < n) (sym size) up) in
        let inside : list_any (encloses x (unit_len c.value)) T ≡ true = enclosed x (unit_len c.value) up home.0 home.1 (subst (λ (n : ℕ). x + n ≤ home.0 + block_span T home.0) size home.2) in
        let word_is : agrees (word T x) c.value ≡ true = agrees_where_valid x c.value c.source here in
        and_right (nat_lt 0 (unit_len c.value)) _ (not_from_true (list_any (encloses x (unit_len c.value)) T && agrees (word T x) c.value) (and_from (list_any (encloses x (unit_len c.value)) T) (agrees (word T x) c.value) inside word_is))
  ]

  -- no cell of a valid program hangs, at whatever key
  pub none_hangs : (q : Key) (c : Cell) → cell_at T q ≡ Some c → hangs T (q, c) ≡ false
  none_hangs q c here = false_from_ne_true (hangs T (q, c)) (λ h.
      let p = and_parts (nat_lt 0 (unit_len c.value)) (not (list_any (encloses q.at (unit_len c.value)) T && agrees (word T q.at) c.value)) h in
      let key : q ≡ unit_key q.at = unit_at_key q c (valid.cells q c here) (ltb-true 0 (unit_len c.value) p.0) in
      both_ways (hangs T (q, c)) (stands_where_valid q.at c (ap (cell_at T) (sym key) ∙ here)) h)
