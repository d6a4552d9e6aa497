-- Blocks are disjoint, and present units are, exactly where no entry crowds a change: `apart_placed` for the way from the
-- test to the fact, and `free_where_apart` for the way back. Both are over the length that blocks or units have.
use Rattle.std.proofs.Common.{◌≡◌, ℕ, ◌+◌, ◌<◌, ◌≤◌, Bool, true, false, not, cond, ◌&&◌, Option, sym, ap, ◌∙◌, subst, inl, inr, ◌⊎◌, arith}
use Rattle.std.specs.Prelude.{nat_lt, ◌==◌}
use Rattle.std.specs.List.{list_any}
use Rattle.std.proofs.lemmas.Bool.{and_parts, and_from, both_ways, not-true, not_from_false, false_from_ne_true, ltb-true, lt-ltb, eq-eqb, ne_eqb, cases_lt, cases_eq, cases_order}
use Rattle.rvd_fact.specs.declared.keys.Kind.{Kind}
use Rattle.rvd_fact.specs.declared.keys.Key.{Key}
use Rattle.rvd_fact.specs.declared.cells.Cell.{Cell}
use Rattle.rvd_fact.specs.declared.values.Value.{Value}
use Rattle.rvd_fact.specs.Order.{same_key}
use Rattle.rvd_fact.specs.Program.{Program, cell_at, placed}
use Rattle.rvd_fact.specs.Memory.{key_of}
use Rattle.rvd_fact.specs.Valid.{IsValid, AreApart, span}
use Rattle.rvd_fact.proofs.KeyOrder.{cases_key, same_key_itself}
use Rattle.rvd_fact.proofs.Scans.{Found, found, scanned}
use Rattle.rvd_fact.proofs.Programs.{cell_at-placed}
use Rattle.rvd_fact.proofs.Validity.{cell_at_placed, cell_at_other}
use Rattle.rvd_program.specs.Checks.{crowds, is_free}
use Rattle.rvd_program.proofs.Lengths.{IsLengthAt, some_of}

-- spans stay apart where the one that is new is apart from each other
apart_with : (at new : ℕ → ℕ) (a : ℕ) → AreApart at → ((x : ℕ) → (x ≡ a → ⊥) → new x ≡ at x) → ((b : ℕ) → (b ≡ a → ⊥) → 0 < new b → 0 < new a → (a + new a ≤ b) ⊎ (b + new b ≤ a)) → AreApart new
apart_with at new a apart same free x y below up_x up_y =
    elim (cases_eq x a) [
      | inl is_x ↦ elim (free y (λ e. omega (arith, below, is_x, e)) up_y (subst (λ (z : ℕ). 0 < new z) is_x up_x)) [
        | inl h ↦ subst (λ (z : ℕ). z + new z ≤ y) (sym is_x) h
        | inr h ↦ absurd (omega (arith, below, is_x, h))
      ]
      | inr not_x ↦ elim (cases_eq y a) [
        | inl is_y ↦ elim (free x not_x up_x (subst (λ (z : ℕ). 0 < new z) is_y up_y)) [
          | inl h ↦ absurd (omega (arith, below, is_y, h))
          | inr h ↦ subst (λ (z : ℕ). x + new x ≤ z) (sym is_y) h
        ]
        | inr not_y ↦
            subst (λ (n : ℕ). x + n ≤ y) (sym (same x not_x))
            (apart x y below (subst (λ (n : ℕ). 0 < n) (same x not_x) up_x) (subst (λ (n : ℕ). 0 < n) (same y not_y) up_y))
      ]
    ]

-- the parts of the test
crowds_from : (len : Value → ℕ) (a n : ℕ) (e : Key × Cell) → 0 < n → (e.0.at ≡ a → ⊥) → 0 < len e.1.value → a < e.0.at + len e.1.value → e.0.at < a + n → crowds len a n e ≡ true
crowds_from len a n e up other long left right =
    and_from (nat_lt 0 n) _ (lt-ltb 0 n up)
    (and_from (not (e.0.at == a)) _ (not_from_false (e.0.at == a) (ne_eqb e.0.at a other))
    (and_from (nat_lt 0 (len e.1.value)) _ (lt-ltb 0 (len e.1.value) long)
    (and_from (nat_lt a (e.0.at + len e.1.value)) _ (lt-ltb a (e.0.at + len e.1.value) left) (lt-ltb e.0.at (a + n) right))))

pub record Crowds (len : Value → ℕ) (a n : ℕ) (e : Key × Cell) : Type 0 where
  pub up : 0 < n
  pub other : e.0.at ≡ a → ⊥
  pub long : 0 < len e.1.value
  pub left : a < e.0.at + len e.1.value
  pub right : e.0.at < a + n

crowds-parts : (len : Value → ℕ) (a n : ℕ) (e : Key × Cell) → crowds len a n e ≡ true → Crowds len a n e
crowds-parts len a n e h =
    let p = and_parts (nat_lt 0 n) (not (e.0.at == a) && (nat_lt 0 (len e.1.value) && (nat_lt a (e.0.at + len e.1.value) && nat_lt e.0.at (a + n)))) h in
    let q = and_parts (not (e.0.at == a)) (nat_lt 0 (len e.1.value) && (nat_lt a (e.0.at + len e.1.value) && nat_lt e.0.at (a + n))) p.1 in
    let r = and_parts (nat_lt 0 (len e.1.value)) (nat_lt a (e.0.at + len e.1.value) && nat_lt e.0.at (a + n)) q.1 in
    let s = and_parts (nat_lt a (e.0.at + len e.1.value)) (nat_lt e.0.at (a + n)) r.1 in
    record {
      up = ltb-true 0 n p.0;
      other = λ e_is. both_ways (e.0.at == a) (not-true (e.0.at == a) q.0) (eq-eqb e.0.at a e_is);
      long = ltb-true 0 (len e.1.value) r.0;
      left = ltb-true a (e.0.at + len e.1.value) s.0;
      right = ltb-true e.0.at (a + n) s.1;
    }

module _ (len : Value → ℕ) (K : Kind) where
  -- the bytes that stand at an address
  abbrev pub spans : Program → ℕ → ℕ
  spans T x = span len (cell_at T (key_of K x))

  -- what doesn't crowd is apart
  free_apart : (T : Program) (a n : ℕ) → is_free len T a n ≡ true → (b : ℕ) → (b ≡ a → ⊥) → 0 < spans T b → 0 < n → (a + n ≤ b) ⊎ (b + spans T b ≤ a)
  free_apart T a n free b other long up =
      elim (cases_lt b (a + n)) [
        | inr h ↦ inl h
        | inl right ↦ elim (cases_lt a (b + spans T b)) [
          | inr h ↦ inr h
          | inl left ↦
              let held = some_of len (cell_at T (key_of K b)) long in
              let size : spans T b ≡ len held.0.value = ap (span len) held.1 in
              let it : crowds len a n (key_of K b, held.0) ≡ true = crowds_from len a n (key_of K b, held.0) up other (subst (λ (m : ℕ). 0 < m) size long) (subst (λ (m : ℕ). a < b + m) size left) right in
              absurd (both_ways (list_any (crowds len a n) T) (not-true (list_any (crowds len a n) T) free) (scanned (crowds len a n) T (record { key = key_of K b; cell = held.0; here = held.1; passes = it })))
        ]
      ]

  -- from the test to the fact
  pub apart_placed : (S : Program) (k : Key) (o : Option Cell) → AreApart (spans S) → is_free len (placed S k o) k.at (span len o) ≡ true → AreApart (spans (placed S k o))
  apart_placed S k o apart free =
      elim (cases_key (key_of K k.at) k) [
        | inl same ↦
            let here : spans (placed S k o) k.at ≡ span len o = ap (λ (q : Key). span len (cell_at (placed S k o) q)) same ∙ ap (span len) (cell_at_placed S k o) in
            apart_with (spans S) (spans (placed S k o)) k.at apart (λ x ne. other_address x ne)
            (λ b ne long up. subst (λ (n : ℕ). (k.at + n ≤ b) ⊎ (b + spans (placed S k o) b ≤ k.at)) (sym here)
            (free_apart (placed S k o) k.at (span len o) free b ne long (subst (λ (n : ℕ). 0 < n) here up)))
        | inr apart_keys ↦ subst AreApart (λ i x. sym (all_same apart_keys x) i) apart
      ]
    where
      other_address : (x : ℕ) → (x ≡ k.at → ⊥) → spans (placed S k o) x ≡ spans S x
      other_address x ne = ap (span len) (cell_at_other S k o (key_of K x) (λ e. ne (ap (λ (q : Key). q.at) e)))

      all_same : same_key (key_of K k.at) k ≡ false → (x : ℕ) → spans (placed S k o) x ≡ spans S x
      all_same unlike x = elim (cases_key (key_of K x) k) [
        | inl same ↦ absurd (both_ways (same_key (key_of K k.at) k) unlike (ap (λ (z : ℕ). same_key (key_of K z) k) (sym (ap (λ (q : Key). q.at) same)) ∙ ap (λ (q : Key). same_key q k) same ∙ same_key_itself k))
        | inr h ↦ ap (span len) (cell_at-placed S k o (key_of K x) ∙ ap (λ (b : Bool). cond b o (cell_at S (key_of K x))) h)
      ]

  -- from the fact to the test, at each key of a valid program
  pub free_where_apart : IsLengthAt K len → (T : Program) → IsValid T → AreApart (spans T) → (k : Key) → is_free len T k.at (span len (cell_at T k)) ≡ true
  free_where_apart only T valid apart k = not_from_false (list_any (crowds len k.at (span len (cell_at T k))) T) (false_from_ne_true (list_any (crowds len k.at (span len (cell_at T k))) T) refuted)
    where
      refuted : list_any (crowds len k.at (span len (cell_at T k))) T ≡ true → ⊥
      refuted h =
          let f : Found (crowds len k.at (span len (cell_at T k))) T = found (crowds len k.at (span len (cell_at T k))) T valid.in_order h in
          let p : Crowds len k.at (span len (cell_at T k)) (f.key, f.cell) = crowds-parts len k.at (span len (cell_at T k)) (f.key, f.cell) f.passes in
          let own = some_of len (cell_at T k) p.up in
          let own_key : k ≡ key_of K k.at = only k own.0 (valid.cells k own.0 own.1) (subst (λ (n : ℕ). 0 < n) (ap (span len) own.1) p.up) in
          let own_size : spans T k.at ≡ span len (cell_at T k) = ap (λ (q : Key). span len (cell_at T q)) (sym own_key) in
          let its_key : f.key ≡ key_of K f.key.at = only f.key f.cell (valid.cells f.key f.cell f.here) p.long in
          let its_size : spans T f.key.at ≡ len f.cell.value = ap (λ (q : Key). span len (cell_at T q)) (sym its_key) ∙ ap (span len) f.here in
          elim (cases_order k.at f.key.at) [
            | inl same ↦ p.other (sym same)
            | inr (inl below) ↦ absurd (omega (arith, p.right, own_size, apart k.at f.key.at below (subst (λ (n : ℕ). 0 < n) (sym own_size) p.up) (subst (λ (n : ℕ). 0 < n) (sym its_size) p.long)))
            | inr (inr above) ↦ absurd (omega (arith, p.left, its_size, apart f.key.at k.at above (subst (λ (n : ℕ). 0 < n) (sym its_size) p.long) (subst (λ (n : ℕ). 0 < n) (sym own_size) p.up)))
          ]
