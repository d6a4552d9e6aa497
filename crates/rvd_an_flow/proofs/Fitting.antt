-- The changes of flow fit a valid program, each unit of a run in turn: `fits`.
use Rattle.std.proofs.Common.{◌≡◌, ℕ, zero, suc, ◌+◌, ◌*◌, ◌%◌, ◌<◌, ◌≤◌, Bool, true, false, cond, ◌&&◌, ◌||◌, List, [], ◌∷◌, Option, Some, None, refl, sym, ap, ◌∙◌, subst, inl, inr, ◌⊎◌, arith}
use Rattle.std.specs.Prelude.{filter_map, find as first_where, is_none, nat_lt, nat_le, ◌==◌}
use Rattle.std.specs.List.{list_any, cons_option}
use Rattle.std.specs.Option.{option_map}
use Rattle.std.proofs.lemmas.Bool.{and_from, and_parts, both_ways, cases_Bool, cases_eq, cases_lt, cond_both, eqb-true, false≢true, le-leb, leb-true, lt-ltb}
use Rattle.std.proofs.lemmas.Bool.Decides.{nat_tests}
use Rattle.rvd_fact.specs.declared.keys.Key.{Key}
use Rattle.rvd_fact.specs.declared.cells.Cell.{Cell}
use Rattle.rvd_fact.specs.declared.cells.Change.{Change}
use Rattle.rvd_fact.specs.declared.values.Source.{Source}
use Rattle.rvd_fact.specs.declared.values.Source.TheVariants.{Analysis}
use Rattle.rvd_fact.specs.declared.values.Value.{Value}
use Rattle.rvd_fact.specs.declared.values.Value.TheVariants.{Block, Mark, Func, Body, Symbol, Comment, Bookmark, Code, Plain, Ref, Gone}
use Rattle.rvd_fact.specs.Program.{Program, cell_at, placed}
use Rattle.rvd_fact.specs.Memory.{block, block_key, block_len, cover, covers, surrounds, unit_key, unit_len, word}
use Rattle.rvd_fact.specs.Valid.{Fits, IsValid, block_span, has_bytes, is_address, is_of, is_whole, may_stand, span, suits, top_sub}
use Rattle.rvd_fact.proofs.Scans.{scanned}
use Rattle.rvd_fact.proofs.Validity.{valid_placed}
use Rattle.rvd_ask.specs.Places.{addition, error_key, next_word}
use Rattle.rvd_ask.specs.Flow.{bad_instruction, block_may_hold, cell_may_hold, code_addition, decides, decodes, flow_changes, flow_rule, is_executable, is_free, is_ready, may_hold, openable, run, start_changes, starts, word_falls}
use Rattle.rvd_ask.specs.Rules.{rule}
use Rattle.rvd_ask.specs.declared.asks.Analyzer.TheVariants.{Flow}
use Rattle.rvd_ask.specs.Fitting.{FittingLaw}
use Rattle.rvd_fact.proofs.NewUnits.{other_block, other_unit, same_block, same_cover, same_word, valid_unit}
use Rattle.rvd_fact.proofs.Suiting.{whole_there}
use Rattle.rvd_ask.proofs.Units.{free_at, none_there, uncovered}
use Rattle.std.proofs.lemmas.Option.{same_Some}

-- ---- what an openable address has
hold_len : (b t : ℕ) (v : Value) → may_hold b t v ≡ true → t + 4 ≤ b + block_len v
hold_len b t (Block len perm (Some bytes)) h = leb-true (t + 4) (b + len) (and_parts perm.x (nat_le (t + 4) (b + len)) h).1
hold_len b t (Block len perm None) h = absurd (false≢true h)
hold_len b t Mark h = absurd (false≢true h)
hold_len b t Func h = absurd (false≢true h)
hold_len b t (Body ranges) h = absurd (false≢true h)
hold_len b t (Symbol name) h = absurd (false≢true h)
hold_len b t (Comment text) h = absurd (false≢true h)
hold_len b t (Bookmark text) h = absurd (false≢true h)
hold_len b t (Code w) h = absurd (false≢true h)
hold_len b t (Plain f) h = absurd (false≢true h)
hold_len b t (Ref to class) h = absurd (false≢true h)
hold_len b t Gone h = absurd (false≢true h)

-- a block ends by 2 ^ 32
end_low : (b : ℕ) (v : Value) → 0 < block_len v → is_whole b v ≡ true → b + block_len v ≤ 4294967296
end_low b (Block len perm bytes) up h = leb-true (b + len) 4294967296 (and_parts (nat_le (b + len) 4294967296) (has_bytes len bytes) (and_parts (nat_lt 0 len) _ h).1).0
end_low b Mark up h = absurd (omega (arith, up))
end_low b Func up h = absurd (omega (arith, up))
end_low b (Body ranges) up h = absurd (omega (arith, up))
end_low b (Symbol name) up h = absurd (omega (arith, up))
end_low b (Comment text) up h = absurd (omega (arith, up))
end_low b (Bookmark text) up h = absurd (omega (arith, up))
end_low b (Code w) up h = absurd (omega (arith, up))
end_low b (Plain f) up h = absurd (omega (arith, up))
end_low b (Ref to class) up h = absurd (omega (arith, up))
end_low b Gone up h = absurd (omega (arith, up))

-- a block around an address doesn't begin above it
block_low : (S : Program) (t b : ℕ) → block S t ≡ Some b → b ≤ t
block_low [] t b h = absurd cc
block_low (e ∷ es) t b h =
    elim (cases_Bool (surrounds t e)) [
      | inl yes_so ↦
          let same : Some e.0.at ≡ Some b = sym (ap (λ (x : Bool). option_map (λ (y : Key × Cell). y.0.at) (cond x (Some e) (first_where (surrounds t) es))) yes_so) ∙ h in
          let is : e.0.at ≡ b = cc in
          let low : e.0.at ≤ t = leb-true e.0.at t (and_parts (nat_le e.0.at t) (nat_lt t (e.0.at + block_len e.1.value)) yes_so).0 in
          omega (arith, is, low)
      | inr no_so ↦ block_low es t b (sym (ap (λ (x : Bool). option_map (λ (y : Key × Cell). y.0.at) (cond x (Some e) (first_where (surrounds t) es))) no_so) ∙ h)
    ]

record Home (S : Program) (t : ℕ) : Type 0 where
  start : ℕ
  low : start ≤ t
  high : t + 4 ≤ start + block_span S start
  address : t < 4294967296

home_in : (S : Program) (t b : ℕ) (o : Option Cell) → IsValid S → cell_at S (block_key b) ≡ o → b ≤ t → cell_may_hold b t o ≡ true → Home S t
home_in S t b None valid here low h = absurd (false≢true h)
home_in S t b (Some c) valid here low h =
    let high : t + 4 ≤ b + block_len c.value = hold_len b t c.value h in
    let size : block_span S b ≡ block_len c.value = ap (span block_len) here in
    let ends : b + block_len c.value ≤ 4294967296 = end_low b c.value (omega (arith, low, high)) (whole_there (block_key b) c (valid.cells (block_key b) c here)) in
    record { start = b; low = low; high = omega (arith, high, size); address = omega (arith, high, ends) }

home_of : (S : Program) (t : ℕ) (o : Option ℕ) → IsValid S → block S t ≡ o → block_may_hold S t o ≡ true → Home S t
home_of S t None valid here h = absurd (false≢true h)
home_of S t (Some b) valid here h = home_in S t b (cell_at S (block_key b)) valid refl (block_low S t b here) h

pub record Opened (S : Program) (t : ℕ) : Type 0 where
  pub aligned : t % 4 ≡ 0
  pub executable : is_executable S t ≡ true
  pub free : is_free S t 4 ≡ true
  pub empty : cell_at S (unit_key t) ≡ None

pub opened : (S : Program) (t : ℕ) → openable S t ≡ true → Opened S t
unfolding openable
opened S t h =
    let aligned = and_parts (t % 4 == 0) (is_executable S t && (is_free S t 4 && is_none (cell_at S (unit_key t)))) h in
    let executable = and_parts (is_executable S t) (is_free S t 4 && is_none (cell_at S (unit_key t))) aligned.1 in
    let free = and_parts (is_free S t 4) (is_none (cell_at S (unit_key t))) executable.1 in
    record { aligned = eqb-true (t % 4) 0 aligned.0; executable = executable.0; free = free.0; empty = none_there (cell_at S (unit_key t)) free.1 }

pub opened-back : (S : Program) (t : ℕ) → Opened S t → openable S t ≡ true
unfolding openable
opened-back S t o = cc

-- ---- no unit has a free byte
apart_from : (S : Program) (t b : ℕ) (o : Option Cell) → is_free S t 4 ≡ true → cell_at S (unit_key b) ≡ o → (b ≡ t → ⊥) → 0 < span unit_len o → (t + 4 ≤ b) ⊎ (b + span unit_len o ≤ t)
apart_from S t b None free here other up = absurd (omega (arith, up))
apart_from S t b (Some c) free here other up =
    elim (cases_lt b t) [
      | inl below ↦ elim (cases_lt t (b + unit_len c.value)) [
        | inl meets ↦ absurd (uncovered S t (free_at S 4 t t free (omega arith) (omega arith)) (unit_key b) c here (omega (arith, below)) meets)
        | inr apart ↦ inr (omega (arith, apart))
      ]
      | inr above ↦ elim (cases_lt b (t + 4)) [
        | inl meets ↦ absurd (uncovered S b (free_at S 4 t b free (omega (arith, above)) meets) (unit_key b) c here (omega arith) (omega (arith, up)))
        | inr apart ↦ inl (omega (arith, apart))
      ]
    ]

-- ---- one unit of a run
abbrev code_cell : ℕ → Cell
code_cell w = record { value = Code w; source = Analysis }

abbrev after : Program → ℕ → ℕ → Program
after S t w = placed S (unit_key t) (Some (code_cell w))

code_suits : (t w : ℕ) → t < 4294967296 → suits (unit_key t) (code_cell w) ≡ true
code_suits t w low = and_from (is_address t) _ (lt-ltb t 4294967296 low) refl

same_code : (v w : ℕ) (s : Source) → code_cell v ≡ record { value = Code w; source = s } → v ≡ w
same_code v w s h = let values : Code v ≡ Code w = ap (λ (c : Cell). c.value) h in cc

module _ (S : Program) (t w : ℕ) (valid : IsValid S) (o : Opened S t) where
  home : Home S t
  home = home_of S t (block S t) valid refl o.executable

  own : suits (unit_key t) (code_cell w) ≡ true
  own = code_suits t w home.address

  valid_code : word S t ≡ Some w → IsValid (after S t w)
  valid_code here =
      valid_unit S t (code_cell w) valid own (home.start, home.low, home.high)
      (λ b other up. apart_from S t b (cell_at S (unit_key b)) o.free refl other up)
      (λ v s same. here ∙ ap Some (same_code w v s same))

  after_block : (u : ℕ) (p : Option ℕ) → block_may_hold (after S t w) u p ≡ block_may_hold S u p
  after_block u None = refl
  after_block u (Some b) = ap (cell_may_hold b u) (other_block S t (code_cell w) valid own b)

  elsewhere : (x : ℕ) → (x < t) ⊎ (t + 4 ≤ x) → (nat_le t x && nat_lt x (t + 4)) ≡ false
  elsewhere x (inl h) = grind (arith, nat_tests)
  elsewhere x (inr h) = grind (arith, nat_tests)

  after_free : (n u : ℕ) → (u + n ≤ t) ⊎ (t + 4 ≤ u) → is_free (after S t w) u n ≡ is_free S u n
  after_free zero u apart = refl
  after_free (suc n) u apart =
      let here : (u < t) ⊎ (t + 4 ≤ u) = elim apart [ inl h ↦ inl (omega (arith, h)) | inr h ↦ inr h ] in
      let next : (u + 1 + n ≤ t) ⊎ (t + 4 ≤ u + 1) = elim apart [ inl h ↦ inl (omega (arith, h)) | inr h ↦ inr (omega (arith, h)) ] in
      let first : cover (after S t w) u ≡ cover S u = same_cover S t (code_cell w) valid own u o.empty (elsewhere u here) in
      let rest = after_free n (u + 1) next in
      λ i. is_none (first i) && rest i

  -- another word that was openable still is
  still_open : (u : ℕ) → (u ≡ t → ⊥) → Opened S u → Opened (after S t w) u
  still_open u other p =
      let t_aligned = o.aligned in
      let u_aligned = p.aligned in
      let apart : (u + 4 ≤ t) ⊎ (t + 4 ≤ u) = elim (cases_lt u t) [ inl h ↦ inl (omega (arith, h, t_aligned, u_aligned)) | inr h ↦ inr (omega (arith, h, other, t_aligned, u_aligned)) ] in
      record {
        aligned = p.aligned;
        executable = ap (block_may_hold (after S t w) u) (same_block S t (code_cell w) valid own u) ∙ after_block u (block S u) ∙ p.executable;
        free = after_free 4 u apart ∙ p.free;
        empty = other_unit S t (code_cell w) valid own u other ∙ p.empty;
      }

-- ---- the units of a run, in turn
abbrev AreOpen : Program → List ℕ → Type 0
AreOpen S [] = Unit {0}
AreOpen S (t ∷ ts) = Opened S t × AreOpen S ts

abbrev AreOthers : ℕ → List ℕ → Type 0
AreOthers t [] = Unit {0}
AreOthers t (u ∷ us) = (u ≡ t → ⊥) × AreOthers t us

abbrev AreDistinct : List ℕ → Type 0
AreDistinct [] = Unit {0}
AreDistinct (t ∷ ts) = AreOthers t ts × AreDistinct ts

all_still_open : (S : Program) (t w : ℕ) (ts : List ℕ) → IsValid S → Opened S t → AreOthers t ts → AreOpen S ts → AreOpen (after S t w) ts
all_still_open S t w [] valid o others are = tt
all_still_open S t w (u ∷ us) valid o others are = (still_open S t w valid o u others.0 are.0, all_still_open S t w us valid o others.1 are.1)

next_fits : (S : Program) (t : ℕ) (ts : List ℕ) (o : Option ℕ) → IsValid S → AreOpen S (t ∷ ts) → AreOthers t ts → word S t ≡ o → ((T : Program) → IsValid T → AreOpen T ts → Fits T (filter_map (code_addition T) ts)) → Fits S (cons_option (option_map (λ w. addition (unit_key t) (Code w)) o) (filter_map (code_addition S) ts))
next_fits S t ts None valid are others here rest = rest S valid are.1
next_fits S t ts (Some w) valid are others here rest =
    let T = after S t w in
    let later : IsValid T = valid_code S t w valid are.0 here in
    let same : code_addition T ≡ code_addition S = λ i u. option_map (λ v. addition (unit_key u) (Code v)) (same_word S t (code_cell w) valid (own S t w valid are.0) u i) in
    (are.0.empty, later, subst (λ (f : ℕ → Option Change). Fits T (filter_map f ts)) same (rest T later (all_still_open S t w ts valid are.0 others are.1)))

units_fit : (ts : List ℕ) → AreDistinct ts → (S : Program) → IsValid S → AreOpen S ts → Fits S (filter_map (code_addition S) ts)
units_fit [] distinct S valid are = tt
units_fit (t ∷ ts) distinct S valid are = next_fits S t ts (word S t) valid are distinct.0 refl (λ T later open_there. units_fit ts distinct.1 T later open_there)

-- ---- a run has each address once, since it is shorter than the memory
run_open : (S : Program) (n t : ℕ) → openable S t ≡ true → AreOpen S (run S t n)
run_open S zero t h = tt
run_open S (suc n) t h = (
  opened S t h,
  cond_both (word_falls (word S t) && is_ready S (next_word t)) (run S (next_word t) n) [] (AreOpen S)
      (λ goes. run_open S n (next_word t) (and_parts (openable S (next_word t)) (decodes (word S (next_word t))) (and_parts (word_falls (word S t)) (is_ready S (next_word t)) goes).1).0)
      (λ h. tt),
)

run_others : (S : Program) (a n j t : ℕ) → a < 4294967296 → t ≡ (a + 4 * j) % 4294967296 → 0 < j → j + n < 1000 → AreOthers a (run S t n)
run_others S a zero j t low is up short = tt
run_others S a (suc n) j t low is up short = (
  (λ same. omega (arith, is, same, up, short, low)),
  cond_both (word_falls (word S t) && is_ready S (next_word t)) (run S (next_word t) n) [] (AreOthers a)
      (λ goes. let next : next_word t ≡ (a + 4 * (j + 1)) % 4294967296 = omega (arith, is) in run_others S a n (j + 1) (next_word t) low next (omega (arith, up)) (omega (arith, short)))
      (λ h. tt),
)

run_distinct : (S : Program) (n t : ℕ) → t < 4294967296 → n < 500 → AreDistinct (run S t n)
run_distinct S zero t low short = tt
run_distinct S (suc n) t low short =
    let next_low : next_word t < 4294967296 = omega arith in (
      cond_both (word_falls (word S t) && is_ready S (next_word t)) (run S (next_word t) n) [] (AreOthers t)
          (λ goes. let next : next_word t ≡ (t + 4 * 1) % 4294967296 = omega arith in run_others S t n 1 (next_word t) low next (omega arith) (omega (arith, short)))
          (λ h. tt),
      cond_both (word_falls (word S t) && is_ready S (next_word t)) (run S (next_word t) n) [] AreDistinct
          (λ goes. run_distinct S n (next_word t) next_low (omega (arith, short)))
          (λ h. tt),
    )

-- ---- a start, and the rule
unmarked : (a b : Bool) → (a || b) ≡ true → a ≡ false → b ≡ true
unmarked true b h no_word = absurd (false≢true (sym no_word))
unmarked false b h no_word = h

abbrev error_cell : Cell
error_cell = record { value = Bookmark bad_instruction; source = Analysis }

error_suits : (t : ℕ) → t < 4294967296 → suits (error_key t) error_cell ≡ true
error_suits t low = and_from (is_address t) _ (lt-ltb t 4294967296 low) refl

bookmark_fits : (S : Program) (t : ℕ) → IsValid S → t < 4294967296 → is_none (cell_at S (error_key t)) ≡ true → Fits S (addition (error_key t) (Bookmark bad_instruction) ∷ [])
bookmark_fits S t valid low none = (
  none_there (cell_at S (error_key t)) none,
  valid_placed S (error_key t) (Some error_cell) valid (λ e. omega (arith, e)) (λ e. omega (arith, e)) (λ c h. ap (suits (error_key t)) (sym (same_Some error_cell c h)) ∙ error_suits t low),
  tt,
)

start_fits : (S : Program) (t : ℕ) → IsValid S → decides S t ≡ true → Fits S (start_changes S t)
start_fits S t valid decided =
    let parts = and_parts (openable S t) (decodes (word S t) || is_none (cell_at S (error_key t))) decided in
    let low : t < 4294967296 = Home.address (home_of S t (block S t) valid refl (Opened.executable (opened S t parts.0))) in
    cond_both (decodes (word S t)) (filter_map (code_addition S) (run S t 256)) (addition (error_key t) (Bookmark bad_instruction) ∷ []) (Fits S)
    (λ good. units_fit (run S t 256) (run_distinct S 256 t low (omega arith)) S valid (run_open S 256 t parts.0))
    (λ bad. bookmark_fits S t valid low (unmarked (decodes (word S t)) (is_none (cell_at S (error_key t))) parts.1 bad))

first_fits : (S : Program) (ts : List ℕ) → IsValid S → Fits S (flow_changes S (first_where (decides S) ts))
first_fits S [] valid = tt
first_fits S (t ∷ ts) valid = cond_both (decides S t) (Some t) (first_where (decides S) ts) (λ o. Fits S (flow_changes S o)) (start_fits S t valid) (λ h. first_fits S ts valid)

pub fits : FittingLaw Flow
unfolding rule flow_rule
fits S x valid = first_fits S (starts S x) valid
