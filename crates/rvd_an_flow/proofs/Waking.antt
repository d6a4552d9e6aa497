-- The wake law of flow: where a change wakes flow at x not, each start of x that decides after the change decided before
-- it. `law` says it whole.
use Rattle.std.proofs.Common.{◌≡◌, ℕ, zero, suc, ◌+◌, ◌-◌, ◌%◌, ◌<◌, ◌≤◌, Bool, true, false, cond, ◌&&◌, ◌||◌, List, [], ◌∷◌, ◌++◌, Option, Some, None, refl, sym, ap, ◌∙◌, inl, inr, arith}
use Rattle.std.specs.Prelude.{filter_map, find as first_where, is_none, nat_lt, nat_le, ◌==◌}
use Rattle.std.specs.List.{list_any, cons_option}
use Rattle.std.specs.Option.{option_map, option_and_then}
use Rattle.std.specs.Int.{from_le_bytes, w32}
use Rattle.std.proofs.lemmas.Bool.{and_from, and_parts, both_ways, cases_Bool, cases_eq, cond_both, eq-eqb, eqb-true, false_from_ne_true, false≢true, leb-true, lt-ltb, ltb-true, or_cases, or_from, or_left, or_parts, or_right, true≢false}
use Rattle.rvd_fact.specs.declared.keys.Kind.{Kind}
use Rattle.rvd_fact.specs.declared.keys.Kind.TheVariants as kind
use Rattle.rvd_fact.specs.declared.keys.Key.{Key}
use Rattle.rvd_fact.specs.declared.cells.Cell.{Cell}
use Rattle.rvd_fact.specs.declared.cells.Change.{Change}
use Rattle.rvd_fact.specs.declared.values.Form.{Form}
use Rattle.rvd_fact.specs.declared.values.Form.TheVariants.{Byte, Half, Word, Str}
use Rattle.rvd_fact.specs.declared.values.RefClass.{RefClass}
use Rattle.rvd_fact.specs.declared.values.Value.{Value}
use Rattle.rvd_fact.specs.declared.values.Value.TheVariants.{Block, Mark, Func, Body, Symbol, Comment, Bookmark, Code, Plain, Ref, Gone}
use Rattle.rvd_fact.specs.Order.{rank}
use Rattle.rvd_fact.specs.Program.{Program, applied, cell_at, is_present}
use Rattle.rvd_fact.specs.Memory.{block, block_key, bytes_in, cover, covers, form_len, func_key, unit_key, is_instruction, ref_of, refs_from, surrounds, unit_len, word}
use Rattle.rvd_fact.specs.Valid.{is_of, is_whole, suits}
use Rattle.rvd_fact.proofs.KeyOrder.{cases_key}
use Rattle.rvd_fact.proofs.Placing.{PassesOver, first-placed, scan-placed}
use Rattle.rvd_fact.proofs.Programs.{cell_at-placed}
use Rattle.rvd_fact.proofs.Scans.{Found, found}
use Rattle.rvd_fact.proofs.Validity.{cell_at_other, cell_at_placed, no_surround, suits-is_of}
use Rattle.rvd_decode.specs.Flow.{falls_through}
use Rattle.rvd_ask.specs.declared.asks.Analyzer.TheVariants.{Flow}
use Rattle.rvd_ask.specs.Places.{cell_instruction, error_key, mark_key, next_word}
use Rattle.rvd_ask.specs.Flow.{block_may_hold, cell_may_hold, decides, decodes, flow_changes, flow_rule, flow_target, is_executable, is_free, openable, starts}
use Rattle.rvd_ask.specs.Rules.{rule}
use Rattle.rvd_ask.specs.Wake.{Leads, WakeLaw, around, bytes_gone, comes_near, comes_to, gone_from, is_flow_candidate, is_unit_of, meets, same_form, same_unit, stood_on, wakes, wakes_flow}
use Rattle.rvd_an_flow.proofs.Coming.{AreComing, no_change, no_starts, none_decides, starts_come}
use Rattle.rvd_an_flow.proofs.Fitting.{Opened, opened, opened-back}
use Rattle.rvd_ask.proofs.Units.{any_covers, free_at, stands, stands_on, uncovered, unfree, unit_rank, unit_same}
use Rattle.rvd_fact.proofs.Suiting.{whole_there}
use Rattle.std.proofs.lemmas.Option.{same_Some, none-some}

-- ---- values of units
-- what isn't of a reference's kind is no reference
no_ref : (slot : ℕ) (K : Kind) (v : Value) → is_of K v ≡ true → (rank K ≡ 8 → ⊥) → ref_of slot v ≡ None
no_ref slot K (Ref to class) of other = absurd (other (eqb-true (rank K) 8 of))
no_ref slot K (Block len perm bytes) of other = refl
no_ref slot K Mark of other = refl
no_ref slot K Func of other = refl
no_ref slot K (Body ranges) of other = refl
no_ref slot K (Symbol name) of other = refl
no_ref slot K (Comment text) of other = refl
no_ref slot K (Bookmark text) of other = refl
no_ref slot K (Code w) of other = refl
no_ref slot K (Plain f) of other = refl
no_ref slot K Gone of other = refl

-- ---- scans
-- a word that meets a range is among those around it
in_around : (p : ℕ → Bool) (z t : ℕ) → p t ≡ true → z < t + 4 → (n : ℕ) → t < z + n → list_any p (around z n) ≡ true
in_around p z t h low zero high =
    elim (cases_eq t (z - 3)) [
      | inl same ↦ or_left (p (z - 3)) _ (ap p (sym same) ∙ h)
      | inr not_3 ↦ or_right (p (z - 3)) _ (elim (cases_eq t (z - 2)) [
        | inl same ↦ or_left (p (z - 2)) _ (ap p (sym same) ∙ h)
        | inr not_2 ↦ let last : t ≡ z - 1 = omega (arith, low, high, not_3, not_2) in or_right (p (z - 2)) _ (or_left (p (z - 1)) _ (ap p (sym last) ∙ h))
      ])
    ]
in_around p z t h low (suc n) high = elim (cases_eq t (z + n)) [
  | inl same ↦ or_left (p (z + n)) _ (ap p (sym same) ∙ h)
  | inr other ↦ or_right (p (z + n)) _ (in_around p z t h low n (omega (arith, high, other)))
]

-- ---- what a change that wakes flow not is not
asleep_block : (T : Program) (c : Change) (x : ℕ) (K : Kind) → wakes_flow K T c x ≡ false → rank K ≡ 0 → is_flow_candidate T x ≡ false
asleep_block T c x kind.Block h e = h
asleep_block T c x kind.Mark h e = absurd (omega (arith, e))
asleep_block T c x kind.Func h e = absurd (omega (arith, e))
asleep_block T c x kind.Body h e = absurd (omega (arith, e))
asleep_block T c x kind.Symbol h e = absurd (omega (arith, e))
asleep_block T c x kind.Comment h e = absurd (omega (arith, e))
asleep_block T c x kind.Bookmark h e = absurd (omega (arith, e))
asleep_block T c x kind.Unit h e = absurd (omega (arith, e))
asleep_block T c x kind.Ref h e = absurd (omega (arith, e))

asleep_ref : (T : Program) (c : Change) (x : ℕ) (K : Kind) → wakes_flow K T c x ≡ false → rank K ≡ 8 → (x == c.key.at) ≡ false
asleep_ref T c x kind.Ref h e = h
asleep_ref T c x kind.Block h e = absurd (omega (arith, e))
asleep_ref T c x kind.Mark h e = absurd (omega (arith, e))
asleep_ref T c x kind.Func h e = absurd (omega (arith, e))
asleep_ref T c x kind.Body h e = absurd (omega (arith, e))
asleep_ref T c x kind.Symbol h e = absurd (omega (arith, e))
asleep_ref T c x kind.Comment h e = absurd (omega (arith, e))
asleep_ref T c x kind.Bookmark h e = absurd (omega (arith, e))
asleep_ref T c x kind.Unit h e = absurd (omega (arith, e))

asleep_unit : (T : Program) (c : Change) (x : ℕ) (K : Kind) → wakes_flow K T c x ≡ false → rank K ≡ 7 → comes_near T c.key.at (gone_from c) x ≡ false
asleep_unit T c x kind.Unit h e = (or_parts (x == c.key.at) (comes_near T c.key.at (gone_from c) x) h).1
asleep_unit T c x kind.Block h e = absurd (omega (arith, e))
asleep_unit T c x kind.Mark h e = absurd (omega (arith, e))
asleep_unit T c x kind.Func h e = absurd (omega (arith, e))
asleep_unit T c x kind.Body h e = absurd (omega (arith, e))
asleep_unit T c x kind.Symbol h e = absurd (omega (arith, e))
asleep_unit T c x kind.Comment h e = absurd (omega (arith, e))
asleep_unit T c x kind.Bookmark h e = absurd (omega (arith, e))
asleep_unit T c x kind.Ref h e = absurd (omega (arith, e))

abbrev ref_at : ℕ → Key × Cell → Option (ℕ × RefClass × ℕ)
ref_at x e = cond (e.0.at == x) (ref_of e.0.sub e.1.value) None

module _ (S : Program) (c : Change) (x : ℕ) (l : Leads S c) (asleep : wakes_flow c.key.kind (applied S c) c x ≡ false) where
  abbrev T : Program
  T = applied S c

  at_changed : cell_at T c.key ≡ c.after
  at_changed = cell_at_placed S c.key c.after

  other_cell : (k : Key) → (c.key ≡ k → ⊥) → cell_at T k ≡ cell_at S k
  other_cell k other = cell_at_other S c.key c.after k (λ e. other (sym e))

  suits_before : (d : Cell) → cell_at S c.key ≡ Some d → suits c.key d ≡ true
  suits_before d h = l.before.cells c.key d h

  suits_after : (d : Cell) → c.after ≡ Some d → suits c.key d ≡ true
  suits_after d h = l.after.cells c.key d (at_changed ∙ h)

  -- a change at this key, of a kind that wakes flow at its address, isn't asleep
  not_here : (k : Key) → wakes_flow k.kind T c x ≡ (x == c.key.at) → k.at ≡ x → c.key ≡ k → ⊥
  not_here k wakes_it at e =
      let here : x ≡ c.key.at = sym at ∙ ap (λ (q : Key). q.at) (sym e) in
      both_ways (wakes_flow c.key.kind T c x) asleep (ap (λ (q : Key). wakes_flow q.kind T c x) e ∙ wakes_it ∙ eq-eqb x c.key.at here)

  same_mark : cell_at T (mark_key x) ≡ cell_at S (mark_key x)
  same_mark = other_cell (mark_key x) (not_here (mark_key x) refl refl)

  same_func : cell_at T (func_key x) ≡ cell_at S (func_key x)
  same_func = other_cell (func_key x) (not_here (func_key x) refl refl)

  same_unit_cell : cell_at T (unit_key x) ≡ cell_at S (unit_key x)
  same_unit_cell = other_cell (unit_key x) (λ e.
      let here : x ≡ c.key.at = ap (λ (q : Key). q.at) (sym e) in
      both_ways (wakes_flow c.key.kind T c x) asleep (ap (λ (q : Key). wakes_flow q.kind T c x) e ∙ or_left (x == c.key.at) _ (eq-eqb x c.key.at here)))

  -- the references from x stay
  over_refs : (o : Option Cell) → ((d : Cell) → o ≡ Some d → suits c.key d ≡ true) → PassesOver (λ (e : Key × Cell) (rs : List (ℕ × RefClass × ℕ)). cons_option (ref_at x e) rs) c.key o
  over_refs None fits = tt
  over_refs (Some d) fits = λ rs. ap (λ o. cons_option o rs) (cond_both (c.key.at == x) (ref_of c.key.sub d.value) None (λ o. o ≡ None)
      (λ here. no_ref c.key.sub c.key.kind d.value (suits-is_of c.key d (fits d refl)) (λ e. both_ways (x == c.key.at) (asleep_ref T c x c.key.kind asleep e) (eq-eqb x c.key.at (sym (eqb-true c.key.at x here)))))
      (λ h. refl))

  by_steps : (e : Key × Cell) (es : Program) → refs_from (e ∷ es) x ≡ cons_option (ref_at x e) (refs_from es x)
  by_steps e es = refl

  same_refs : refs_from T x ≡ refs_from S x
  same_refs = scan-placed (λ es. refs_from es x) (λ (e : Key × Cell) (rs : List (ℕ × RefClass × ℕ)). cons_option (ref_at x e) rs) by_steps c.key S c.after l.before.in_order (over_refs (cell_at S c.key) suits_before) (over_refs c.after suits_after)

  same_starts : starts T x ≡ starts S x
  same_starts = λ i.
      cond (is_present (same_mark i) || is_present (same_func i)) (x ∷ []) []
      ++ cond (is_instruction (same_unit_cell i)) (cond (falls_through (cell_instruction (same_unit_cell i))) (next_word x ∷ []) [] ++ filter_map flow_target (same_refs i)) []

  -- ---- a change of no block
  module _ (no_block : rank c.key.kind ≡ 0 → ⊥) where
    same_around : (t : ℕ) → first_where (surrounds t) T ≡ first_where (surrounds t) S
    same_around t =
        first-placed (surrounds t) S c.key c.after l.before.in_order
        (no_surround t c.key (cell_at S c.key) no_block suits_before)
        (no_surround t c.key c.after no_block suits_after)

    same_word : (t : ℕ) → word T t ≡ word S t
    same_word t = ap (λ (e : Option (Key × Cell)). option_map (from_le_bytes w32) (option_and_then (λ (y : Key × Cell). bytes_in y.0.at t 4 y.1.value) e)) (same_around t)

    same_block : (t : ℕ) → block T t ≡ block S t
    same_block t = ap (option_map (λ (e : Key × Cell). e.0.at)) (same_around t)

    same_hold : (t : ℕ) (o : Option ℕ) → block_may_hold T t o ≡ block_may_hold S t o
    same_hold t None = refl
    same_hold t (Some b) = ap (cell_may_hold b t) (other_cell (block_key b) (λ e. no_block (ap (λ (q : Key). rank q.kind) e)))

    same_executable : (t : ℕ) → is_executable T t ≡ is_executable S t
    same_executable t = ap (block_may_hold T t) (same_block t) ∙ same_hold t (block S t)

    -- a word that bytes were taken from isn't come to
    gone_near : (t : ℕ) → rank c.key.kind ≡ 7 → t % 4 ≡ 0 → comes_to T x t ≡ true → 0 < gone_from c → t < c.key.at + gone_from c → c.key.at < t + 4 → ⊥
    gone_near t is_unit aligned comes some high low =
        both_ways (comes_near T c.key.at (gone_from c) x) (asleep_unit T c x c.key.kind asleep is_unit)
        (in_around (λ u. meets c.key.at (gone_from c) u && comes_to T x u) c.key.at t
        (and_from (meets c.key.at (gone_from c) t) (comes_to T x t)
        (and_from (t % 4 == 0) _ (eq-eqb (t % 4) 0 aligned)
        (and_from (nat_lt 0 (gone_from c)) _ (lt-ltb 0 (gone_from c) some)
        (and_from (nat_lt t (c.key.at + gone_from c)) _ (lt-ltb t (c.key.at + gone_from c) high) (lt-ltb c.key.at (t + 4) low)))) comes)
        low (gone_from c) high)

    -- no unit that had a byte of the word is gone
    taken : (t v : ℕ) → t % 4 ≡ 0 → comes_to T x t ≡ true → t ≤ v → v < t + 4 → cover T v ≡ None → Found (covers v) S → ⊥
    taken t v aligned comes low high none f =
        let span = and_parts (nat_le f.key.at v) (nat_lt v (f.key.at + unit_len f.cell.value)) f.passes in
        let starts_low : f.key.at ≤ v = leb-true f.key.at v span.0 in
        let ends_high : v < f.key.at + unit_len f.cell.value = ltb-true v (f.key.at + unit_len f.cell.value) span.1 in
        elim (cases_key f.key c.key) [
          | inr apart ↦ uncovered T v none f.key f.cell (cell_at-placed S c.key c.after f.key ∙ ap (λ (b : Bool). cond b c.after (cell_at S f.key)) apart ∙ f.here) starts_low ends_high
          | inl same ↦
              let at : f.key.at ≡ c.key.at = ap (λ (q : Key). q.at) same in
              let here : cell_at S c.key ≡ Some f.cell = ap (cell_at S) (sym same) ∙ f.here in
              let long : 0 < unit_len f.cell.value = omega (arith, starts_low, ends_high) in
              let is_unit : rank c.key.kind ≡ 7 = unit_rank c.key.kind f.cell.value (suits-is_of c.key f.cell (suits_before f.cell here)) long in
              elim (cases_Bool (is_unit_of f.cell.value c.after)) [
                | inl stays ↦ still f.cell.value c.after refl long stays (omega (arith, at, starts_low)) (omega (arith, at, ends_high))
                | inr goes ↦
                    let gone : gone_from c ≡ unit_len f.cell.value = ap (λ o. bytes_gone o c.after) (sym l.here ∙ here) ∙ ap (λ b. cond b 0 (stood_on f.cell.value)) goes ∙ stands f.cell.value long in
                    gone_near t is_unit aligned comes (omega (arith, gone, long)) (omega (arith, gone, at, low, ends_high)) (omega (arith, at, starts_low, high))
              ]
        ]
      where
        -- the unit is there still
        still : (u : Value) (o : Option Cell) → c.after ≡ o → 0 < unit_len u → is_unit_of u o ≡ true → c.key.at ≤ v → v < c.key.at + unit_len u → ⊥
        still u None is long stays low high = false≢true stays
        still u (Some d) is long stays low high =
            let same : unit_len d.value ≡ unit_len u = unit_same u d.value long stays in
            uncovered T v none c.key d (at_changed ∙ is) low (omega (arith, same, high))

    -- the word was free
    was_free : (t : ℕ) → t % 4 ≡ 0 → comes_to T x t ≡ true → is_free T t 4 ≡ true → is_free S t 4 ≡ true
    was_free t aligned comes free = elim (cases_Bool (is_free S t 4)) [
      | inl was ↦ was
      | inr not_so ↦
          let at = unfree S 4 t not_so in
          absurd (taken t at.0 aligned comes at.1 at.2 (free_at T 4 t at.0 free at.1 at.2) (found (covers at.0) S l.before.in_order (any_covers at.0 S at.3)))
    ]

    -- and had no cell of a unit
    was_empty : (t : ℕ) (o : Option Cell) → t % 4 ≡ 0 → comes_to T x t ≡ true → cell_at T (unit_key t) ≡ None → cell_at S (unit_key t) ≡ o → o ≡ None
    was_empty t None aligned comes empty here = refl
    was_empty t (Some d) aligned comes empty here =
        absurd (elim (cases_key (unit_key t) c.key) [
          | inr apart ↦ none-some d (sym empty ∙ cell_at-placed S c.key c.after (unit_key t) ∙ ap (λ (b : Bool). cond b c.after (cell_at S (unit_key t))) apart ∙ here)
          | inl same ↦
              let at : t ≡ c.key.at = ap (λ (q : Key). q.at) same in
              let is_unit : 7 ≡ rank c.key.kind = ap (λ (q : Key). rank q.kind) same in
              let before : c.before ≡ Some d = sym l.here ∙ ap (cell_at S) (sym same) ∙ here in
              let after : c.after ≡ None = sym at_changed ∙ ap (cell_at T) (sym same) ∙ empty in
              let own : suits (unit_key t) d ≡ true = l.before.cells (unit_key t) d here in
              let some : 0 < stood_on d.value = stands_on t d.value (suits-is_of (unit_key t) d own) (whole_there (unit_key t) d own) in
              let gone : gone_from c ≡ stood_on d.value = (λ i. bytes_gone (before i) (after i)) in
              gone_near t (sym is_unit) aligned comes (omega (arith, gone, some)) (omega (arith, at, gone, some)) (omega (arith, at))
        ])

    was_open : (t : ℕ) → comes_to T x t ≡ true → openable T t ≡ true → openable S t ≡ true
    was_open t comes h =
        let o : Opened T t = opened T t h in
        opened-back S t (record {
          aligned = o.aligned;
          executable = sym (same_executable t) ∙ o.executable;
          free = was_free t o.aligned comes o.free;
          empty = was_empty t (cell_at S (unit_key t)) o.aligned comes o.empty refl;
        })

    -- the word had no bookmark of an error
    was_unmarked : (t : ℕ) → comes_to T x t ≡ true → is_none (cell_at T (error_key t)) ≡ true → is_none (cell_at S (error_key t)) ≡ true
    was_unmarked t comes none = elim (cases_key (error_key t) c.key) [
      | inr apart ↦ sym (ap is_none (cell_at-placed S c.key c.after (error_key t) ∙ ap (λ (b : Bool). cond b c.after (cell_at S (error_key t))) apart)) ∙ none
      | inl same ↦
          let after : is_none c.after ≡ true = ap is_none (sym at_changed ∙ ap (cell_at T) (sym same)) ∙ none in
          absurd (both_ways (wakes_flow c.key.kind T c x) asleep
          (ap (λ (q : Key). wakes_flow q.kind T c x) (sym same)
          ∙ and_from (c.key.sub == 4) (is_none c.after && comes_to T x c.key.at) (eq-eqb c.key.sub 4 (ap (λ (q : Key). q.sub) (sym same)))
          (and_from (is_none c.after) (comes_to T x c.key.at) after (ap (λ (q : Key). comes_to T x q.at) (sym same) ∙ comes))))
    ]

    decided : (t : ℕ) → comes_to T x t ≡ true → decides T t ≡ true → decides S t ≡ true
    decided t comes h =
        let parts = and_parts (openable T t) (decodes (word T t) || is_none (cell_at T (error_key t))) h in
        and_from (openable S t) (decodes (word S t) || is_none (cell_at S (error_key t))) (was_open t comes parts.0)
        (elim (or_cases (decodes (word T t)) (is_none (cell_at T (error_key t))) parts.1) [
          | inl good ↦ or_left (decodes (word S t)) _ (sym (ap decodes (same_word t)) ∙ good)
          | inr unmarked ↦ or_right (decodes (word S t)) _ (was_unmarked t comes unmarked)
        ])

    none_now : (ts : List ℕ) → AreComing T x ts → list_any (decides S) ts ≡ false → list_any (decides T) ts ≡ false
    none_now [] comes h = refl
    none_now (t ∷ ts) comes h =
        let parts = or_parts (decides S t) (list_any (decides S) ts) h in
        or_from (decides T t) (list_any (decides T) ts) (false_from_ne_true (decides T t) (λ now. both_ways (decides S t) parts.0 (decided t comes.0 now))) (none_now ts comes.1 parts.1)

    settled : x < 4294967296 → flow_changes S (first_where (decides S) (starts S x)) ≡ [] → flow_changes T (first_where (decides T) (starts T x)) ≡ []
    settled low h =
        no_change T (starts T x) (none_now (starts T x) (starts_come T x low) (ap (list_any (decides S)) same_starts ∙ none_decides S (starts S x) h))

  pub settled_still : x < 4294967296 → flow_changes S (first_where (decides S) (starts S x)) ≡ [] → flow_changes T (first_where (decides T) (starts T x)) ≡ []
  settled_still low h = elim (cases_eq (rank c.key.kind) 0) [
    | inl is_block ↦ ap (λ ts. flow_changes T (first_where (decides T) ts)) (no_starts T x (asleep_block T c x c.key.kind asleep is_block))
    | inr no_block ↦ settled no_block low h
  ]

pub law : WakeLaw Flow
unfolding rule flow_rule wakes
law S c x low l asleep before = settled_still S c x l asleep low before
