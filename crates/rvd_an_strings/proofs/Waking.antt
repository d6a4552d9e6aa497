-- A change that doesn't wake the rule of strings at an address leaves it without a change where it had none: `waking`.
use Rattle.std.proofs.Common.{◌≡◌, ℕ, ◌+◌, ◌<◌, ◌≤◌, Bool, true, false, cond, ◌&&◌, ◌||◌, [], ◌∷◌, length, Option, Some, None, refl, sym, ap, ◌∙◌, inl, inr, arith}
use Rattle.std.specs.Prelude.{is_none, nat_lt, nat_le, ◌==◌}
use Rattle.std.specs.Option.{option_map_or}
use Rattle.std.proofs.lemmas.Bool.{and_from, and_left, and_parts, both_ways, cases_Bool, cases_eq, eqb-true, false_from_ne_true, le-leb, leb-true, lt-ltb, ltb-true, or_parts}
use Rattle.rvd_fact.specs.declared.keys.Key.{Key}
use Rattle.rvd_fact.specs.declared.keys.Kind.{Kind}
use Rattle.rvd_fact.specs.declared.keys.Kind.TheVariants as kind
use Rattle.rvd_fact.specs.declared.cells.Cell.{Cell}
use Rattle.rvd_fact.specs.declared.cells.Change.{Change}
use Rattle.rvd_fact.specs.declared.values.Form.TheVariants.{Str}
use Rattle.rvd_fact.specs.declared.values.RefClass.{RefClass}
use Rattle.rvd_fact.specs.declared.values.RefClass.TheVariants.{Datum, Read}
use Rattle.rvd_fact.specs.declared.values.Value.{Value}
use Rattle.rvd_fact.specs.declared.values.Value.TheVariants.{Block, Mark, Func, Body, Symbol, Comment, Bookmark, Code, Plain, Ref, Gone}
use Rattle.rvd_fact.specs.Order.{rank}
use Rattle.rvd_fact.specs.Program.{Program, applied, cell_at}
use Rattle.rvd_fact.specs.Memory.{cover, covers, has_ref_to, refers, surrounds, unit_key, unit_len}
use Rattle.rvd_fact.specs.Valid.{is_of, suits}
use Rattle.rvd_fact.proofs.KeyOrder.{cases_key}
use Rattle.rvd_fact.proofs.Placing.{Fails, any-placed, first-placed}
use Rattle.rvd_fact.proofs.Programs.{cell_at-placed}
use Rattle.rvd_fact.proofs.Scans.{Found, found}
use Rattle.rvd_fact.proofs.Validity.{cell_at_placed, no_surround, suits-is_of}
use Rattle.rvd_ask.specs.declared.asks.Analyzer.TheVariants.{Strings}
use Rattle.rvd_ask.specs.Flow.{is_free}
use Rattle.rvd_ask.specs.Places.{addition}
use Rattle.rvd_ask.specs.Rules.{rule}
use Rattle.rvd_ask.specs.Strings.{is_read_at, string_changes, string_len, strings_rule, tail, tail_in, text_len}
use Rattle.rvd_ask.specs.Wake.{Leads, WakeLaw, bytes_gone, cell_goes_to, gone_from, goes_to, is_unit_of, meets_string, stood_on, wakes, wakes_strings}
use Rattle.rvd_an_strings.proofs.Strings.{Bounded, string_is, string_low}
use Rattle.rvd_ask.proofs.Units.{any_covers, free_at, stands, stands_on, uncovered, unfree, unit_rank, unit_same, none_there}
use Rattle.rvd_an_strings.proofs.Wholes.{read_changes, unread_changes}
use Rattle.rvd_fact.proofs.Suiting.{whole_there}

-- ---- what a change that doesn't wake the rule is not
asleep_block : (T : Program) (c : Change) (t : ℕ) (K : Kind) → wakes_strings K T c t ≡ false → rank K ≡ 0 → is_read_at T t ≡ false
asleep_block T c t kind.Block h e = h
asleep_block T c t kind.Mark h e = absurd (omega (arith, e))
asleep_block T c t kind.Func h e = absurd (omega (arith, e))
asleep_block T c t kind.Body h e = absurd (omega (arith, e))
asleep_block T c t kind.Symbol h e = absurd (omega (arith, e))
asleep_block T c t kind.Comment h e = absurd (omega (arith, e))
asleep_block T c t kind.Bookmark h e = absurd (omega (arith, e))
asleep_block T c t kind.Unit h e = absurd (omega (arith, e))
asleep_block T c t kind.Ref h e = absurd (omega (arith, e))

asleep_ref : (T : Program) (c : Change) (t : ℕ) (K : Kind) → wakes_strings K T c t ≡ false → rank K ≡ 8 → (cell_goes_to t c.before || cell_goes_to t c.after) ≡ false
asleep_ref T c t kind.Ref h e = h
asleep_ref T c t kind.Block h e = absurd (omega (arith, e))
asleep_ref T c t kind.Mark h e = absurd (omega (arith, e))
asleep_ref T c t kind.Func h e = absurd (omega (arith, e))
asleep_ref T c t kind.Body h e = absurd (omega (arith, e))
asleep_ref T c t kind.Symbol h e = absurd (omega (arith, e))
asleep_ref T c t kind.Comment h e = absurd (omega (arith, e))
asleep_ref T c t kind.Bookmark h e = absurd (omega (arith, e))
asleep_ref T c t kind.Unit h e = absurd (omega (arith, e))

asleep_unit : (T : Program) (c : Change) (t : ℕ) (K : Kind) → wakes_strings K T c t ≡ false → rank K ≡ 7 → meets_string T c.key.at (gone_from c) t ≡ false
asleep_unit T c t kind.Unit h e = h
asleep_unit T c t kind.Block h e = absurd (omega (arith, e))
asleep_unit T c t kind.Mark h e = absurd (omega (arith, e))
asleep_unit T c t kind.Func h e = absurd (omega (arith, e))
asleep_unit T c t kind.Body h e = absurd (omega (arith, e))
asleep_unit T c t kind.Symbol h e = absurd (omega (arith, e))
asleep_unit T c t kind.Comment h e = absurd (omega (arith, e))
asleep_unit T c t kind.Bookmark h e = absurd (omega (arith, e))
asleep_unit T c t kind.Ref h e = absurd (omega (arith, e))

-- what doesn't go to t refers to t in no class
no_refer : (t : ℕ) (class : RefClass) (K : Kind) (v : Value) → is_of K v ≡ true → (rank K ≡ 8 → goes_to t v ≡ false) → refers t class v ≡ false
no_refer t class K (Ref to own) of other = and_left (to == t) _ (other (eqb-true (rank K) 8 of))
no_refer t class K (Block len perm bytes) of other = refl
no_refer t class K Mark of other = refl
no_refer t class K Func of other = refl
no_refer t class K (Body ranges) of other = refl
no_refer t class K (Symbol name) of other = refl
no_refer t class K (Comment text) of other = refl
no_refer t class K (Bookmark text) of other = refl
no_refer t class K (Code w) of other = refl
no_refer t class K (Plain f) of other = refl
no_refer t class K Gone of other = refl

nothing_added : (b : Bool) (x : Change) → cond b (x ∷ []) [] ≡ [] → b ≡ false
nothing_added true x h = absurd cc
nothing_added false x h = refl

module _ (S : Program) (c : Change) (t : ℕ) (l : Leads S c) (asleep : wakes_strings c.key.kind (applied S c) c t ≡ false) where
  abbrev T : Program
  T = applied S c

  at_changed : cell_at T c.key ≡ c.after
  at_changed = cell_at_placed S c.key c.after

  suits_before : (d : Cell) → cell_at S c.key ≡ Some d → suits c.key d ≡ true
  suits_before d h = l.before.cells c.key d h

  suits_after : (d : Cell) → c.after ≡ Some d → suits c.key d ≡ true
  suits_after d h = l.after.cells c.key d (at_changed ∙ h)

  -- ---- the references to t stay
  no_refer_in : (class : RefClass) (o : Option Cell) → ((d : Cell) → o ≡ Some d → suits c.key d ≡ true) → (rank c.key.kind ≡ 8 → cell_goes_to t o ≡ false) → Fails (λ (e : Key × Cell). refers t class e.1.value) c.key o
  no_refer_in class None fits other = tt
  no_refer_in class (Some d) fits other = no_refer t class c.key.kind d.value (suits-is_of c.key d (fits d refl)) other

  same_ref : (class : RefClass) → has_ref_to T t class ≡ has_ref_to S t class
  same_ref class =
      any-placed (λ (e : Key × Cell). refers t class e.1.value) S c.key c.after l.before.in_order
      (no_refer_in class (cell_at S c.key) suits_before (λ e. ap (cell_goes_to t) l.here ∙ (or_parts (cell_goes_to t c.before) (cell_goes_to t c.after) (asleep_ref T c t c.key.kind asleep e)).0))
      (no_refer_in class c.after suits_after (λ e. (or_parts (cell_goes_to t c.before) (cell_goes_to t c.after) (asleep_ref T c t c.key.kind asleep e)).1))

  same_read : is_read_at T t ≡ is_read_at S t
  same_read = λ i. same_ref Datum i || same_ref Read i

  -- ---- a change of no block, where something refers to t
  module _ (no_block : rank c.key.kind ≡ 0 → ⊥) (read : is_read_at T t ≡ true) where
    same_tail : tail T t ≡ tail S t
    same_tail =
        ap (λ (o : Option (Key × Cell)). option_map_or (λ (e : Key × Cell). tail_in e.0.at t e.1.value) o [])
        (first-placed (surrounds t) S c.key c.after l.before.in_order
        (no_surround t c.key (cell_at S c.key) no_block suits_before)
        (no_surround t c.key c.after no_block suits_after))

    same_len : string_len T t ≡ string_len S t
    same_len = string_is T t (text_len 255 (tail S t)) (ap (text_len 255) same_tail) ∙ sym (string_is S t (text_len 255 (tail S t)) refl)

    -- no bytes of the string are gone
    gone_near : rank c.key.kind ≡ 7 → 0 < gone_from c → c.key.at ≤ t + 255 → t < c.key.at + gone_from c → ⊥
    gone_near is_unit some low high =
        both_ways (meets_string T c.key.at (gone_from c) t) (asleep_unit T c t c.key.kind asleep is_unit)
        (and_from (nat_lt 0 (gone_from c)) _ (lt-ltb 0 (gone_from c) some)
        (and_from (nat_le c.key.at (t + 255)) _ (le-leb c.key.at (t + 255) low)
        (and_from (nat_lt t (c.key.at + gone_from c)) (is_read_at T t) (lt-ltb t (c.key.at + gone_from c) high) read)))

    -- a unit that had one of the bytes is there still
    still : (v : ℕ) → cover T v ≡ None → (u : Value) (o : Option Cell) → c.after ≡ o → 0 < unit_len u → is_unit_of u o ≡ true → c.key.at ≤ v → v < c.key.at + unit_len u → ⊥
    still v none u None is long stays low high = absurd cc
    still v none u (Some d) is long stays low high =
        let same : unit_len d.value ≡ unit_len u = unit_same u d.value long stays in
        uncovered T v none c.key d (at_changed ∙ is) low (omega (arith, same, high))

    taken : (v : ℕ) → t ≤ v → v < t + 256 → cover T v ≡ None → Found (covers v) S → ⊥
    taken v low high none f =
        let span = and_parts (nat_le f.key.at v) (nat_lt v (f.key.at + unit_len f.cell.value)) f.passes in
        let starts_low : f.key.at ≤ v = leb-true f.key.at v span.0 in
        let ends_high : v < f.key.at + unit_len f.cell.value = ltb-true v (f.key.at + unit_len f.cell.value) span.1 in
        elim (cases_key f.key c.key) [
          | inr apart ↦ uncovered T v none f.key f.cell (cell_at-placed S c.key c.after f.key ∙ ap (λ (b : Bool). cond b c.after (cell_at S f.key)) apart ∙ f.here) starts_low ends_high
          | inl same ↦
              let at : f.key.at ≡ c.key.at = ap (λ (q : Key). q.at) same in
              let here : cell_at S c.key ≡ Some f.cell = ap (cell_at S) (sym same) ∙ f.here in
              let long : 0 < unit_len f.cell.value = omega (arith, starts_low, ends_high) in
              let is_unit : rank c.key.kind ≡ 7 = unit_rank c.key.kind f.cell.value (suits-is_of c.key f.cell (suits_before f.cell here)) long in
              elim (cases_Bool (is_unit_of f.cell.value c.after)) [
                | inl stays ↦ still v none f.cell.value c.after refl long stays (omega (arith, at, starts_low)) (omega (arith, at, ends_high))
                | inr goes ↦
                    let gone : gone_from c ≡ unit_len f.cell.value = ap (λ o. bytes_gone o c.after) (sym l.here ∙ here) ∙ ap (λ b. cond b 0 (stood_on f.cell.value)) goes ∙ stands f.cell.value long in
                    gone_near is_unit (omega (arith, gone, long)) (omega (arith, at, starts_low, high)) (omega (arith, gone, at, low, ends_high))
              ]
        ]

    -- the bytes were free
    was_free : (len : ℕ) → len ≤ 256 → is_free T t len ≡ true → is_free S t len ≡ true
    was_free len short free = elim (cases_Bool (is_free S t len)) [
      | inl was ↦ was
      | inr not_so ↦
          let at = unfree S len t not_so in
          absurd (taken at.0 at.1 (omega (arith, at.2, short)) (free_at T len t at.0 free at.1 at.2) (found (covers at.0) S l.before.in_order (any_covers at.0 S at.3)))
    ]

    -- and no cell of a unit was there
    was_empty : (o : Option Cell) → cell_at T (unit_key t) ≡ None → cell_at S (unit_key t) ≡ o → is_none o ≡ true
    was_empty None empty here = refl
    was_empty (Some d) empty here =
        absurd (elim (cases_key (unit_key t) c.key) [
          | inr apart ↦ let none : None ≡ Some d = sym empty ∙ cell_at-placed S c.key c.after (unit_key t) ∙ ap (λ (b : Bool). cond b c.after (cell_at S (unit_key t))) apart ∙ here in absurd cc
          | inl same ↦
              let at : t ≡ c.key.at = ap (λ (q : Key). q.at) same in
              let is_unit : 7 ≡ rank c.key.kind = ap (λ (q : Key). rank q.kind) same in
              let before : c.before ≡ Some d = sym l.here ∙ ap (cell_at S) (sym same) ∙ here in
              let after : c.after ≡ None = sym at_changed ∙ ap (cell_at T) (sym same) ∙ empty in
              let own : suits (unit_key t) d ≡ true = l.before.cells (unit_key t) d here in
              let some : 0 < stood_on d.value = stands_on t d.value (suits-is_of (unit_key t) d own) (whole_there (unit_key t) d own) in
              let gone : gone_from c ≡ stood_on d.value = (λ i. bytes_gone (before i) (after i)) in
              gone_near (sym is_unit) (omega (arith, gone, some)) (omega (arith, at)) (omega (arith, at, gone, some))
        ])

    was_vacant : (len : ℕ) → len ≤ 256 → (is_free T t len && is_none (cell_at T (unit_key t))) ≡ true → (is_free S t len && is_none (cell_at S (unit_key t))) ≡ true
    was_vacant len short now =
        let parts = and_parts (is_free T t len) (is_none (cell_at T (unit_key t))) now in
        and_from (is_free S t len) (is_none (cell_at S (unit_key t))) (was_free len short parts.0)
        (was_empty (cell_at S (unit_key t)) (none_there (cell_at T (unit_key t)) parts.1) refl)

    none_still : (o : Option ℕ) → Bounded (length (tail S t)) o → string_changes S t o ≡ [] → string_changes T t o ≡ []
    none_still None bounds h = refl
    none_still (Some len) bounds h =
        let change = addition (unit_key t) (Plain (Str len)) in
        let was : (is_free S t len && is_none (cell_at S (unit_key t))) ≡ false = nothing_added (is_free S t len && is_none (cell_at S (unit_key t))) change h in
        ap (λ b. cond b (change ∷ []) [])
        (false_from_ne_true (is_free T t len && is_none (cell_at T (unit_key t))) (λ now. both_ways (is_free S t len && is_none (cell_at S (unit_key t))) was (was_vacant len bounds.1 now)))

    settled : strings_rule S t ≡ [] → strings_rule T t ≡ []
    settled before =
        let was : is_read_at S t ≡ true = sym same_read ∙ read in
        read_changes T t read ∙ ap (string_changes T t) same_len
        ∙ none_still (string_len S t) (string_low S t) (sym (read_changes S t was) ∙ before)

  settled_still : strings_rule S t ≡ [] → strings_rule T t ≡ []
  settled_still before = elim (cases_eq (rank c.key.kind) 0) [
    | inl is_block ↦ unread_changes T t (asleep_block T c t c.key.kind asleep is_block)
    | inr no_block ↦ elim (cases_Bool (is_read_at T t)) [
      | inl read ↦ settled no_block read before
      | inr unread ↦ unread_changes T t unread
    ]
  ]

pub waking : WakeLaw Strings
unfolding rule wakes
waking S c t low l asleep before = settled_still S c t l asleep before
