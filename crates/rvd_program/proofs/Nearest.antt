-- What has a byte is found from the address: `there` and `nowhere` say what a search of all entries finds, by how many bytes
-- start at which address. `next_block` and `last_unit` say what the neighbours of a key tell of blocks and units.
use Rattle.std.proofs.Common.{◌≡◌, ℕ, ◌+◌, ◌-◌, ◌<◌, ◌≤◌, Bool, true, false, ◌&&◌, ◌||◌, Option, Some, None, refl, sym, ap, ◌∙◌, subst, inl, inr, arith}
use Rattle.std.specs.Prelude.{T, nat_lt, nat_le, find as first_where, MatchOption}
use Rattle.std.specs.Option.{option_map, option_and_then}
use Rattle.std.specs.declared.cmp.Ordering.{Ordering}
use Rattle.std.specs.declared.cmp.Ordering.TheVariants.{Less, Equal, Greater}
use Rattle.std.specs.Ordering.{is_le, is_ge, nat_cmp, ordering_then}
use Rattle.std.proofs.lemmas.Bool.{and_cases, and_from, and_parts, both_ways, cases_lt, cases_order, or_cases, le-leb, leb-true, lt-ltb, ltb-true}
use Rattle.std.proofs.lemmas.Cmp.{ranked, nat_cmp_total, tied_itself}
use Rattle.std.proofs.lemmas.Option.{none-some, same_Some}
use Rattle.rvd_table.specs.Table.{IsNext, IsLast, next_entry, last_entry}
use Rattle.rvd_table.proofs.MapLaws.{next_entry-nearest, last_entry-nearest}
use Rattle.rvd_fact.specs.declared.keys.Kind.{Kind}
use Rattle.rvd_fact.specs.declared.keys.Kind.TheVariants as kind
use Rattle.rvd_fact.specs.declared.keys.Key.{Key}
use Rattle.rvd_fact.specs.declared.cells.Cell.{Cell}
use Rattle.rvd_fact.specs.declared.values.Form.TheVariants.{Byte, Half, Word, Str}
use Rattle.rvd_fact.specs.declared.values.Value.{Value}
use Rattle.rvd_fact.specs.declared.values.Value.TheVariants.{Block, Mark, Func, Body, Symbol, Comment, Bookmark, Code, Plain, Ref, Gone}
use Rattle.rvd_fact.specs.Order.{key_cmp}
use Rattle.rvd_fact.specs.Program.{Program, cell_at, IsInOrder}
use Rattle.rvd_fact.specs.Memory.{key_of, block_key, unit_key, unit_len, block_len, surrounds, cover, block, bytes, bytes_in}
use Rattle.rvd_fact.specs.Valid.{IsValid, AreApart, suits, is_whole, span, unit_span, block_span}
use Rattle.rvd_fact.proofs.DerivedOrder.{derived_is}
use Rattle.rvd_fact.proofs.KeyOrder.{keys_total}
use Rattle.rvd_fact.specs.contracts.keys.KeyOrd.TheImpl.{cmp-value}
use Rattle.rvd_fact.proofs.Suiting.{whole_there}
use Rattle.rvd_program.specs.Lookup.{NoneStarts, NoneStartsFrom}
use Rattle.rvd_program.proofs.FirstFound.{IsFirst, NonePasses, first_is, found_first, none_is}
use Rattle.rvd_program.proofs.Lengths.{IsLengthAt, some_of, unit_at_key, block_at_key}

-- ---- what has a byte

module _ (K : Kind) (len : Value → ℕ) (at_key : IsLengthAt K len) (S : Program) (s : IsInOrder S) (cells : (k : Key) (c : Cell) → cell_at S k ≡ Some c → suits k c ≡ true) (apart : AreApart (λ a. span len (cell_at S (key_of K a)))) where
  -- how many bytes start at an address, and whether an entry has a byte
  abbrev size : ℕ → ℕ
  size a = span len (cell_at S (key_of K a))

  abbrev has : ℕ → Key × Cell → Bool
  has a e = nat_le e.0.at a && nat_lt a (e.0.at + len e.1.value)

  record Having (a : ℕ) (q : Key) : Type 0 where
    key : q ≡ key_of K q.at
    low : q.at ≤ a
    high : a < q.at + size q.at

  having : (a : ℕ) (q : Key) (c : Cell) → cell_at S q ≡ Some c → has a (q, c) ≡ true → Having a q
  having a q c here passes =
      let p = and_parts (nat_le q.at a) (nat_lt a (q.at + len c.value)) passes in
      let at_least : q.at ≤ a = leb-true q.at a p.0 in
      let below : a < q.at + len c.value = ltb-true a (q.at + len c.value) p.1 in
      let its : q ≡ key_of K q.at = at_key q c (cells q c here) (omega (arith, at_least, below)) in
      let own : size q.at ≡ len c.value = ap (λ (k : Key). span len (cell_at S k)) (sym its) ∙ ap (span len) here in
      record { key = its; low = at_least; high = subst (λ (n : ℕ). a < q.at + n) (sym own) below }

  -- only one start has a byte
  one_start : (a x y : ℕ) → x ≤ a → a < x + size x → y ≤ a → a < y + size y → x ≡ y
  one_start a x y x_low x_high y_low y_high = elim (cases_order x y) [
    | inl same ↦ same
    | inr (inl less) ↦ let gap : x + size x ≤ y = apart x y less (omega (arith, x_low, x_high)) (omega (arith, y_low, y_high)) in absurd (omega (arith, gap, x_high, y_low))
    | inr (inr more) ↦ let gap : y + size y ≤ x = apart y x more (omega (arith, y_low, y_high)) (omega (arith, x_low, x_high)) in absurd (omega (arith, gap, y_high, x_low))
  ]

  pub there : (a x : ℕ) (c : Cell) → cell_at S (key_of K x) ≡ Some c → x ≤ a → a < x + size x → first_where (has a) S ≡ Some (key_of K x, c)
  there a x c here low high =
      let own : size x ≡ len c.value = ap (span len) here in
      first_is (has a) S s (key_of K x) c here (and_from (nat_le x a) _ (le-leb x a low) (lt-ltb a (x + len c.value) (subst (λ (n : ℕ). a < x + n) own high)))
      (λ q d at passes.
      let h : Having a q = having a q d at passes in
      h.key ∙ ap (key_of K) (one_start a q.at x h.low h.high low high))

  pub start_there : (a x : ℕ) → x ≤ a → a < x + size x → option_map (λ (e : Key × Cell). e.0.at) (first_where (has a) S) ≡ Some x
  start_there a x low high =
      let held = some_of len (cell_at S (key_of K x)) (omega (arith, low, high)) in
      ap (option_map (λ (e : Key × Cell). e.0.at)) (there a x held.0 held.1 low high)

  pub nowhere : (a : ℕ) → ((b : ℕ) → b ≤ a → b + size b ≤ a) → first_where (has a) S ≡ None
  nowhere a passed = none_is (has a) S s (λ q c here passes.
      let h : Having a q = having a q c here passes in
      let below = passed q.at h.low in
      let high = h.high in
      omega (arith, below, high))

-- ---- what is passed over

-- a byte at or above a start, which the bytes there don't have, is behind them
misses : (start len at : ℕ) → (nat_le start at && nat_lt at (start + len)) ≡ false → start ≤ at → start + len ≤ at
misses start len at h low = elim (and_cases (nat_le start at) (nat_lt at (start + len)) h) [
  | inl above ↦ absurd (both_ways (nat_le start at) above (le-leb start at low))
  | inr behind ↦ elim (cases_lt at (start + len)) [
    | inl less ↦ absurd (both_ways (nat_lt at (start + len)) behind (lt-ltb at (start + len) less))
    | inr more ↦ more
  ]
]

module _ (size : ℕ → ℕ) (apart : AreApart size) (at : ℕ) where
  -- what starts here doesn't have the byte
  abbrev pub Lacks : ℕ → Type 0
  Lacks b = b ≤ at → b + size b ≤ at

  -- behind what starts at an address, nothing starts before its end
  pub passed_more : (from start end : ℕ) → ((b : ℕ) → b < from → Lacks b) → NoneStarts size from start → (nat_le start at && nat_lt at (start + size start)) ≡ false → ((b : ℕ) → start < b → b < end → b < start + size start) → (b : ℕ) → b < end → Lacks b
  passed_more from start end passed none missed within b below low = elim (cases_lt b from) [
    | inl before ↦ passed b before low
    | inr after ↦ elim (cases_order b start) [
      | inl same ↦ subst (λ (x : ℕ). x ≤ at → x + size x ≤ at) (sym same) (misses start (size start) at missed) low
      | inr (inl less) ↦ let empty = none b after less in omega (arith, empty, low)
      | inr (inr more) ↦ elim (cases_lt 0 (size b)) [
        | inl long ↦
            let inside = within b more below in
            let gap = apart start b more (omega (arith, more, inside)) long in
            absurd (omega (arith, gap, inside))
        | inr empty ↦ omega (arith, empty, low)
      ]
    ]
  ]

  -- where nothing starts from an address on
  pub passed_rest : (from top : ℕ) → ((b : ℕ) → b < from → Lacks b) → top ≡ from → NoneStartsFrom size top → (b : ℕ) → Lacks b
  passed_rest from top passed here none b low = elim (cases_lt b from) [
    | inl before ↦ passed b before low
    | inr after ↦ let empty = none b (omega (arith, here, after)) in omega (arith, empty, low)
  ]

  -- and where nothing starts below one
  pub passed_lower : (below top : ℕ) → ((b : ℕ) → below ≤ b → Lacks b) → top + 1 ≡ below → NoneStarts size 0 (top + 1) → (b : ℕ) → Lacks b
  passed_lower below top passed here none b low = elim (cases_lt b below) [
    | inr after ↦ passed b after low
    | inl before ↦ let empty = none b (omega arith) (omega (arith, before, here)) in omega (arith, empty, low)
  ]

  -- from the greatest start down
  pub passed_down : (below start top : ℕ) → ((b : ℕ) → below ≤ b → Lacks b) → top + 1 ≡ below → NoneStarts size (start + 1) (top + 1) → (nat_le start at && nat_lt at (start + size start)) ≡ false → (b : ℕ) → start ≤ b → Lacks b
  passed_down below start top passed here none missed b above low = elim (cases_lt b below) [
    | inr after ↦ passed b after low
    | inl before ↦ elim (cases_order b start) [
      | inl same ↦ subst (λ (x : ℕ). x ≤ at → x + size x ≤ at) (sym same) (misses start (size start) at missed) low
      | inr (inl less) ↦ absurd (omega (arith, less, above))
      | inr (inr more) ↦ let empty = none b (omega (arith, more)) (omega (arith, before, here)) in omega (arith, empty, low)
    ]
  ]

  -- below a start that isn't empty, or far below, nothing has the byte
  pub passed_all : (start : ℕ) → ((b : ℕ) → size b ≤ 256) → start ≤ at → (nat_lt 0 (size start) || nat_le 256 (at - start)) ≡ true → ((b : ℕ) → start ≤ b → Lacks b) → (b : ℕ) → Lacks b
  passed_all start short up hidden passed b low = elim (cases_lt b start) [
    | inr above ↦ passed b above low
    | inl less ↦ elim (cases_lt 0 (size b)) [
      | inr empty ↦ omega (arith, empty, low)
      | inl long ↦ elim (or_cases (nat_lt 0 (size start)) (nat_le 256 (at - start)) hidden) [
        | inl there ↦ let gap = apart b start less long (ltb-true 0 (size start) there) in omega (arith, gap, up)
        | inr far ↦
            let distance : 256 ≤ at - start = leb-true 256 (at - start) far in
            let most = short b in
            omega (arith, distance, most, less, up)
      ]
    ]
  ]

-- ---- the neighbours of a key

is_below : (x y : ℕ) (o : Ordering) → x < y → T (is_le (ordering_then (nat_cmp x y) o))
is_below x y o h = elim (nat_cmp x y) as (λ r. r ≡ nat_cmp x y → T (is_le (ordering_then r o))) [
  | Less ↦ λ _. tt
  | Equal ↦ λ e. let same : x ≡ y = ranked x y Equal e in absurd (omega (arith, same, h))
  | Greater ↦ λ e. let more : y < x = ranked x y Greater e in absurd (omega (arith, more, h))
] refl

is_above : (x y : ℕ) (o : Ordering) → y < x → T (is_ge (ordering_then (nat_cmp x y) o))
is_above x y o h = elim (nat_cmp x y) as (λ r. r ≡ nat_cmp x y → T (is_ge (ordering_then r o))) [
  | Less ↦ λ e. let less : x < y = ranked x y Less e in absurd (omega (arith, less, h))
  | Equal ↦ λ e. let same : x ≡ y = ranked x y Equal e in absurd (omega (arith, same, h))
  | Greater ↦ λ _. tt
] refl

low_at : (x y : ℕ) (o : Ordering) → T (is_le (ordering_then (nat_cmp x y) o)) → x ≤ y
low_at x y o h = elim (nat_cmp x y) as (λ r. r ≡ nat_cmp x y → T (is_le (ordering_then r o)) → x ≤ y) [
  | Less ↦ λ e _. let below : x < y = ranked x y Less e in omega (arith, below)
  | Equal ↦ λ e _. let same : x ≡ y = ranked x y Equal e in omega (arith, same)
  | Greater ↦ λ e t. absurd t
] refl h

high_at : (x y : ℕ) (o : Ordering) → T (is_ge (ordering_then (nat_cmp x y) o)) → y ≤ x
high_at x y o h = elim (nat_cmp x y) as (λ r. r ≡ nat_cmp x y → T (is_ge (ordering_then r o)) → y ≤ x) [
  | Less ↦ λ e t. absurd t
  | Equal ↦ λ e _. let same : x ≡ y = ranked x y Equal e in omega (arith, same)
  | Greater ↦ λ e _. let more : y < x = ranked x y Greater e in omega (arith, more)
] refl h

-- a block's key isn't below that of a lower address
block_after : (from b : ℕ) → from ≤ b → T (is_le (key_cmp (block_key from) (block_key b)))
block_after from b low = elim (cases_order from b) [
  | inl same ↦ subst (λ (x : ℕ). T (is_le (key_cmp (block_key from) (block_key x)))) same (subst (λ (r : Ordering). T (is_le (ordering_then r Equal))) (sym (tied_itself nat_cmp_total from)) tt)
  | inr (inl less) ↦ is_below from b _ less
  | inr (inr more) ↦ absurd (omega (arith, low, more))
]

-- the last key at an address
abbrev pub top_key : ℕ → Key
top_key a = record { at = a; kind = kind.Ref; sub = 255 }

unit_before : (from b : ℕ) → b ≤ from → T (is_ge (key_cmp (top_key from) (unit_key b)))
unit_before from b low = elim (cases_order from b) [
  | inl same ↦ subst (λ (x : ℕ). T (is_ge (key_cmp (top_key from) (unit_key x)))) same (subst (λ (r : Ordering). T (is_ge (ordering_then r Greater))) (sym (tied_itself nat_cmp_total from)) tt)
  | inr (inl less) ↦ absurd (omega (arith, low, less))
  | inr (inr more) ↦ is_above from b _ more
]

-- nothing starts where no key stands
none_there : (len : Value → ℕ) (o : Option Cell) → ((c : Cell) → o ≡ Some c → ⊥) → span len o ≡ 0
none_there len None none = refl
none_there len (Some c) none = absurd (none c refl)

module _ (S : Program) where
  next_block : (from : ℕ) (o : Option (Key × Cell)) → IsNext key_cmp (block_key from) S o → MatchOption (option_map (λ (e : Key × Cell). e.0.at) o) (NoneStartsFrom (block_span S) from) (λ next. (from ≤ next) × NoneStarts (block_span S) from next)
  next_block from None n = λ b low. ap (span block_len) (n.none (block_key b) (block_after from b low))
  next_block from (Some e) n = (
    low_at from e.0.at _ n.held.1,
    λ b low high. none_there block_len (cell_at S (block_key b)) (λ c here.
        let above : e.0.at ≤ b = low_at e.0.at b _ (n.nearest (block_key b) c here (block_after from b low)) in
        omega (arith, above, high)),
  )

  last_unit : (from : ℕ) (o : Option (Key × Cell)) → IsLast key_cmp (top_key from) S o → MatchOption (option_map (λ (e : Key × Cell). e.0.at) o) (NoneStarts (unit_span S) 0 (from + 1)) (λ last. (last ≤ from) × NoneStarts (unit_span S) (last + 1) (from + 1))
  last_unit from None n = λ b _ high. ap (span unit_len) (n.none (unit_key b) (unit_before from b (omega (arith, high))))
  last_unit from (Some e) n = (
    high_at from e.0.at _ n.held.1,
    λ b low high. none_there unit_len (cell_at S (unit_key b)) (λ c here.
        let below : b ≤ e.0.at = high_at e.0.at b _ (n.nearest (unit_key b) c here (unit_before from b (omega (arith, high)))) in
        omega (arith, below, low)),
  )

  pub next_block_is : (from : ℕ) (o : Option (Key × Cell)) → IsInOrder S → o ≡ next_entry cmp-value.it (block_key from) S → MatchOption (option_map (λ (e : Key × Cell). e.0.at) o) (NoneStartsFrom (block_span S) from) (λ next. (from ≤ next) × NoneStarts (block_span S) from next)
  next_block_is from o s is =
      let found : o ≡ next_entry key_cmp (block_key from) S = is ∙ ap (λ (R : Key → Key → Ordering). next_entry R (block_key from) S) derived_is in
      next_block from o (subst (IsNext key_cmp (block_key from) S) (sym found) (next_entry-nearest key_cmp keys_total (block_key from) S s))

  pub last_unit_is : (from : ℕ) (o : Option (Key × Cell)) → IsInOrder S → o ≡ last_entry cmp-value.it (top_key from) S → MatchOption (option_map (λ (e : Key × Cell). e.0.at) o) (NoneStarts (unit_span S) 0 (from + 1)) (λ last. (last ≤ from) × NoneStarts (unit_span S) (last + 1) (from + 1))
  last_unit_is from o s is =
      let found : o ≡ last_entry key_cmp (top_key from) S = is ∙ ap (λ (R : Key → Key → Ordering). last_entry R (top_key from) S) derived_is in
      last_unit from o (subst (IsLast key_cmp (top_key from) S) (sym found) (last_entry-nearest key_cmp keys_total (top_key from) S s))

-- ---- blocks and units of a valid program

-- a unit has at most 256 bytes
short : (k : Key) (v : Value) → is_whole k.at v ≡ true → unit_len v ≤ 256
short k (Plain Byte) w = omega arith
short k (Plain Half) w = omega arith
short k (Plain Word) w = omega arith
short k (Plain (Str n)) w = leb-true n 256 (and_parts (nat_le 1 n) (nat_le n 256) w).1
short k (Block len perm bytes) w = omega arith
short k Mark w = omega arith
short k Func w = omega arith
short k (Body s) w = omega arith
short k (Symbol t) w = omega arith
short k (Comment t) w = omega arith
short k (Bookmark t) w = omega arith
short k (Code w0) w = omega arith
short k (Ref to class) w = omega arith
short k Gone w = omega arith

module _ (S : Program) (valid : IsValid S) where
  short_at : (b : ℕ) (o : Option Cell) → cell_at S (unit_key b) ≡ o → span unit_len o ≤ 256
  short_at b None is = omega arith
  short_at b (Some c) is = short (unit_key b) c.value (whole_there (unit_key b) c (valid.cells (unit_key b) c is))

  pub unit_is_short : (b : ℕ) → unit_span S b ≤ 256
  unit_is_short b = short_at b (cell_at S (unit_key b)) refl

  block_there : (a x : ℕ) → x ≤ a → a < x + block_span S x → block S a ≡ Some x
  block_there a x low high = start_there kind.Block block_len block_at_key S valid.in_order valid.cells valid.blocks_apart a x low high

  pub block_is : (a x : ℕ) → (nat_le x a && nat_lt a (x + block_span S x)) ≡ true → Some x ≡ block S a
  block_is a x h =
      let p = and_parts (nat_le x a) (nat_lt a (x + block_span S x)) h in
      sym (block_there a x (leb-true x a p.0) (ltb-true a (x + block_span S x) p.1))

  cover_there : (a x : ℕ) → x ≤ a → a < x + unit_span S x → cover S a ≡ Some x
  cover_there a x low high = start_there kind.Unit unit_len unit_at_key S valid.in_order valid.cells valid.units_apart a x low high

  pub cover_is : (a x : ℕ) → (nat_le x a && nat_lt a (x + unit_span S x)) ≡ true → Some x ≡ cover S a
  cover_is a x h =
      let p = and_parts (nat_le x a) (nat_lt a (x + unit_span S x)) h in
      sym (cover_there a x (leb-true x a p.0) (ltb-true a (x + unit_span S x) p.1))

  pub no_block_at : (a : ℕ) → ((b : ℕ) → b ≤ a → b + block_span S b ≤ a) → None ≡ block S a
  no_block_at a passed = sym (ap (option_map (λ (e : Key × Cell). e.0.at)) (nowhere kind.Block block_len block_at_key S valid.in_order valid.cells valid.blocks_apart a passed))

  pub no_cover_at : (a : ℕ) → ((b : ℕ) → b ≤ a → b + unit_span S b ≤ a) → None ≡ cover S a
  no_cover_at a passed = sym (ap (option_map (λ (e : Key × Cell). e.0.at)) (nowhere kind.Unit unit_len unit_at_key S valid.in_order valid.cells valid.units_apart a passed))

-- ---- the bytes of a block that is found by its start

-- what a search of the block around an address has found
record Around (S : Program) (a : ℕ) (e : Key × Cell) : Type 0 where
  here : cell_at S (block_key e.0.at) ≡ Some e.1
  low : e.0.at ≤ a

around : (S : Program) → IsValid S → (a : ℕ) (o : Option (Key × Cell)) → MatchOption o (NonePasses (surrounds a) S) (IsFirst (surrounds a) S) → MatchOption o (Unit {0}) (Around S a)
around S valid a None none = tt
around S valid a (Some e) found =
    let p = and_parts (nat_le e.0.at a) (nat_lt a (e.0.at + block_len e.1.value)) found.passes in
    let low : e.0.at ≤ a = leb-true e.0.at a p.0 in
    let high : a < e.0.at + block_len e.1.value = ltb-true a (e.0.at + block_len e.1.value) p.1 in
    let key : e.0 ≡ block_key e.0.at = block_at_key e.0 e.1 (valid.cells e.0 e.1 found.here) (omega (arith, low, high)) in
    record { here = ap (cell_at S) (sym key) ∙ found.here; low = low }

-- its start is at or below the address, and its cell is at the key of the start
pub record Starts (S : Program) (a n x : ℕ) (o : Option Cell) : Type 0 where
  pub low : x ≤ a
  pub bytes : bytes S a n ≡ option_and_then (λ (c : Cell). bytes_in x a n c.value) o

starts_at : (S : Program) (a n x : ℕ) (o : Option Cell) (found : Option (Key × Cell)) → MatchOption found (Unit {0}) (Around S a) → found ≡ first_where (surrounds a) S → Some x ≡ option_map (λ (e : Key × Cell). e.0.at) found → o ≡ cell_at S (block_key x) → Starts S a n x o
starts_at S a n x o None there is start here = absurd (none-some x (sym start))
starts_at S a n x o (Some e) there is start here =
    let same : x ≡ e.0.at = same_Some x e.0.at start in
    let cell : o ≡ Some e.1 = here ∙ ap (λ (y : ℕ). cell_at S (block_key y)) same ∙ there.here in
    record {
      low = subst (λ (y : ℕ). y ≤ a) (sym same) there.low;
      bytes =
          ap (λ (f : Option (Key × Cell)). option_and_then (λ (k : Key × Cell). bytes_in k.0.at a n k.1.value) f) (sym is)
          ∙ ap (λ (y : ℕ). bytes_in y a n e.1.value) (sym same)
          ∙ ap (option_and_then (λ (c : Cell). bytes_in x a n c.value)) (sym cell);
    }

pub starts : (S : Program) → IsValid S → (a n x : ℕ) (o : Option Cell) → Some x ≡ block S a → o ≡ cell_at S (block_key x) → Starts S a n x o
starts S valid a n x o start here = starts_at S a n x o (first_where (surrounds a) S) (around S valid a (first_where (surrounds a) S) (found_first (surrounds a) S valid.in_order)) refl start here
