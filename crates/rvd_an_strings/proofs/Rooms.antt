-- The bytes from an address on in the block around it. Use `length-tail` for how many there are, `byte_stands` for each of
-- them as the answer to an ask, and `within` for where they lie.
use Rattle.std.proofs.Common.{◌≡◌, ℕ, ◌+◌, ◌-◌, ◌<◌, ◌≤◌, Bool, true, false, cond, ◌&&◌, ◌||◌, List, [], ◌∷◌, length, get_or, take, drop, Option, Some, None, refl, sym, ap, ◌∙◌, subst, inl, inr, arith}
use Rattle.std.specs.Prelude.{T, find as first_where, nat_lt, nat_le, ◌==◌}
use Rattle.std.specs.List.{list_any}
use Rattle.std.specs.Option.{option_and_then, option_map, option_map_or}
use Rattle.std.specs.FinMap.Entries.{below_all}
use Rattle.std.proofs.lemmas.Bool.{and_from, and_parts, cases_order, eqb-true, false≢true, le-leb, leb-true, lt-ltb, ltb-true}
use Rattle.std.proofs.lemmas.List.{drop_more, get_or-drop, length-drop}
use Rattle.std.proofs.lemmas.Option.{same_Some}
use Rattle.rvd_fact.specs.declared.keys.Key.{Key}
use Rattle.rvd_fact.specs.declared.keys.Kind.{Kind}
use Rattle.rvd_fact.specs.declared.keys.Kind.TheVariants as kind
use Rattle.rvd_fact.specs.declared.cells.Cell.{Cell}
use Rattle.rvd_fact.specs.declared.values.Perm.{Perm}
use Rattle.rvd_fact.specs.declared.values.Source.{Source}
use Rattle.rvd_fact.specs.declared.values.Value.{Value}
use Rattle.rvd_fact.specs.declared.values.Value.TheVariants.{Block, Mark, Func, Body, Symbol, Comment, Bookmark, Code, Plain, Ref, Gone}
use Rattle.rvd_fact.specs.Order.{key_cmp, rank}
use Rattle.rvd_fact.specs.Program.{Program, cell_at, IsInOrder}
use Rattle.rvd_fact.specs.Memory.{block, block_key, block_len, bytes, bytes_in, surrounds}
use Rattle.rvd_fact.specs.Valid.{IsValid, are_bytes, block_span, has_bytes, is_address, is_of, is_whole, may_stand, span, suits, top_sub}
use Rattle.rvd_fact.proofs.KeyOrder.{cases_key, same_key_itself}
use Rattle.rvd_fact.proofs.Scans.{absent, first, scanned, second, behind}
use Rattle.rvd_fact.proofs.Validity.{suits-is_of}
use Rattle.rvd_ask.specs.declared.asks.Ask.TheVariants as ask
use Rattle.rvd_ask.specs.declared.answers.Answer.TheVariants as answer
use Rattle.rvd_ask.specs.Forms.{has_form}
use Rattle.rvd_ask.specs.Strings.{tail, tail_in}
use Rattle.rvd_ask.proofs.Told.{has_form-ans}
use Rattle.rvd_an_strings.specs.Parts.{block_room, cell_room, value_room}
use Rattle.rvd_fact.proofs.Suiting.{sub_there, whole_there}

-- ---- the first entry that passes a test
-- it stands in the program, and passes
record First (p : Key × Cell → Bool) (S : Program) (e : Key × Cell) : Type 0 where
  here : cell_at S e.0 ≡ Some e.1
  passes : p e ≡ true

first_stands : (p : Key × Cell → Bool) (S : Program) (e : Key × Cell) → IsInOrder S → first_where p S ≡ Some e → First p S e
first_stands p [] e s h = absurd cc
first_stands p (d ∷ ds) e s h =
    elim (p d) as (λ b. p d ≡ b → cond b (Some d) (first_where p ds) ≡ Some e → First p (d ∷ ds) e) [
      | true ↦ λ passes is.
          let stands : First p (d ∷ ds) d = record { here = ap (λ (b : Bool). cond b (Some d.1) (cell_at ds d.0)) (same_key_itself d.0); passes = passes } in
          subst (First p (d ∷ ds)) (same_Some d e is) stands
      | false ↦ λ passes is.
          let later : First p ds e = first_stands p ds e (second _ _ s) is in
          record { here = behind d ds e.0 e.1 (first _ _ s) later.here; passes = later.passes }
    ] refl h

-- where one passes, there is a first
first_there : (p : Key × Cell → Bool) (S : Program) → list_any p S ≡ true → (e : Key × Cell) × (first_where p S ≡ Some e)
first_there p [] h = absurd (false≢true h)
first_there p (d ∷ ds) h =
    elim (p d) as (λ b. (b || list_any p ds) ≡ true → (e : Key × Cell) × (cond b (Some d) (first_where p ds) ≡ Some e)) [
      | true ↦ λ is. (d, refl)
      | false ↦ λ is. first_there p ds is
    ] h

-- ---- the block around an address
block_kind : (K : Kind) → rank K ≡ 0 → K ≡ kind.Block
block_kind kind.Block h = refl
block_kind kind.Mark h = absurd (omega (arith, h))
block_kind kind.Func h = absurd (omega (arith, h))
block_kind kind.Body h = absurd (omega (arith, h))
block_kind kind.Symbol h = absurd (omega (arith, h))
block_kind kind.Comment h = absurd (omega (arith, h))
block_kind kind.Bookmark h = absurd (omega (arith, h))
block_kind kind.Unit h = absurd (omega (arith, h))
block_kind kind.Ref h = absurd (omega (arith, h))

-- what has the length of a block is of that kind
block_rank : (K : Kind) (v : Value) → is_of K v ≡ true → 0 < block_len v → rank K ≡ 0
block_rank K (Block len perm all) of up = eqb-true (rank K) 0 of
block_rank K Mark of up = absurd (omega (arith, up))
block_rank K Func of up = absurd (omega (arith, up))
block_rank K (Body ranges) of up = absurd (omega (arith, up))
block_rank K (Symbol name) of up = absurd (omega (arith, up))
block_rank K (Comment text) of up = absurd (omega (arith, up))
block_rank K (Bookmark text) of up = absurd (omega (arith, up))
block_rank K (Code w) of up = absurd (omega (arith, up))
block_rank K (Plain f) of up = absurd (omega (arith, up))
block_rank K (Ref to class) of up = absurd (omega (arith, up))
block_rank K Gone of up = absurd (omega (arith, up))

-- a block stands at the key of a block
key_of_block : (k : Key) (c : Cell) → suits k c ≡ true → 0 < block_len c.value → k ≡ block_key k.at
key_of_block k c h up =
    let is_block : k.kind ≡ kind.Block = block_kind k.kind (block_rank k.kind c.value (suits-is_of k c h) up) in
    let low : k.sub ≤ 0 = subst (λ K. k.sub ≤ top_sub K) is_block (sub_there k c h) in
    let none : k.sub ≡ 0 = omega (arith, low) in
    λ i. record { at = k.at; kind = is_block i; sub = none i }

module _ (S : Program) (valid : IsValid S) where
  record Around (a : ℕ) (k : Key) (c : Cell) : Type 0 where
    here : cell_at S k ≡ Some c
    low : k.at ≤ a
    high : a < k.at + block_len c.value
    key : k ≡ block_key k.at
    at_start : cell_at S (block_key k.at) ≡ Some c
    long : block_span S k.at ≡ block_len c.value

  around : (a : ℕ) (k : Key) (c : Cell) → cell_at S k ≡ Some c → surrounds a (k, c) ≡ true → Around a k c
  around a k c here passes =
      let parts = and_parts (nat_le k.at a) (nat_lt a (k.at + block_len c.value)) passes in
      let low : k.at ≤ a = leb-true k.at a parts.0 in
      let high : a < k.at + block_len c.value = ltb-true a (k.at + block_len c.value) parts.1 in
      let key : k ≡ block_key k.at = key_of_block k c (valid.cells k c here) (omega (arith, low, high)) in
      let at_start : cell_at S (block_key k.at) ≡ Some c = sym (ap (cell_at S) key) ∙ here in
      record { here = here; low = low; high = high; key = key; at_start = at_start; long = ap (span block_len) at_start }

  one_start : (a : ℕ) (k q : Key) (c d : Cell) → Around a k c → Around a q d → k.at ≡ q.at
  one_start a k q c d x y = elim (cases_order k.at q.at) [
    | inl same ↦ same
    | inr (inl below) ↦ absurd (let apart = valid.blocks_apart k.at q.at below (omega (arith, x.low, x.high, x.long)) (omega (arith, y.low, y.high, y.long)) in omega (arith, apart, x.high, x.long, y.low))
    | inr (inr above) ↦ absurd (let apart = valid.blocks_apart q.at k.at above (omega (arith, y.low, y.high, y.long)) (omega (arith, x.low, x.high, x.long)) in omega (arith, apart, y.high, y.long, x.low))
  ]

  -- no other block has the address
  around_is : (a : ℕ) (k : Key) (c : Cell) → Around a k c → first_where (surrounds a) S ≡ Some (k, c)
  around_is a k c x =
      let passes : surrounds a (k, c) ≡ true = and_from (nat_le k.at a) _ (le-leb k.at a x.low) (lt-ltb a (k.at + block_len c.value) x.high) in
      let f = first_there (surrounds a) S (scanned (surrounds a) S (record { key = k; cell = c; here = x.here; passes = passes })) in
      let e = f.0 in
      let stands : First (surrounds a) S e = first_stands (surrounds a) S e valid.in_order f.1 in
      let y : Around a e.0 e.1 = around a e.0 e.1 stands.here stands.passes in
      let start : e.0.at ≡ k.at = one_start a e.0 k e.1 c y x in
      let key : e.0 ≡ k = y.key ∙ ap block_key start ∙ sym x.key in
      let cell : e.1 ≡ c = same_Some e.1 c (sym y.here ∙ ap (cell_at S) key ∙ x.here) in
      f.1 ∙ (λ i. Some (key i, cell i))

  found_around : (a : ℕ) (k : Key) (c : Cell) → first_where (surrounds a) S ≡ Some (k, c) → Around a k c
  found_around a k c h =
      let stands : First (surrounds a) S (k, c) = first_stands (surrounds a) S (k, c) valid.in_order h in
      around a k c stands.here stands.passes

-- ---- the bytes from an address on
-- a block is as long as its bytes
bytes_there : (start len : ℕ) (perm : Perm) (all : List ℕ) → is_whole start (Block len perm (Some all)) ≡ true → length all ≡ len
bytes_there start len perm all h =
    let behind_len = (and_parts (nat_lt 0 len) _ h).1 in
    eqb-true (length all) len (and_parts (length all == len) (are_bytes all) (and_parts (nat_le (start + len) 4294967296) (has_bytes len (Some all)) behind_len).1).0

end_there : (start len : ℕ) (perm : Perm) (all : Option (List ℕ)) → is_whole start (Block len perm all) ≡ true → start + len ≤ 4294967296
end_there start len perm all h = leb-true (start + len) 4294967296 (and_parts (nat_le (start + len) 4294967296) (has_bytes len all) (and_parts (nat_lt 0 len) _ h).1).0

value_tail : (start t : ℕ) (v : Value) → is_whole start v ≡ true → length (tail_in start t v) ≡ value_room start t v
value_tail start t (Block len perm (Some all)) h = length-drop (t - start) all ∙ ap (λ n. n - (t - start)) (bytes_there start len perm all h)
value_tail start t (Block len perm None) h = refl
value_tail start t Mark h = refl
value_tail start t Func h = refl
value_tail start t (Body ranges) h = refl
value_tail start t (Symbol name) h = refl
value_tail start t (Comment text) h = refl
value_tail start t (Bookmark text) h = refl
value_tail start t (Code w) h = refl
value_tail start t (Plain f) h = refl
value_tail start t (Ref to class) h = refl
value_tail start t Gone h = refl

-- where the n bytes from t on lie
pub record Within (S : Program) (t n : ℕ) : Type 0 where
  pub start : ℕ
  pub low : start ≤ t
  pub high : t + n ≤ start + block_span S start
  pub top : t + n ≤ 4294967296

one_byte : (all : List ℕ) (n : ℕ) → n < length all → take 1 (drop n all) ≡ get_or all n 0 ∷ []
one_byte all n h = ap (take 1) (drop_more all n 0 h)

abbrev entry : Key → Value → Source → Key × Cell
entry k v s = (k, record { value = v; source = s })

abbrev bytes_of : ℕ → ℕ → Option (Key × Cell) → Option (List ℕ)
bytes_of a n o = option_and_then (λ (e : Key × Cell). bytes_in e.0.at a n e.1.value) o

abbrev tail_of : ℕ → Option (Key × Cell) → List ℕ
tail_of t o = option_map_or (λ (e : Key × Cell). tail_in e.0.at t e.1.value) o []

module _ (S : Program) (valid : IsValid S) (t : ℕ) where
  length_in : (o : Option (Key × Cell)) → first_where (surrounds t) S ≡ o → length (tail_of t o) ≡ block_room S t (option_map (λ (e : Key × Cell). e.0.at) o)
  length_in None h = refl
  length_in (Some e) h =
      let x : Around S valid t e.0 e.1 = found_around S valid t e.0 e.1 h in
      value_tail e.0.at t e.1.value (whole_there e.0 e.1 (valid.cells e.0 e.1 x.here)) ∙ sym (ap (cell_room e.0.at t) x.at_start)

  pub length-tail : length (tail S t) ≡ block_room S t (block S t)
  length-tail = length_in (first_where (surrounds t) S) refl

  -- a byte of a found entry
  byte_in : (k : Key) (v : Value) (s : Source) (j : ℕ) → first_where (surrounds t) S ≡ Some (entry k v s) → j < length (tail_in k.at t v) → bytes S (t + j) 1 ≡ Some (get_or (tail_in k.at t v) j 0 ∷ [])
  byte_in k (Block len perm (Some all)) s j h low =
      let v = Block len perm (Some all) in
      let c : Cell = record { value = v; source = s } in
      let x : Around S valid t k c = found_around S valid t k c h in
      let size : length all ≡ len = bytes_there k.at len perm all (whole_there k c (valid.cells k c x.here)) in
      let rest : length (drop (t - k.at) all) ≡ length all - (t - k.at) = length-drop (t - k.at) all in
      let y : Around S valid (t + j) k c = record { here = x.here; low = omega (arith, x.low); high = omega (arith, x.low, low, rest, size); key = x.key; at_start = x.at_start; long = x.long } in
      let lies : (nat_lt 0 1 && nat_le (t + j + 1) (k.at + length all)) ≡ true = le-leb (t + j + 1) (k.at + length all) (omega (arith, x.low, low, rest, size)) in
      let place : t + j - k.at ≡ t - k.at + j = omega (arith, x.low) in
      ap (bytes_of (t + j) 1) (around_is S valid (t + j) k c y)
      ∙ ap (λ b. cond b (Some (take 1 (drop (t + j - k.at) all))) None) lies
      ∙ ap Some (one_byte all (t + j - k.at) (omega (arith, x.low, low, rest, size)) ∙ ap (λ n. get_or all n 0 ∷ []) place ∙ ap (λ b. b ∷ []) (sym (get_or-drop (t - k.at) all j 0)))
  byte_in k (Block len perm None) s j h low = absurd (omega (arith, low))
  byte_in k Mark s j h low = absurd (omega (arith, low))
  byte_in k Func s j h low = absurd (omega (arith, low))
  byte_in k (Body ranges) s j h low = absurd (omega (arith, low))
  byte_in k (Symbol name) s j h low = absurd (omega (arith, low))
  byte_in k (Comment text) s j h low = absurd (omega (arith, low))
  byte_in k (Bookmark text) s j h low = absurd (omega (arith, low))
  byte_in k (Code w) s j h low = absurd (omega (arith, low))
  byte_in k (Plain f) s j h low = absurd (omega (arith, low))
  byte_in k (Ref to class) s j h low = absurd (omega (arith, low))
  byte_in k Gone s j h low = absurd (omega (arith, low))

  byte_found : (j : ℕ) (o : Option (Key × Cell)) → first_where (surrounds t) S ≡ o → j < length (tail_of t o) → bytes S (t + j) 1 ≡ Some (get_or (tail_of t o) j 0 ∷ [])
  byte_found j None h low = absurd (omega (arith, low))
  byte_found j (Some e) h low = byte_in e.0 e.1.value e.1.source j h low

  -- each byte is the answer to an ask
  pub byte_stands : (j : ℕ) → j < length (tail S t) → bytes S (t + j) 1 ≡ Some (get_or (tail S t) j 0 ∷ [])
  byte_stands j low = byte_found j (first_where (surrounds t) S) refl low

  within_in : (k : Key) (v : Value) (s : Source) → first_where (surrounds t) S ≡ Some (entry k v s) → 0 < length (tail_in k.at t v) → Within S t (length (tail_in k.at t v))
  within_in k (Block len perm (Some all)) s h low =
      let c : Cell = record { value = Block len perm (Some all); source = s } in
      let x : Around S valid t k c = found_around S valid t k c h in
      let whole : is_whole k.at c.value ≡ true = whole_there k c (valid.cells k c x.here) in
      let size : length all ≡ len = bytes_there k.at len perm all whole in
      let top : k.at + len ≤ 4294967296 = end_there k.at len perm (Some all) whole in
      let rest : length (drop (t - k.at) all) ≡ length all - (t - k.at) = length-drop (t - k.at) all in
      let long : block_span S k.at ≡ len = x.long in
      record { start = k.at; low = x.low; high = omega (arith, x.low, low, rest, size, long); top = omega (arith, x.low, low, rest, size, top) }
  within_in k (Block len perm None) s h low = absurd (omega (arith, low))
  within_in k Mark s h low = absurd (omega (arith, low))
  within_in k Func s h low = absurd (omega (arith, low))
  within_in k (Body ranges) s h low = absurd (omega (arith, low))
  within_in k (Symbol name) s h low = absurd (omega (arith, low))
  within_in k (Comment text) s h low = absurd (omega (arith, low))
  within_in k (Bookmark text) s h low = absurd (omega (arith, low))
  within_in k (Code w) s h low = absurd (omega (arith, low))
  within_in k (Plain f) s h low = absurd (omega (arith, low))
  within_in k (Ref to class) s h low = absurd (omega (arith, low))
  within_in k Gone s h low = absurd (omega (arith, low))

  within_found : (o : Option (Key × Cell)) → first_where (surrounds t) S ≡ o → 0 < length (tail_of t o) → Within S t (length (tail_of t o))
  within_found None h low = absurd (omega (arith, low))
  within_found (Some e) h low = within_in e.0 e.1.value e.1.source h low

  -- they lie in one block, which ends by 2 ^ 32
  pub within : 0 < length (tail S t) → Within S t (length (tail S t))
  within low = within_found (first_where (surrounds t) S) refl low

-- one byte is asked for
pub one_told : (S : Program) (a : ℕ) (bs : List ℕ) → bytes S a 1 ≡ Some bs → length bs ≡ 1
one_told S a bs h = eqb-true (length bs) 1 (sym (ap (λ o. has_form (ask.Bytes a 1) (answer.Bytes o)) h) ∙ has_form-ans S (ask.Bytes a 1))
