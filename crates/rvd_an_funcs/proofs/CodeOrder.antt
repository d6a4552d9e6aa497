-- The instructions of a valid program rise by steps of 4 and end by 2^32, and so does a reach. Use `reach_rises` and
-- `reach_ends`.
use Rattle.std.proofs.Common.{◌≡◌, ℕ, zero, suc, ◌+◌, ◌≤◌, ◌<◌, ◌^◌, Bool, true, false, cond, [], ◌∷◌, length, Option, Some, None, refl, sym, ap, ◌∙◌, subst, inl, inr, arith}
use Rattle.std.specs.Prelude.{nat_le, nat_lt, T}
use Rattle.std.specs.List.{cons_option}
use Rattle.std.specs.Cmp.{nat_cmp_is}
use Rattle.std.specs.declared.cmp.Ordering.TheVariants.{Equal, Greater}
use Rattle.std.specs.Ordering.{is_lt, ordering_then}
use Rattle.std.specs.FinMap.Entries.{below_all}
use Rattle.std.proofs.lemmas.Bool.{and_parts, cases_order, eqb-true, false≢true, leb-true}
use Rattle.std.proofs.lemmas.Option.{none-some}
use Rattle.rvd_fact.specs.declared.keys.Kind.{Kind}
use Rattle.rvd_fact.specs.declared.keys.Kind.TheVariants as kind
use Rattle.rvd_fact.specs.declared.keys.Key.{Key}
use Rattle.rvd_fact.specs.declared.cells.Cell.{Cell}
use Rattle.rvd_fact.specs.declared.values.Value.{Value}
use Rattle.rvd_fact.specs.declared.values.Value.TheVariants.{Block, Mark, Func, Body, Symbol, Comment, Bookmark, Code, Plain, Ref, Gone}
use Rattle.rvd_fact.specs.Order.{key_cmp, rank}
use Rattle.rvd_fact.specs.Program.{Program, cell_at, IsInOrder}
use Rattle.rvd_fact.specs.Memory.{block_key, block_len, has_instruction, is_code, is_instruction, unit_key, unit_len}
use Rattle.rvd_fact.specs.Valid.{block_span, is_address, is_of, is_whole, span, suits, top_sub, unit_span, IsValid}
use Rattle.rvd_fact.proofs.KeyOrder.{cases_key, same_key_itself, same_kind}
use Rattle.rvd_fact.proofs.Scans.{absent, first, second, behind}
use Rattle.rvd_fact.proofs.Validity.{suits-is_of}
use Rattle.rvd_ask.specs.Reach.{code_addresses, grown_times, has, reach}
use Rattle.rvd_ask.proofs.CodeAddresses.{are_codes, unit_key_is}
use Rattle.rvd_ask.proofs.Growing.{has-filter}
use Rattle.rvd_an_funcs.proofs.Rising.{rises_apart, rises_filter, Rises}
use Rattle.rvd_fact.proofs.Suiting.{whole_there}

-- ---- an instruction's key
-- ---- they rise
-- each cell of the entries suits its key
Suit : Program → Type 0
Suit [] = Unit {0}
Suit (e ∷ es) = (suits e.0 e.1 ≡ true) × Suit es

all_suit : (es : Program) → IsInOrder es → ((k : Key) (c : Cell) → cell_at es k ≡ Some c → suits k c ≡ true) → Suit es
unfolding Suit
all_suit [] s cells = tt
all_suit (e ∷ es) s cells = (
  cells e.0 e.1 (ap (λ (b : Bool). cond b (Some e.1) (cell_at es e.0)) (same_key_itself e.0)),
  all_suit es (second _ _ s) (λ k c h. cells k c (behind e es k c (first _ _ s) h)),
)

-- a unit's key that is below another lies at a lower address
lower : (a b : ℕ) → T (is_lt (key_cmp (unit_key a) (unit_key b))) → a < b
lower a b h = elim (cases_order a b) [
  | inl same ↦ absurd (subst (λ r. T (is_lt (ordering_then r Equal))) (sym (nat_cmp_is a b Equal same)) h)
  | inr apart ↦ elim apart [
    | inl less ↦ less
    | inr more ↦ absurd (subst (λ r. T (is_lt (ordering_then r Equal))) (sym (nat_cmp_is a b Greater more)) h)
  ]
]

-- the instructions among the entries are at an address or above
abbrev CodesFrom : ℕ → Program → Type 0
CodesFrom low [] = Unit {0}
CodesFrom low (e ∷ es) = (is_code e.1.value ≡ true → low ≤ e.0.at) × CodesFrom low es

codes_behind : (a : ℕ) (es : Program) → T (below_all key_cmp (unit_key a) es) → Suit es → CodesFrom (a + 1) es
unfolding Suit
codes_behind a [] below fits = tt
codes_behind a (e ∷ es) below fits = (
  λ code.
      let under : a < e.0.at = lower a e.0.at (subst (λ (k : Key). T (is_lt (key_cmp (unit_key a) k))) (unit_key_is e.0 e.1 e.0.at fits.0 code refl) (first _ _ below)) in
      omega arith,
  codes_behind a es (second _ _ below) fits.1,
)

codes_rise : (low : ℕ) (es : Program) → IsInOrder es → Suit es → CodesFrom low es → Rises 1 low (code_addresses es)
unfolding Suit
codes_rise low [] s fits from = tt
codes_rise low (e ∷ es) s fits from =
    elim (is_code e.1.value) as (λ b. is_code e.1.value ≡ b → Rises 1 low (cons_option (cond b (Some e.0.at) None) (code_addresses es))) [
      | true ↦ λ code.
          let below : T (below_all key_cmp (unit_key e.0.at) es) = subst (λ (k : Key). T (below_all key_cmp k es)) (unit_key_is e.0 e.1 e.0.at fits.0 code refl) (first _ _ s) in
          (from.0 code, codes_rise (e.0.at + 1) es (second _ _ s) fits.1 (codes_behind e.0.at es below fits.1))
      | false ↦ λ code. codes_rise low es (second _ _ s) fits.1 from.1
    ] refl

from_zero : (es : Program) → CodesFrom 0 es
from_zero [] = tt
from_zero (e ∷ es) = (λ code. omega arith, from_zero es)

-- ---- they are apart, and end by 2^32
code_len : (v : Value) → is_code v ≡ true → unit_len v ≡ 4
code_len (Code w) h = refl
code_len (Block len perm bytes) h = absurd (false≢true h)
code_len Mark h = absurd (false≢true h)
code_len Func h = absurd (false≢true h)
code_len (Body ranges) h = absurd (false≢true h)
code_len (Symbol name) h = absurd (false≢true h)
code_len (Comment text) h = absurd (false≢true h)
code_len (Bookmark text) h = absurd (false≢true h)
code_len (Plain f) h = absurd (false≢true h)
code_len (Ref to class) h = absurd (false≢true h)
code_len Gone h = absurd (false≢true h)

code_span : (o : Option Cell) → is_instruction o ≡ true → span unit_len o ≡ 4
code_span None h = absurd (false≢true h)
code_span (Some c) h = code_len c.value h

-- what ends in a block ends by 2^32
block_end : (b n : ℕ) (v : Value) → is_whole b v ≡ true → b < n → n ≤ b + block_len v → n ≤ 2 ^ 32
block_end b n (Block len perm bytes) whole more h =
    let end : b + len ≤ 4294967296 = leb-true (b + len) 4294967296 (and_parts (nat_le (b + len) 4294967296) _ (and_parts (nat_lt 0 len) _ whole).1).0 in
    omega (arith, end, h)
block_end b n Mark whole more h = absurd (omega (arith, more, h))
block_end b n Func whole more h = absurd (omega (arith, more, h))
block_end b n (Body ranges) whole more h = absurd (omega (arith, more, h))
block_end b n (Symbol name) whole more h = absurd (omega (arith, more, h))
block_end b n (Comment text) whole more h = absurd (omega (arith, more, h))
block_end b n (Bookmark text) whole more h = absurd (omega (arith, more, h))
block_end b n (Code w) whole more h = absurd (omega (arith, more, h))
block_end b n (Plain f) whole more h = absurd (omega (arith, more, h))
block_end b n (Ref to class) whole more h = absurd (omega (arith, more, h))
block_end b n Gone whole more h = absurd (omega (arith, more, h))

ends_in : (S : Program) (b n : ℕ) → IsValid S → (o : Option Cell) → cell_at S (block_key b) ≡ o → b < n → n ≤ b + span block_len o → n ≤ 2 ^ 32
ends_in S b n valid None here more h = absurd (omega (arith, more, h))
ends_in S b n valid (Some c) here more h = block_end b n c.value (whole_there (block_key b) c (valid.cells (block_key b) c here)) more h

pub code_ends : (S : Program) (z : ℕ) → IsValid S → has_instruction S z ≡ true → z + 4 ≤ 2 ^ 32
code_ends S z valid code =
    let long : unit_span S z ≡ 4 = code_span (cell_at S (unit_key z)) code in
    let around : (b : ℕ) × (b ≤ z) × (z + unit_span S z ≤ b + block_span S b) = valid.in_a_block z (omega (arith, long)) in
    ends_in S around.0 (z + 4) valid (cell_at S (block_key around.0)) refl (omega (arith, around.1)) (omega (arith, long, around.2))

codes_apart : (S : Program) → IsValid S → (a b : ℕ) → has_instruction S a ≡ true → has_instruction S b ≡ true → a < b → a + 4 ≤ b
codes_apart S valid a b ca cb less =
    let long_a : unit_span S a ≡ 4 = code_span (cell_at S (unit_key a)) ca in
    let long_b : unit_span S b ≡ 4 = code_span (cell_at S (unit_key b)) cb in
    let apart : a + unit_span S a ≤ b = valid.units_apart a b less (omega (arith, long_a)) (omega (arith, long_b)) in
    omega (arith, long_a, apart)

pub code_addresses_rise : (S : Program) → IsValid S → Rises 4 0 (code_addresses S)
code_addresses_rise S valid =
    rises_apart 4 0 (code_addresses S) (codes_rise 0 S valid.in_order (all_suit S valid.in_order valid.cells) (from_zero S))
    (λ a b ha hb less. codes_apart S valid a b ((are_codes S valid a).0 ha) ((are_codes S valid b).0 hb) less)

-- ---- the reach
grown_rises : (S : Program) (e n : ℕ) → Rises 4 0 (code_addresses S) → Rises 4 0 (grown_times S e n)
grown_rises S e zero r = rises_filter 4 0 _ (code_addresses S) r
grown_rises S e (suc n) r = rises_filter 4 0 _ (code_addresses S) r

grown_codes : (S : Program) (e n z : ℕ) → has z (grown_times S e n) ≡ true → has z (code_addresses S) ≡ true
grown_codes S e zero z h = (has-filter _ z (code_addresses S) h).0
grown_codes S e (suc n) z h = (has-filter _ z (code_addresses S) h).0

pub reach_rises : (S : Program) (e : ℕ) → IsValid S → Rises 4 0 (reach S e)
unfolding reach
reach_rises S e valid = grown_rises S e (length (code_addresses S)) (code_addresses_rise S valid)

-- each member is an instruction
pub reach_codes : (S : Program) (e z : ℕ) → IsValid S → has z (reach S e) ≡ true → has_instruction S z ≡ true
unfolding reach
reach_codes S e z valid h = (are_codes S valid z).0 (grown_codes S e (length (code_addresses S)) z h)

pub reach_ends : (S : Program) (e z : ℕ) → IsValid S → has z (reach S e) ≡ true → z + 4 ≤ 2 ^ 32
reach_ends S e z valid h = code_ends S z valid (reach_codes S e z valid h)
