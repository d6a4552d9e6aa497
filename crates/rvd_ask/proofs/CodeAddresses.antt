-- The addresses of a valid program's instructions: `code_addresses` has just those where an instruction is (`are_codes`), and
-- `unit_key_is` says that an instruction stands at the key of a unit.
use Rattle.std.proofs.Common.{◌≡◌, ℕ, Bool, true, false, cond, ◌&&◌, ◌||◌, List, [], ◌∷◌, Option, Some, None, refl, sym, ap, ◌∙◌, arith}
use Rattle.std.specs.Prelude.{◌==◌, nat_le}
use Rattle.std.specs.List.{list_any}
use Rattle.std.proofs.lemmas.Bool.{false≢true, and_parts, and_from, eq-eqb, eqb-true, leb-true}
use Rattle.rvd_fact.specs.declared.keys.Kind.{Kind}
use Rattle.rvd_fact.specs.declared.keys.Kind.TheVariants as kind
use Rattle.rvd_fact.specs.declared.keys.Key.{Key}
use Rattle.rvd_fact.specs.declared.cells.Cell.{Cell}
use Rattle.rvd_fact.specs.declared.values.Value.{Value}
use Rattle.rvd_fact.specs.declared.values.Value.TheVariants.{Block, Mark, Func, Body, Symbol, Comment, Bookmark, Code, Plain, Ref, Gone}
use Rattle.rvd_fact.specs.Order.{rank}
use Rattle.rvd_fact.specs.Program.{Program, cell_at}
use Rattle.rvd_fact.specs.Memory.{unit_key, is_code, is_instruction, has_instruction}
use Rattle.rvd_fact.specs.Valid.{IsValid, suits, is_address, is_of, top_sub}
use Rattle.rvd_fact.proofs.KeyOrder.{same_kind}
use Rattle.rvd_fact.proofs.Scans.{Found, found, scanned}
use Rattle.rvd_fact.proofs.Validity.{suits-is_of}
use Rattle.rvd_ask.specs.Reach.{has, code_addresses}
use Rattle.rvd_ask.proofs.ReachWalks.{AreCodes}

-- whether an entry is the instruction at an address
abbrev code_here : ℕ → Key × Cell → Bool
code_here z e = is_code e.1.value && e.0.at == z

has-codes : (z : ℕ) (S : Program) → has z (code_addresses S) ≡ list_any (code_here z) S
has-codes z [] = refl
has-codes z (e ∷ es) = elim (is_code e.1.value) as (λ b. has z (filter_cons (cond b (Some e.0.at) None) (code_addresses es)) ≡ ((b && e.0.at == z) || list_any (code_here z) es)) [
  | true ↦ ap (λ b. e.0.at == z || b) (has-codes z es)
  | false ↦ has-codes z es
]
  where
    filter_cons : Option ℕ → List ℕ → List ℕ
    filter_cons None xs = xs
    filter_cons (Some x) xs = x ∷ xs

unit_kind : (K : Kind) (v : Value) → is_code v ≡ true → is_of K v ≡ true → rank K ≡ 7
unit_kind K (Code w) h of = eqb-true (rank K) 7 of
unit_kind K (Block len perm bytes) h of = absurd (false≢true h)
unit_kind K Mark h of = absurd (false≢true h)
unit_kind K Func h of = absurd (false≢true h)
unit_kind K (Body s) h of = absurd (false≢true h)
unit_kind K (Symbol s) h of = absurd (false≢true h)
unit_kind K (Comment s) h of = absurd (false≢true h)
unit_kind K (Bookmark s) h of = absurd (false≢true h)
unit_kind K (Plain f) h of = absurd (false≢true h)
unit_kind K (Ref to class) h of = absurd (false≢true h)
unit_kind K Gone h of = absurd (false≢true h)

top_of_unit : (K : Kind) → K ≡ kind.Unit → top_sub K ≡ 0
top_of_unit K e = ap top_sub e

-- the key of an instruction is that of its unit
pub unit_key_is : (k : Key) (c : Cell) (z : ℕ) → suits k c ≡ true → is_code c.value ≡ true → k.at ≡ z → k ≡ unit_key z
unit_key_is k c z h code at =
    let of : is_of k.kind c.value ≡ true = suits-is_of k c h in
    let K : k.kind ≡ kind.Unit = same_kind k.kind kind.Unit (unit_kind k.kind c.value code of) in
    let s : k.sub ≡ 0 = omega (arith, leb-true k.sub (top_sub k.kind) (and_parts (nat_le k.sub (top_sub k.kind)) _ (and_parts (is_address k.at) _ (and_parts (is_of k.kind c.value) _ h).1).1).0, top_of_unit k.kind K) in
    λ i. record { at = at i; kind = K i; sub = s i }

pub are_codes : (S : Program) → IsValid S → AreCodes S
are_codes S v z = (forth, back)
  where
    forth : has z (code_addresses S) ≡ true → has_instruction S z ≡ true
    forth h =
        let f : Found (code_here z) S = found (code_here z) S v.in_order (sym (has-codes z S) ∙ h) in
        let parts = and_parts (is_code f.cell.value) (f.key.at == z) f.passes in
        let key : f.key ≡ unit_key z = unit_key_is f.key f.cell z (v.cells f.key f.cell f.here) parts.0 (eqb-true f.key.at z parts.1) in
        ap is_instruction (ap (cell_at S) (sym key) ∙ f.here) ∙ parts.0

    back : has_instruction S z ≡ true → has z (code_addresses S) ≡ true
    back h = has-codes z S ∙ at_cell (cell_at S (unit_key z)) refl h
      where
        at_cell : (o : Option Cell) → cell_at S (unit_key z) ≡ o → is_instruction o ≡ true → list_any (code_here z) S ≡ true
        at_cell None e h = absurd (false≢true h)
        at_cell (Some c) e h = scanned (code_here z) S (record { key = unit_key z; cell = c; here = e; passes = and_from (is_code c.value) (z == z) h (eq-eqb z z refl) })
