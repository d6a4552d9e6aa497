-- What has a length: a cell that takes bytes as a unit stands at a key of units with the sub 0, and a block alike. Use
-- `unit_at_key` and `block_at_key` to get the key from the address.
use Rattle.std.proofs.Common.{◌≡◌, ℕ, ◌<◌, ◌≤◌, true, ◌&&◌, Option, Some, None, refl, ap, arith}
use Rattle.std.specs.Prelude.{nat_le}
use Rattle.std.proofs.lemmas.Bool.{and_parts, eqb-true, leb-true}
use Rattle.rvd_fact.specs.declared.keys.Kind.{Kind}
use Rattle.rvd_fact.specs.declared.keys.Kind.TheVariants as kind
use Rattle.rvd_fact.specs.declared.keys.Key.{Key}
use Rattle.rvd_fact.specs.declared.cells.Cell.{Cell}
use Rattle.rvd_fact.specs.declared.values.Value.{Value}
use Rattle.rvd_fact.specs.declared.values.Value.TheVariants.{Block, Mark, Func, Body, Symbol, Comment, Bookmark, Code, Plain, Ref, Gone}
use Rattle.rvd_fact.specs.Order.{rank}
use Rattle.rvd_fact.specs.Memory.{key_of, unit_len, block_len}
use Rattle.rvd_fact.specs.Valid.{suits, is_of, is_address, top_sub, is_whole, may_stand, span}
use Rattle.rvd_fact.proofs.KeyOrder.{same_kind}
use Rattle.rvd_fact.proofs.Validity.{suits-is_of}

suits-sub : (k : Key) (c : Cell) → suits k c ≡ true → nat_le k.sub (top_sub k.kind) ≡ true
suits-sub k c h =
    let of = and_parts (is_of k.kind c.value) (is_address k.at && (nat_le k.sub (top_sub k.kind) && (is_whole k.at c.value && may_stand c.source c.value))) h in
    let at = and_parts (is_address k.at) (nat_le k.sub (top_sub k.kind) && (is_whole k.at c.value && may_stand c.source c.value)) of.1 in
    (and_parts (nat_le k.sub (top_sub k.kind)) (is_whole k.at c.value && may_stand c.source c.value) at.1).0

-- a key of a kind that has the sub 0 alone
at_key : (q : Key) (K : Kind) → rank q.kind ≡ rank K → top_sub K ≡ 0 → nat_le q.sub (top_sub q.kind) ≡ true → q ≡ key_of K q.at
at_key q K of top sub =
    let same : q.kind ≡ K = same_kind q.kind K of in
    let low : q.sub ≤ top_sub q.kind = leb-true q.sub (top_sub q.kind) sub in
    let none : q.sub ≡ 0 = omega (arith, low, ap top_sub same, top) in
    λ i. record { at = q.at; kind = same i; sub = none i }

unit_kind : (K : Kind) (v : Value) → is_of K v ≡ true → 0 < unit_len v → rank K ≡ rank kind.Unit
unit_kind K (Block len perm bytes) of up = absurd (omega (arith, up))
unit_kind K Mark of up = absurd (omega (arith, up))
unit_kind K Func of up = absurd (omega (arith, up))
unit_kind K (Body s) of up = absurd (omega (arith, up))
unit_kind K (Symbol t) of up = absurd (omega (arith, up))
unit_kind K (Comment t) of up = absurd (omega (arith, up))
unit_kind K (Bookmark t) of up = absurd (omega (arith, up))
unit_kind K (Code w) of up = eqb-true (rank K) (rank kind.Unit) of
unit_kind K (Plain f) of up = eqb-true (rank K) (rank kind.Unit) of
unit_kind K (Ref to class) of up = absurd (omega (arith, up))
unit_kind K Gone of up = absurd (omega (arith, up))

block_kind : (K : Kind) (v : Value) → is_of K v ≡ true → 0 < block_len v → rank K ≡ rank kind.Block
block_kind K (Block len perm bytes) of up = eqb-true (rank K) (rank kind.Block) of
block_kind K Mark of up = absurd (omega (arith, up))
block_kind K Func of up = absurd (omega (arith, up))
block_kind K (Body s) of up = absurd (omega (arith, up))
block_kind K (Symbol t) of up = absurd (omega (arith, up))
block_kind K (Comment t) of up = absurd (omega (arith, up))
block_kind K (Bookmark t) of up = absurd (omega (arith, up))
block_kind K (Code w) of up = absurd (omega (arith, up))
block_kind K (Plain f) of up = absurd (omega (arith, up))
block_kind K (Ref to class) of up = absurd (omega (arith, up))
block_kind K Gone of up = absurd (omega (arith, up))

-- a length that only cells at keys of a kind with the sub 0 have
abbrev pub IsLengthAt : Kind → (Value → ℕ) → Type 0
IsLengthAt K len = (q : Key) (c : Cell) → suits q c ≡ true → 0 < len c.value → q ≡ key_of K q.at

pub unit_at_key : IsLengthAt kind.Unit unit_len
unit_at_key q c s up = at_key q kind.Unit (unit_kind q.kind c.value (suits-is_of q c s) up) refl (suits-sub q c s)

pub block_at_key : IsLengthAt kind.Block block_len
block_at_key q c s up = at_key q kind.Block (block_kind q.kind c.value (suits-is_of q c s) up) refl (suits-sub q c s)

-- what has a span is a cell
pub some_of : (len : Value → ℕ) (o : Option Cell) → 0 < span len o → (c : Cell) × (o ≡ Some c)
some_of len None up = absurd (omega (arith, up))
some_of len (Some c) up = (c, refl)
