-- The references from an address stand together in the order of keys. `refs_from-entries_from` begins at the key of the
-- first slot, since a reference suits its key, and `refs_from-take` ends before an entry of a later address.
use Rattle.std.proofs.Common.{◌≡◌, ℕ, zero, suc, ◌<◌, ◌≤◌, Bool, true, false, not, cond, ◌&&◌, List, [], ◌∷◌, length, get_or, take, Option, Some, None, refl, sym, ap, ◌∙◌, arith}
use Rattle.std.specs.Prelude.{T, ◌==◌, is_some}
use Rattle.std.specs.List.{list_any, cons_option}
use Rattle.std.specs.declared.cmp.Ordering.{Ordering}
use Rattle.std.specs.declared.cmp.Ordering.TheVariants.{Less, Equal, Greater}
use Rattle.std.specs.Ordering.{nat_cmp, ordering_then, is_lt, is_le}
use Rattle.std.specs.FinMap.Entries.{below_all}
use Rattle.std.proofs.lemmas.Bool.{true≢false, and_parts, or_parts, ne_eqb, eqb-true, false_from_ne_true}
use Rattle.std.proofs.lemmas.Bool.Decides.{nat_tests}
use Rattle.std.proofs.lemmas.Cmp.{nat_cmp_total, tied_itself}
use Rattle.std.proofs.lemmas.Map.Keys.{le_from_is_le}
use Rattle.rvd_table.specs.Table.{entries_from}
use Rattle.rvd_fact.specs.declared.keys.Kind.{Kind}
use Rattle.rvd_fact.specs.declared.keys.Kind.TheVariants as kind
use Rattle.rvd_fact.specs.declared.keys.Key.{Key}
use Rattle.rvd_fact.specs.declared.cells.Cell.{Cell}
use Rattle.rvd_fact.specs.declared.values.RefClass.{RefClass}
use Rattle.rvd_fact.specs.declared.values.Value.{Value}
use Rattle.rvd_fact.specs.declared.values.Value.TheVariants.{Block, Mark, Func, Body, Symbol, Comment, Bookmark, Code, Plain, Ref, Gone}
use Rattle.rvd_fact.specs.Order.{rank, key_cmp}
use Rattle.rvd_fact.specs.Program.{Program, IsInOrder}
use Rattle.rvd_fact.specs.Memory.{key_of, ref_of, refs_from}
use Rattle.rvd_fact.specs.Valid.{IsValid, is_of}
use Rattle.rvd_fact.proofs.Scans.{Found, found, first, second}
use Rattle.rvd_fact.proofs.Validity.{suits-is_of}

first_decides : (x y : Ordering) → T (is_lt (ordering_then x y)) → is_le x ≡ true
first_decides Less y h = refl
first_decides Equal y h = refl
first_decides Greater y h = absurd h

-- a greater key isn't at a lower address
at_le : (j k : Key) → T (is_lt (key_cmp j k)) → j.at ≤ k.at
at_le j k h = le_from_is_le j.at k.at (first_decides (nat_cmp j.at k.at) _ h)

module _ (a : ℕ) where
  -- what an entry gives to the references from the address
  abbrev given : Key × Cell → Option (ℕ × RefClass × ℕ)
  given e = cond (e.0.at == a) (ref_of e.0.sub e.1.value) None

  -- ---- where they end

  none_given : (e : Key × Cell) → a < e.0.at → given e ≡ None
  none_given e later = ap (λ (b : Bool). cond b (ref_of e.0.sub e.1.value) None) (ne_eqb e.0.at a (λ same. absurd (omega (arith, same, later))))

  refs_from-later : (k : Key) (es : Program) → a < k.at → T (below_all key_cmp k es) → refs_from es a ≡ []
  refs_from-later k [] later below = refl
  refs_from-later k (e ∷ es) later below =
      let next : a < e.0.at = omega (arith, later, at_le k e.0 (first _ _ below)) in
      ap (λ o. cons_option o (refs_from es a)) (none_given e next) ∙ refs_from-later k es later (second _ _ below)

  -- nothing is given from an entry of a later address on
  pub refs_from-take : (es : Program) (i : ℕ) (d : Key × Cell) → IsInOrder es → i < length es → a < (get_or es i d).0.at → refs_from (take i es) a ≡ refs_from es a
  refs_from-take [] i d s within later = absurd (omega arith)
  refs_from-take (e ∷ es) zero d s within later =
      sym (ap (λ o. cons_option o (refs_from es a)) (none_given e later) ∙ refs_from-later e.0 es later (first _ _ s))
  refs_from-take (e ∷ es) (suc i) d s within later = ap (cons_option (given e)) (refs_from-take es i d (second _ _ s) (omega arith) later)

  -- ---- where they begin

  -- whether an entry is a reference from the address, before the key of the first slot
  abbrev strays : Key × Cell → Bool
  strays e = not (is_le (key_cmp (key_of kind.Ref a) e.0)) && is_some (given e)

  none_more : (o : Option (ℕ × RefClass × ℕ)) (rs : List (ℕ × RefClass × ℕ)) → is_some o ≡ false → rs ≡ cons_option o rs
  none_more None rs h = refl
  none_more (Some r) rs h = absurd (true≢false h)

  refs_from-none_strays : (es : Program) → list_any strays es ≡ false → refs_from (entries_from key_cmp (key_of kind.Ref a) es) a ≡ refs_from es a
  refs_from-none_strays [] h = refl
  refs_from-none_strays (e ∷ es) h =
      let p = or_parts (strays e) (list_any strays es) h in
      let rest = refs_from-none_strays es p.1 in
      elim (is_le (key_cmp (key_of kind.Ref a) e.0)) as (λ b. (not b && is_some (given e)) ≡ false → refs_from (cond b (e ∷ entries_from key_cmp (key_of kind.Ref a) es) (entries_from key_cmp (key_of kind.Ref a) es)) a ≡ refs_from (e ∷ es) a) [
        | true ↦ λ _. ap (cons_option (given e)) rest
        | false ↦ λ stays. rest ∙ none_more (given e) (refs_from es a) stays
      ] p.0

  ref_kind : (K : Kind) (slot : ℕ) (v : Value) → is_of K v ≡ true → is_some (ref_of slot v) ≡ true → rank K ≡ rank kind.Ref
  ref_kind K slot (Ref to class) of some = eqb-true (rank K) (rank kind.Ref) of
  ref_kind K slot (Block len perm bytes) of some = absurd (true≢false (sym some))
  ref_kind K slot Mark of some = absurd (true≢false (sym some))
  ref_kind K slot Func of some = absurd (true≢false (sym some))
  ref_kind K slot (Body s) of some = absurd (true≢false (sym some))
  ref_kind K slot (Symbol t) of some = absurd (true≢false (sym some))
  ref_kind K slot (Comment t) of some = absurd (true≢false (sym some))
  ref_kind K slot (Bookmark t) of some = absurd (true≢false (sym some))
  ref_kind K slot (Code w) of some = absurd (true≢false (sym some))
  ref_kind K slot (Plain f) of some = absurd (true≢false (sym some))
  ref_kind K slot Gone of some = absurd (true≢false (sym some))

  -- what is given stands at the address, as a reference
  given_at : (e : Key × Cell) → is_of e.0.kind e.1.value ≡ true → is_some (given e) ≡ true → (a ≡ e.0.at) × (rank kind.Ref ≡ rank e.0.kind)
  given_at e of some =
      elim (e.0.at == a) as (λ b. (e.0.at == a) ≡ b → is_some (cond b (ref_of e.0.sub e.1.value) None) ≡ true → (a ≡ e.0.at) × (rank kind.Ref ≡ rank e.0.kind)) [
        | true ↦ λ here is. (sym (eqb-true e.0.at a here), sym (ref_kind e.0.kind e.0.sub e.1.value of is))
        | false ↦ λ _ is. absurd (true≢false (sym is))
      ] refl some

  zero_le : (n : ℕ) → is_le (nat_cmp 0 n) ≡ true
  zero_le n = grind (arith, nat_tests)

  first_slot : (k : Key) → a ≡ k.at → rank kind.Ref ≡ rank k.kind → is_le (key_cmp (key_of kind.Ref a) k) ≡ true
  first_slot k at of =
      ap (λ (o : Ordering). is_le (ordering_then o (ordering_then (nat_cmp (rank kind.Ref) (rank k.kind)) (nat_cmp 0 k.sub)))) (ap (nat_cmp a) (sym at) ∙ tied_itself nat_cmp_total a)
      ∙ ap (λ (r : ℕ). is_le (ordering_then (nat_cmp (rank kind.Ref) r) (nat_cmp 0 k.sub))) (sym of)
      ∙ zero_le k.sub

  none_strays : (S : Program) → IsValid S → list_any strays S ≡ false
  none_strays S valid = false_from_ne_true (list_any strays S) (λ h.
      let f : Found strays S = found strays S valid.in_order h in
      let p = and_parts (not (is_le (key_cmp (key_of kind.Ref a) f.key))) (is_some (given (f.key, f.cell))) f.passes in
      let g = given_at (f.key, f.cell) (suits-is_of f.key f.cell (valid.cells f.key f.cell f.here)) p.1 in
      true≢false (sym p.0 ∙ ap not (first_slot f.key g.0 g.1)))

  -- a valid program's references from an address don't stand before the key of the first slot
  pub refs_from-entries_from : (S : Program) → IsValid S → refs_from (entries_from key_cmp (key_of kind.Ref a) S) a ≡ refs_from S a
  refs_from-entries_from S valid = refs_from-none_strays S (none_strays S valid)
