-- The order of keys is total, and tells all keys apart. Use `cases_key` to decide whether two keys are one,
-- `keys_exact` and `same_key-true` to get the equation, and `keys_total` where std asks for a total order.
use Rattle.std.proofs.Common.{◌≡◌, ℕ, true, false, List, [], ◌∷◌, get_or, refl, sym, ap, ◌∙◌, inl, inr, ◌⊎◌}
use Rattle.std.proofs.lemmas.Cmp.{on_total, then_total, nat_cmp_total, tied_itself}
use Rattle.std.proofs.lemmas.Map.Lookups.{exact_pairs, exact_unsigned}
use Rattle.std.specs.Cmp.{IsTotalOrder, Equal-is}
use Rattle.std.specs.declared.cmp.Ordering.TheVariants.{Equal}
use Rattle.std.specs.Ordering.{nat_cmp, ordering_then, is_eq}
use Rattle.rvd_fact.specs.declared.keys.Kind.{Kind}
use Rattle.rvd_fact.specs.declared.keys.Kind.TheVariants as kind
use Rattle.rvd_fact.specs.declared.keys.Key.{Key}
use Rattle.rvd_fact.specs.Order.{rank, key_cmp, same_key}

abbrev kinds : List Kind
kinds = kind.Block ∷ kind.Mark ∷ kind.Func ∷ kind.Body ∷ kind.Symbol ∷ kind.Comment ∷ kind.Bookmark ∷ kind.Unit ∷ kind.Ref ∷ []

-- the kind of a rank
abbrev kind_at : ℕ → Kind
kind_at n = get_or kinds n kind.Block

kind_at-rank : (k : Kind) → kind_at (rank k) ≡ k
kind_at-rank kind.Block = refl
kind_at-rank kind.Mark = refl
kind_at-rank kind.Func = refl
kind_at-rank kind.Body = refl
kind_at-rank kind.Symbol = refl
kind_at-rank kind.Comment = refl
kind_at-rank kind.Bookmark = refl
kind_at-rank kind.Unit = refl
kind_at-rank kind.Ref = refl

pub same_kind : (a b : Kind) → rank a ≡ rank b → a ≡ b
same_kind a b e = sym (kind_at-rank a) ∙ ap kind_at e ∙ kind_at-rank b

pub keys_total : IsTotalOrder key_cmp
keys_total = then_total (on_total (λ k. k.at) nat_cmp_total) (then_total (on_total (λ k. rank k.kind) nat_cmp_total) (on_total (λ k. k.sub) nat_cmp_total))

-- a key from the numbers that are compared
abbrev key_from : ℕ × (ℕ × ℕ) → Key
key_from p = record { at = p.0; kind = kind_at p.1.0; sub = p.1.1 }

abbrev parts : Key → ℕ × (ℕ × ℕ)
parts k = (k.at, (rank k.kind, k.sub))

key_from-parts : (k : Key) → key_from (parts k) ≡ k
key_from-parts k = ap (λ (x : Kind). record { at = k.at; kind = x; sub = k.sub }) (kind_at-rank k.kind)

-- keys that compare alike are one
pub keys_exact : (a b : Key) → key_cmp a b ≡ Equal → a ≡ b
keys_exact a b h =
    sym (key_from-parts a)
    ∙ ap key_from (exact_pairs nat_cmp (λ (x y : ℕ × ℕ). ordering_then (nat_cmp x.0 y.0) (nat_cmp x.1 y.1)) exact_unsigned (exact_pairs nat_cmp nat_cmp exact_unsigned exact_unsigned) (parts a) (parts b) h)
    ∙ key_from-parts b

pub same_key_itself : (k : Key) → same_key k k ≡ true
same_key_itself k = ap is_eq (tied_itself keys_total k)

pub same_key-true : (a b : Key) → same_key a b ≡ true → a ≡ b
same_key-true a b h = keys_exact a b ((Equal-is (key_cmp a b)).0 h)

-- two keys are one or not, and the test says which
pub cases_key : (a b : Key) → (a ≡ b) ⊎ (same_key a b ≡ false)
cases_key a b = elim (same_key a b) as (λ t. same_key a b ≡ t → (a ≡ b) ⊎ (same_key a b ≡ false)) [
  | true ↦ λ h. inl (same_key-true a b h)
  | false ↦ λ h. inr h
] refl
