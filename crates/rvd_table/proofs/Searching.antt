-- What a binary search has learnt of a map's entries: the key is above those before one place, and below those from
-- another place on. Use these lemmas to step a search, and to end it at a place of the key or between two neighbours.
-- What follows for the calls of a map is in `Places`.
use Rattle.std.proofs.Common.{◌≡◌, ℕ, zero, suc, ◌<◌, ◌≤◌, Bool, true, false, ◌&&◌, List, [], ◌∷◌, length, get_or, refl, sym, ap, ◌∙◌, subst, arith}
use Rattle.std.specs.Prelude.{T}
use Rattle.std.specs.declared.cmp.Ordering.{Ordering}
use Rattle.std.specs.declared.cmp.Ordering.TheVariants.{Less, Equal, Greater}
use Rattle.std.specs.Ordering.{is_lt, ordering_reverse}
use Rattle.std.specs.Cmp.{IsTotalOrder}
use Rattle.std.specs.FinMap.{is_sorted}
use Rattle.std.specs.FinMap.Entries.{below_all}

-- the parts of a test of two parts
pub first : (a b : Bool) → T (a && b) → T a
first true b h = tt
first false b h = absurd h

pub second : (a b : Bool) → T (a && b) → T b
second true b h = h
second false b h = absurd h

pub both : (a b : Bool) → T a → T b → T (a && b)
both true b p q = q
both false b p q = p

pub less : (o : Ordering) → T (is_lt o) → o ≡ Less
less Less h = refl
less Equal h = absurd h
less Greater h = absurd h

pub is_less : (o : Ordering) → o ≡ Less → T (is_lt o)
is_less o h = subst (λ r. T (is_lt r)) (sym h) tt

module _ {K V : Type 0} (R : K → K → Ordering) (k : K) where
  -- the entry at place i has the key, and those before it are below
  abbrev pub IsAt : List (K × V) → ℕ → Type 0
  IsAt [] i = ⊥
  IsAt (e ∷ es) zero = R k e.0 ≡ Equal
  IsAt (e ∷ es) (suc i) = (R k e.0 ≡ Greater) × IsAt es i

  -- the key would go to place i: those before it are below, and the next is above
  abbrev pub IsGapAt : List (K × V) → ℕ → Type 0
  IsGapAt [] zero = Unit {0}
  IsGapAt [] (suc i) = ⊥
  IsGapAt (e ∷ es) zero = R k e.0 ≡ Less
  IsGapAt (e ∷ es) (suc i) = (R k e.0 ≡ Greater) × IsGapAt es i

  -- the key is above the first i entries
  abbrev pub IsPassed : List (K × V) → ℕ → Type 0
  IsPassed es zero = Unit {0}
  IsPassed [] (suc i) = ⊥
  IsPassed (e ∷ es) (suc i) = (R k e.0 ≡ Greater) × IsPassed es i

  -- the key is below the entries from place i on
  abbrev pub IsBelowFrom : List (K × V) → ℕ → Type 0
  IsBelowFrom [] i = Unit {0}
  IsBelowFrom (e ∷ es) zero = (R k e.0 ≡ Less) × T (below_all R k es)
  IsBelowFrom (e ∷ es) (suc i) = IsBelowFrom es i

  -- nothing is left from the end on
  pub below_from_end : (es : List (K × V)) → IsBelowFrom es (length es)
  below_from_end [] = tt
  below_from_end (e ∷ es) = below_from_end es

  -- a search that has nothing left between two places has found a gap
  pub gap_between : (es : List (K × V)) (i : ℕ) → i ≤ length es → IsPassed es i → IsBelowFrom es i → IsGapAt es i
  gap_between [] zero l p b = tt
  gap_between [] (suc i) l p b = p
  gap_between (e ∷ es) zero l p b = b.0
  gap_between (e ∷ es) (suc i) l p b = (p.0, gap_between es i (omega arith) p.1 b)

  -- a key that is above them all would go to the end
  pub passed_gap : (es : List (K × V)) (i : ℕ) → i ≡ length es → IsPassed es i → IsGapAt es (length es)
  passed_gap es i e p = gap_between es (length es) (omega arith) (subst (IsPassed es) e p) (below_from_end es)

module _ {K : Type 0} (R : K → K → Ordering) (o : IsTotalOrder R) (k : K) where
  -- a key above y is above what is below y
  above_lower : (x y : K) → R k y ≡ Greater → R x y ≡ Less → R k x ≡ Greater
  above_lower x y h l = o.antisymm k x ∙ ap ordering_reverse (o.trans x y k l (o.antisymm y k ∙ ap ordering_reverse h))

  -- a key that ties with y is above what is below y
  tied_lower : (x y : K) → R k y ≡ Equal → R x y ≡ Less → R k x ≡ Greater
  tied_lower x y h l = o.congr k y x h ∙ o.antisymm y x ∙ ap ordering_reverse l

module _ {K V : Type 0} (R : K → K → Ordering) (o : IsTotalOrder R) (k : K) where
  -- a key below y is below what is above y
  pub below_more : (x : K) (es : List (K × V)) → R k x ≡ Less → T (below_all R x es) → T (below_all R k es)
  below_more x [] h b = tt
  below_more x (e ∷ es) h b = both _ _ (is_less _ (o.trans k x e.0 h (less _ (first _ _ b)))) (below_more x es h (second _ _ b))

  -- a key that ties with y is below what is above y
  pub below_tied : (x : K) (es : List (K × V)) → R k x ≡ Equal → T (below_all R x es) → T (below_all R k es)
  below_tied x [] h b = tt
  below_tied x (e ∷ es) h b = both _ _ (is_less _ (o.congr k x e.0 h ∙ less _ (first _ _ b))) (below_tied x es h (second _ _ b))

  -- an entry of a list is above what is below the whole list
  below_at : (x : K) (es : List (K × V)) (i : ℕ) (d : K × V) → i < length es → T (below_all R x es) → R x (get_or es i d).0 ≡ Less
  below_at x [] i d l b = absurd (omega arith)
  below_at x (e ∷ es) zero d l b = less _ (first _ _ b)
  below_at x (e ∷ es) (suc i) d l b = below_at x es i d (omega arith) (second _ _ b)

  -- the key is above the entry at place i, so above the first i + 1
  pub passed_to : (es : List (K × V)) (i : ℕ) (d : K × V) → T (is_sorted R es) → i < length es → R k (get_or es i d).0 ≡ Greater → IsPassed R k es (suc i)
  passed_to [] i d s l h = absurd (omega arith)
  passed_to (e ∷ es) zero d s l h = (h, tt)
  passed_to (e ∷ es) (suc i) d s l h = (above_lower R o k e.0 (get_or es i d).0 h (below_at e.0 es i d (omega arith) (first _ _ s)), passed_to es i d (second _ _ s) (omega arith) h)

  -- the key is below the entry at place i, so below those from there on
  pub below_from : (es : List (K × V)) (i : ℕ) (d : K × V) → T (is_sorted R es) → i < length es → R k (get_or es i d).0 ≡ Less → IsBelowFrom R k es i
  below_from [] i d s l h = absurd (omega arith)
  below_from (e ∷ es) zero d s l h = (h, below_more e.0 es h (first _ _ s))
  below_from (e ∷ es) (suc i) d s l h = below_from es i d (second _ _ s) (omega arith) h

  -- the key ties with the entry at place i
  pub tied_at : (es : List (K × V)) (i : ℕ) (d : K × V) → T (is_sorted R es) → i < length es → R k (get_or es i d).0 ≡ Equal → IsAt R k es i
  tied_at [] i d s l h = absurd (omega arith)
  tied_at (e ∷ es) zero d s l h = h
  tied_at (e ∷ es) (suc i) d s l h = (tied_lower R o k e.0 (get_or es i d).0 h (below_at e.0 es i d (omega arith) (first _ _ s)), tied_at es i d (second _ _ s) (omega arith) h)
