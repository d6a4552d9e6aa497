-- What is at a place of a map's entries: from where a key stands, or would go, to what a look-up, a change and a removal
-- come to. `is_key_at` and `is_key_gap` are for the end of a search, and the lemmas above them for one call each.
use Rattle.std.proofs.Common.{◌≡◌, ℕ, zero, suc, ◌-◌, ◌<◌, ◌≤◌, not, cond, List, [], ◌∷◌, length, set, get_or, drop, Option, Some, None, slice_get, refl, ap, ◌∙◌, subst, arith}
use Rattle.std.specs.Prelude.{T}
use Rattle.std.specs.List.{insert, remove}
use Rattle.std.specs.Option.{option_or}
use Rattle.std.specs.declared.cmp.Ordering.{Ordering}
use Rattle.std.specs.declared.cmp.Ordering.TheVariants.{Less, Equal, Greater}
use Rattle.std.specs.Ordering.{is_eq, is_le, is_ge, eq_by_cmp}
use Rattle.std.specs.Cmp.{IsTotalOrder}
use Rattle.std.specs.FinMap.{find, put, is_sorted}
use Rattle.std.specs.FinMap.Entries.{below_all, by_order, is_sorted-put, is_sorted-where_key}
use Rattle.rvd_table.specs.Table.{next_entry, last_entry, entries_from, without}
use Rattle.rvd_table.specs.Places.{IsKeyAt, IsKeyGap}
use Rattle.rvd_table.proofs.Searching.{first, second, less, IsAt, IsGapAt, below_more, below_tied}

module _ {K V : Type 0} (R : K → K → Ordering) (k : K) where
  -- one step of each reading, by how the key stands to the first entry
  find_step : (e : K × V) (es : List (K × V)) (r : Ordering) → R k e.0 ≡ r → find R k (e ∷ es) ≡ cond (is_eq r) (Some e.1) (find R k es)
  find_step e es r h = ap (λ (r : Ordering). cond (is_eq r) (Some e.1) (find R k es)) h

  put_step : (e : K × V) (es : List (K × V)) (v : V) (r : Ordering) → R k e.0 ≡ r → put R k v (e ∷ es) ≡ by_order r ((k, v) ∷ e ∷ es) ((e.0, v) ∷ es) (e ∷ put R k v es)
  put_step e es v r h = ap (λ (r : Ordering). by_order r ((k, v) ∷ e ∷ es) ((e.0, v) ∷ es) (e ∷ put R k v es)) h

  without_step : (e : K × V) (es : List (K × V)) (r : Ordering) → R k e.0 ≡ r → without R k (e ∷ es) ≡ cond (not (is_eq r)) (e ∷ without R k es) (without R k es)
  without_step e es r h = ap (λ (r : Ordering). cond (not (is_eq r)) (e ∷ without R k es) (without R k es)) h

  next_step : (e : K × V) (es : List (K × V)) (r : Ordering) → R k e.0 ≡ r → next_entry R k (e ∷ es) ≡ cond (is_le r) (Some e) (next_entry R k es)
  next_step e es r h = ap (λ (r : Ordering). cond (is_le r) (Some e) (next_entry R k es)) h

  from_step : (e : K × V) (es : List (K × V)) (r : Ordering) → R k e.0 ≡ r → entries_from R k (e ∷ es) ≡ cond (is_le r) (e ∷ entries_from R k es) (entries_from R k es)
  from_step e es r h = ap (λ (r : Ordering). cond (is_le r) (e ∷ entries_from R k es) (entries_from R k es)) h

  last_step : (e : K × V) (es : List (K × V)) (r : Ordering) (rest : Option (K × V)) → R k e.0 ≡ r → last_entry R k es ≡ rest → last_entry R k (e ∷ es) ≡ option_or rest (cond (is_ge r) (Some e) None)
  last_step e es r rest h is = λ i. option_or (is i) (cond (is_ge (h i)) (Some e) None)

  at_within : (es : List (K × V)) (i : ℕ) → IsAt R k es i → i < length es
  at_within [] i h = absurd h
  at_within (x ∷ es) zero h = omega arith
  at_within (x ∷ es) (suc i) h = omega (arith, at_within es i h.1)

  gap_within : (es : List (K × V)) (i : ℕ) → IsGapAt R k es i → i ≤ length es
  gap_within [] zero h = omega arith
  gap_within [] (suc i) h = absurd h
  gap_within (x ∷ es) zero h = omega arith
  gap_within (x ∷ es) (suc i) h = omega (arith, gap_within es i h.1)

  pub find-at : (es : List (K × V)) (i : ℕ) (d : K × V) → IsAt R k es i → find R k es ≡ Some (get_or es i d).1
  find-at [] i d h = absurd h
  find-at (x ∷ es) zero d h = find_step x es Equal h
  find-at (x ∷ es) (suc i) d h = find_step x es Greater h.0 ∙ find-at es i d h.1

  pub put-at : (es : List (K × V)) (i : ℕ) (v : V) (d : K × V) → IsAt R k es i → put R k v es ≡ set es i ((get_or es i d).0, v)
  put-at [] i v d h = absurd h
  put-at (x ∷ es) zero v d h = put_step x es v Equal h
  put-at (x ∷ es) (suc i) v d h = put_step x es v Greater h.0 ∙ ap (λ ys. x ∷ ys) (put-at es i v d h.1)

  pub put-at_gap : (es : List (K × V)) (i : ℕ) (v : V) → IsGapAt R k es i → put R k v es ≡ insert es i (k, v)
  put-at_gap [] zero v h = refl
  put-at_gap [] (suc i) v h = absurd h
  put-at_gap (x ∷ es) zero v h = put_step x es v Less h
  put-at_gap (x ∷ es) (suc i) v h = put_step x es v Greater h.0 ∙ ap (λ ys. x ∷ ys) (put-at_gap es i v h.1)

  pub next_entry-at : (es : List (K × V)) (i : ℕ) → IsAt R k es i → next_entry R k es ≡ slice_get es i
  next_entry-at [] i h = absurd h
  next_entry-at (x ∷ es) zero h = next_step x es Equal h
  next_entry-at (x ∷ es) (suc i) h = next_step x es Greater h.0 ∙ next_entry-at es i h.1

  pub next_entry-at_gap : (es : List (K × V)) (i : ℕ) → IsGapAt R k es i → next_entry R k es ≡ slice_get es i
  next_entry-at_gap [] i h = refl
  next_entry-at_gap (x ∷ es) zero h = next_step x es Less h
  next_entry-at_gap (x ∷ es) (suc i) h = next_step x es Greater h.0 ∙ next_entry-at_gap es i h.1

module _ {K V : Type 0} (R : K → K → Ordering) (o : IsTotalOrder R) (k : K) where
  -- nothing of a list above the key is found, taken away, or not above
  find_below : (es : List (K × V)) → T (below_all R k es) → find R k es ≡ None
  find_below [] b = refl
  find_below (e ∷ es) b = find_step R k e es Less (less _ (first _ _ b)) ∙ find_below es (second _ _ b)

  without_below : (es : List (K × V)) → T (below_all R k es) → without R k es ≡ es
  without_below [] b = refl
  without_below (e ∷ es) b = without_step R k e es Less (less _ (first _ _ b)) ∙ ap (λ ys. e ∷ ys) (without_below es (second _ _ b))

  from_below : (es : List (K × V)) → T (below_all R k es) → entries_from R k es ≡ es
  from_below [] b = refl
  from_below (e ∷ es) b = from_step R k e es Less (less _ (first _ _ b)) ∙ ap (λ ys. e ∷ ys) (from_below es (second _ _ b))

  last_below : (es : List (K × V)) → T (below_all R k es) → last_entry R k es ≡ None
  last_below [] b = refl
  last_below (e ∷ es) b = last_step R k e es Less None (less _ (first _ _ b)) (last_below es (second _ _ b))

  pub find-at_gap : (es : List (K × V)) (i : ℕ) → T (is_sorted R es) → IsGapAt R k es i → find R k es ≡ None
  find-at_gap [] i s h = refl
  find-at_gap (x ∷ es) zero s h = find_step R k x es Less h ∙ find_below es (below_more R o k x.0 es h (first _ _ s))
  find-at_gap (x ∷ es) (suc i) s h = find_step R k x es Greater h.0 ∙ find-at_gap es i (second _ _ s) h.1

  pub without-at : (es : List (K × V)) (i : ℕ) → T (is_sorted R es) → IsAt R k es i → without R k es ≡ remove es i
  without-at [] i s h = absurd h
  without-at (x ∷ es) zero s h = without_step R k x es Equal h ∙ without_below es (below_tied R o k x.0 es h (first _ _ s))
  without-at (x ∷ es) (suc i) s h = without_step R k x es Greater h.0 ∙ ap (λ ys. x ∷ ys) (without-at es i (second _ _ s) h.1)

  pub without-at_gap : (es : List (K × V)) (i : ℕ) → T (is_sorted R es) → IsGapAt R k es i → without R k es ≡ es
  without-at_gap [] i s h = refl
  without-at_gap (x ∷ es) zero s h = without_step R k x es Less h ∙ ap (λ ys. x ∷ ys) (without_below es (below_more R o k x.0 es h (first _ _ s)))
  without-at_gap (x ∷ es) (suc i) s h = without_step R k x es Greater h.0 ∙ ap (λ ys. x ∷ ys) (without-at_gap es i (second _ _ s) h.1)

  pub entries_from-at : (es : List (K × V)) (i : ℕ) → T (is_sorted R es) → IsAt R k es i → entries_from R k es ≡ drop i es
  entries_from-at [] i s h = absurd h
  entries_from-at (x ∷ es) zero s h = from_step R k x es Equal h ∙ ap (λ ys. x ∷ ys) (from_below es (below_tied R o k x.0 es h (first _ _ s)))
  entries_from-at (x ∷ es) (suc i) s h = from_step R k x es Greater h.0 ∙ entries_from-at es i (second _ _ s) h.1

  pub entries_from-at_gap : (es : List (K × V)) (i : ℕ) → T (is_sorted R es) → IsGapAt R k es i → entries_from R k es ≡ drop i es
  entries_from-at_gap [] zero s h = refl
  entries_from-at_gap [] (suc i) s h = absurd h
  entries_from-at_gap (x ∷ es) zero s h = from_step R k x es Less h ∙ ap (λ ys. x ∷ ys) (from_below es (below_more R o k x.0 es h (first _ _ s)))
  entries_from-at_gap (x ∷ es) (suc i) s h = from_step R k x es Greater h.0 ∙ entries_from-at_gap es i (second _ _ s) h.1

  -- an element is there below the end
  some_at : (es : List (K × V)) (i : ℕ) → i < length es → (x : Option (K × V)) → option_or (slice_get es i) x ≡ slice_get es i
  some_at [] i l x = absurd (omega arith)
  some_at (e ∷ es) zero l x = refl
  some_at (e ∷ es) (suc i) l x = some_at es i (omega arith) x

  pub last_entry-at : (es : List (K × V)) (i : ℕ) → T (is_sorted R es) → IsAt R k es i → last_entry R k es ≡ slice_get es i
  last_entry-at [] i s h = absurd h
  last_entry-at (x ∷ es) zero s h = last_step R k x es Equal None h (last_below es (below_tied R o k x.0 es h (first _ _ s)))
  last_entry-at (x ∷ es) (suc i) s h = last_step R k x es Greater _ h.0 (last_entry-at es i (second _ _ s) h.1) ∙ some_at es i (at_within R k es i h.1) (Some x)

  pub last_entry-at_start : (es : List (K × V)) → T (is_sorted R es) → IsGapAt R k es 0 → last_entry R k es ≡ None
  last_entry-at_start [] s h = refl
  last_entry-at_start (x ∷ es) s h = last_step R k x es Less None h (last_below es (below_more R o k x.0 es h (first _ _ s)))

  pub last_entry-at_gap : (es : List (K × V)) (i : ℕ) → T (is_sorted R es) → IsGapAt R k es (suc i) → last_entry R k es ≡ slice_get es i
  last_entry-at_gap [] i s h = absurd h
  last_entry-at_gap (x ∷ es) zero s h = last_step R k x es Greater None h.0 (last_entry-at_start es (second _ _ s) h.1)
  last_entry-at_gap (x ∷ es) (suc i) s h = last_step R k x es Greater _ h.0 (last_entry-at_gap es i (second _ _ s) h.1) ∙ some_at es i (gap_within R k es (suc i) h.1) (Some x)

  last_before : (es : List (K × V)) (i : ℕ) → T (is_sorted R es) → IsGapAt R k es i → 0 < i → last_entry R k es ≡ slice_get es (i - 1)
  last_before es zero s h l = absurd (omega arith)
  last_before es (suc i) s h l = last_entry-at_gap es i s h ∙ ap (slice_get es) (omega arith)

  pub is_key_at : (es : List (K × V)) (i : ℕ) → T (is_sorted R es) → IsAt R k es i → IsKeyAt R k es i
  is_key_at es i s h =
      record {
        within = at_within R k es i h;
        found = λ d. find-at R k es i d h;
        changed = λ v d. put-at R k es i v d h;
        order_changed = λ v d. subst (λ (ys : List (K × V)). T (is_sorted R ys)) (put-at R k es i v d h) (is_sorted-put R o k v es s);
        removed = without-at es i s h;
        order_removed = subst (λ (ys : List (K × V)). T (is_sorted R ys)) (without-at es i s h) (is_sorted-where_key R (λ x. not (eq_by_cmp R k x)) es s);
        next = next_entry-at R k es i h;
        rest = entries_from-at es i s h;
        last = last_entry-at es i s h;
      }

  pub is_key_gap : (es : List (K × V)) (i : ℕ) → T (is_sorted R es) → IsGapAt R k es i → IsKeyGap R k es i
  is_key_gap es i s h =
      record {
        within = gap_within R k es i h;
        none = find-at_gap es i s h;
        added = λ v. put-at_gap R k es i v h;
        order_added = λ v. subst (λ (ys : List (K × V)). T (is_sorted R ys)) (put-at_gap R k es i v h) (is_sorted-put R o k v es s);
        kept = without-at_gap es i s h;
        next = next_entry-at_gap R k es i h;
        rest = entries_from-at_gap es i s h;
        first = λ z. last_entry-at_start es s (subst (IsGapAt R k es) z h);
        last = last_before es i s h;
      }
