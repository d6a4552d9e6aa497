-- Places in the list of a map's entries: where a key stands, where a new one would go, and what a look-up, a change and a
-- removal at that place come to. They tell the calls of a map what a search has found.
use Rattle.std.specs.Prelude.{◌≡◌, ℕ, ◌<◌, ◌≤◌, ◌-◌, T, List, length, drop, None, Some, slice_get, slice_set, slice_index_or, insert, remove}
use Rattle.std.specs.FinMap.{find, put, is_sorted}
use Rattle.std.specs.declared.cmp.Ordering.{Ordering}
use Rattle.rvd_table.specs.Table.{next_entry, last_entry, entries_from, without}

-- what it means that the key stands at place i
pub record IsKeyAt {K V : Type 0} (R : K → K → Ordering) (k : K) (es : List (K × V)) (i : ℕ) : Type 0 where
  pub within : i < length es
  pub found : (d : K × V) → find R k es ≡ Some (slice_index_or es i d).1
  pub changed : (v : V) (d : K × V) → put R k v es ≡ slice_set es i ((slice_index_or es i d).0, v)
  pub order_changed : (v : V) (d : K × V) → T (is_sorted R (slice_set es i ((slice_index_or es i d).0, v)))
  pub removed : without R k es ≡ remove es i
  pub order_removed : T (is_sorted R (remove es i))
  pub next : next_entry R k es ≡ slice_get es i
  pub rest : entries_from R k es ≡ drop i es
  pub last : last_entry R k es ≡ slice_get es i

-- what it means that the key is missing, and would go to place i
pub record IsKeyGap {K V : Type 0} (R : K → K → Ordering) (k : K) (es : List (K × V)) (i : ℕ) : Type 0 where
  pub within : i ≤ length es
  pub none : find R k es ≡ None
  pub added : (v : V) → put R k v es ≡ insert es i (k, v)
  pub order_added : (v : V) → T (is_sorted R (insert es i (k, v)))
  pub kept : without R k es ≡ es
  pub next : next_entry R k es ≡ slice_get es i
  pub rest : entries_from R k es ≡ drop i es
  pub first : i ≡ 0 → last_entry R k es ≡ None
  pub last : 0 < i → last_entry R k es ≡ slice_get es (i - 1)
