-- What a search of a program's entries finds first: `found_first` says it by the cells at keys, `first_is` and `none_is` give
-- it where one cell passes, or none. `Scans` of rvd_fact says the same of whether any passes.
use Rattle.std.proofs.Common.{◌≡◌, ℕ, ◌<◌, ◌≤◌, Bool, true, false, cond, [], ◌∷◌, Option, Some, None, refl, sym, ap, ◌∙◌, inl, inr, ◌⊎◌, arith}
use Rattle.std.specs.Prelude.{T, find as first_where, MatchOption}
use Rattle.std.specs.declared.cmp.Ordering.{Ordering}
use Rattle.std.specs.declared.cmp.Ordering.TheVariants.{Less, Equal, Greater}
use Rattle.std.specs.Ordering.{is_lt, nat_cmp, ordering_then}
use Rattle.std.specs.FinMap.Entries.{below_all}
use Rattle.std.proofs.lemmas.Bool.{both_ways}
use Rattle.std.proofs.lemmas.Cmp.{ranked}
use Rattle.std.proofs.lemmas.Option.{none-some, same_Some}
use Rattle.rvd_fact.specs.declared.keys.Key.{Key}
use Rattle.rvd_fact.specs.declared.cells.Cell.{Cell}
use Rattle.rvd_fact.specs.Order.{key_cmp, same_key}
use Rattle.rvd_fact.specs.Program.{Program, cell_at, IsInOrder}
use Rattle.rvd_fact.proofs.KeyOrder.{cases_key, same_key_itself}
use Rattle.rvd_fact.proofs.Scans.{behind, first, second}

-- a key that is less doesn't stand at a higher address
pub less_at : (x y : ℕ) (o : Ordering) → T (is_lt (ordering_then (nat_cmp x y) o)) → x ≤ y
less_at x y o h = elim (nat_cmp x y) as (λ r. r ≡ nat_cmp x y → T (is_lt (ordering_then r o)) → x ≤ y) [
  | Less ↦ λ e _. let below : x < y = ranked x y Less e in omega (arith, below)
  | Equal ↦ λ e _. let same : x ≡ y = ranked x y Equal e in omega (arith, same)
  | Greater ↦ λ e t. absurd t
] refl h

-- a cell behind an entry is that entry's, or stands among the others
at_entry : (e : Key × Cell) (S : Program) (k : Key) (c : Cell) → cell_at (e ∷ S) k ≡ Some c → (e ≡ (k, c)) ⊎ (cell_at S k ≡ Some c)
at_entry e S k c here = elim (cases_key k e.0) [
  | inl same ↦
      let own : Some e.1 ≡ Some c = sym (ap (λ (b : Bool). cond b (Some e.1) (cell_at S k)) (ap (λ (x : Key). same_key x e.0) same ∙ same_key_itself e.0)) ∙ here in
      inl (λ i. (sym same i, same_Some e.1 c own i))
  | inr other ↦ inr (sym (ap (λ (b : Bool). cond b (Some e.1) (cell_at S k)) other) ∙ here)
]

-- what stands behind a key doesn't stand at a lower address
behind_at : (q : Key) (S : Program) (k : Key) (c : Cell) → T (below_all key_cmp q S) → cell_at S k ≡ Some c → q.at ≤ k.at
behind_at q [] k c below here = absurd (none-some c here)
behind_at q (e ∷ S) k c below here = elim (at_entry e S k c here) [
  | inl own ↦
      let low : q.at ≤ e.0.at = less_at q.at e.0.at _ (first _ _ below) in
      let at : e.0.at ≡ k.at = ap (λ (x : Key × Cell). x.0.at) own in
      omega (arith, low, at)
  | inr later ↦ behind_at q S k c (second _ _ below) later
]

module _ (p : Key × Cell → Bool) where
  -- an entry is a cell that passes, and none that passes stands at a lower address
  pub record IsFirst (S : Program) (e : Key × Cell) : Type 0 where
    pub here : cell_at S e.0 ≡ Some e.1
    pub passes : p e ≡ true
    pub lowest : (k : Key) (c : Cell) → cell_at S k ≡ Some c → p (k, c) ≡ true → e.0.at ≤ k.at

  -- no cell passes
  abbrev pub NonePasses : Program → Type 0
  NonePasses S = (k : Key) (c : Cell) → cell_at S k ≡ Some c → p (k, c) ≡ true → ⊥

  taken_first : (e : Key × Cell) (S : Program) → T (below_all key_cmp e.0 S) → p e ≡ true → IsFirst (e ∷ S) e
  taken_first e S below passes = record {
    here = ap (λ (b : Bool). cond b (Some e.1) (cell_at S e.0)) (same_key_itself e.0);
    passes = passes;
    lowest = λ k c here _. elim (at_entry e S k c here) [
      | inl own ↦ let at : e.0.at ≡ k.at = ap (λ (x : Key × Cell). x.0.at) own in omega (arith, at)
      | inr later ↦ behind_at e.0 S k c below later
    ];
  }

  -- an entry that doesn't pass
  passed_over : (e : Key × Cell) (S : Program) (k : Key) (c : Cell) → p e ≡ false → cell_at (e ∷ S) k ≡ Some c → p (k, c) ≡ true → cell_at S k ≡ Some c
  passed_over e S k c fails here passes = elim (at_entry e S k c here) [
    | inl own ↦ absurd (both_ways (p e) fails (ap p own ∙ passes))
    | inr later ↦ later
  ]

  passed_first : (e : Key × Cell) (S : Program) (o : Option (Key × Cell)) → T (below_all key_cmp e.0 S) → p e ≡ false → MatchOption o (NonePasses S) (IsFirst S) → MatchOption o (NonePasses (e ∷ S)) (IsFirst (e ∷ S))
  passed_first e S None below fails none = λ k c here passes. none k c (passed_over e S k c fails here passes) passes
  passed_first e S (Some f) below fails found = record {
    here = behind e S f.0 f.1 below found.here;
    passes = found.passes;
    lowest = λ k c here passes. found.lowest k c (passed_over e S k c fails here passes) passes;
  }

  pub found_first : (S : Program) → IsInOrder S → MatchOption (first_where p S) (NonePasses S) (IsFirst S)
  found_first [] s = λ k c here passes. none-some c here
  found_first (e ∷ S) s =
      elim (p e) as (λ b. p e ≡ b → MatchOption (cond b (Some e) (first_where p S)) (NonePasses (e ∷ S)) (IsFirst (e ∷ S))) [
        | true ↦ λ passes. taken_first e S (first _ _ s) passes
        | false ↦ λ fails. passed_first e S (first_where p S) (first _ _ s) fails (found_first S (second _ _ s))
      ] refl

  one_of : (S : Program) (k : Key) (c : Cell) (o : Option (Key × Cell)) → MatchOption o (NonePasses S) (IsFirst S) → cell_at S k ≡ Some c → p (k, c) ≡ true → ((q : Key) (d : Cell) → cell_at S q ≡ Some d → p (q, d) ≡ true → q ≡ k) → o ≡ Some (k, c)
  one_of S k c None none here passes only = absurd (none k c here passes)
  one_of S k c (Some e) found here passes only =
      let same : e.0 ≡ k = only e.0 e.1 found.here found.passes in
      let cell : Some e.1 ≡ Some c = sym found.here ∙ ap (cell_at S) same ∙ here in
      λ i. Some (same i, same_Some e.1 c cell i)

  none_of : (S : Program) (o : Option (Key × Cell)) → MatchOption o (NonePasses S) (IsFirst S) → NonePasses S → o ≡ None
  none_of S None none nowhere = refl
  none_of S (Some e) found nowhere = absurd (nowhere e.0 e.1 found.here found.passes)

  -- where one key's cell passes alone, it is found
  pub first_is : (S : Program) → IsInOrder S → (k : Key) (c : Cell) → cell_at S k ≡ Some c → p (k, c) ≡ true → ((q : Key) (d : Cell) → cell_at S q ≡ Some d → p (q, d) ≡ true → q ≡ k) → first_where p S ≡ Some (k, c)
  first_is S s k c here passes only = one_of S k c (first_where p S) (found_first S s) here passes only

  pub none_is : (S : Program) → IsInOrder S → NonePasses S → first_where p S ≡ None
  none_is S s nowhere = none_of S (first_where p S) (found_first S s) nowhere
