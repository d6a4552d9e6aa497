-- A change at a key that a scan passes over leaves what the scan finds. `scan-placed` says it for any
-- recursion over the entries; `first-placed` and `any-placed` are it for the first entry that passes a test
-- and for whether one does.
use Rattle.std.proofs.Common.{◌≡◌, Bool, true, false, not, cond, ◌||◌, [], ◌∷◌, Option, Some, None, refl, sym, ap, ◌∙◌, subst}
use Rattle.std.specs.Prelude.{find as first_where}
use Rattle.std.specs.List.{list_any}
use Rattle.std.specs.declared.cmp.Ordering.TheVariants.{Less, Equal, Greater}
use Rattle.std.specs.Ordering.{is_eq}
use Rattle.std.specs.FinMap.{put}
use Rattle.std.specs.FinMap.Entries.{where_key, by_order}
use Rattle.rvd_fact.specs.declared.keys.Key.{Key}
use Rattle.rvd_fact.specs.declared.cells.Cell.{Cell}
use Rattle.rvd_fact.specs.Order.{key_cmp, same_key}
use Rattle.rvd_fact.specs.Program.{Program, cell_at, placed, IsInOrder}
use Rattle.rvd_fact.proofs.KeyOrder.{keys_exact, same_key-true}
use Rattle.rvd_fact.proofs.Scans.{first, second, absent}

-- the scan passes over the cell at a key, if one is there
abbrev pub PassesOver : {A : Type 0} → (Key × Cell → A → A) → Key → Option Cell → Type 0
PassesOver {A} step k None = Unit {0}
PassesOver {A} step k (Some c) = (x : A) → step (k, c) x ≡ x

module _ {A : Type 0} (scan : Program → A) (step : Key × Cell → A → A) (by_steps : (e : Key × Cell) (es : Program) → scan (e ∷ es) ≡ step e (scan es)) (k : Key) where
  -- a step at an entry of the key
  at_key : (e : Key × Cell) (c : Cell) → k ≡ e.0 → c ≡ e.1 → ((x : A) → step (k, c) x ≡ x) → (x : A) → step e x ≡ x
  at_key e c same equal over x = ap (λ (y : Key × Cell). step y x) (λ i. (sym same i, sym equal i)) ∙ over x

  scan-put : (c : Cell) (es : Program) → PassesOver step k (cell_at es k) → PassesOver step k (Some c) → scan (put key_cmp k c es) ≡ scan es
  scan-put c [] was now = by_steps (k, c) [] ∙ now (scan [])
  scan-put c (e ∷ es) was now =
      elim (key_cmp k e.0) as (λ r. key_cmp k e.0 ≡ r → scan (by_order r ((k, c) ∷ e ∷ es) ((e.0, c) ∷ es) (e ∷ put key_cmp k c es)) ≡ scan (e ∷ es)) [
        | Less ↦ λ p. by_steps (k, c) (e ∷ es) ∙ now (scan (e ∷ es))
        | Equal ↦ λ p.
            let same : k ≡ e.0 = keys_exact k e.0 p in
            let before : PassesOver step k (Some e.1) = subst (λ r. PassesOver step k (cond (is_eq r) (Some e.1) (cell_at es k))) p was in
            by_steps (e.0, c) es ∙ at_key (e.0, c) c same refl now (scan es) ∙ sym (by_steps e es ∙ at_key e e.1 same refl before (scan es))
        | Greater ↦ λ p.
            let later : PassesOver step k (cell_at es k) = subst (λ r. PassesOver step k (cond (is_eq r) (Some e.1) (cell_at es k))) p was in
            by_steps e (put key_cmp k c es) ∙ ap (step e) (scan-put c es later now) ∙ sym (by_steps e es)
      ] refl

  -- nothing is taken away where the key isn't
  kept : (es : Program) → cell_at es k ≡ None → where_key key_cmp (λ x. not (same_key k x)) es ≡ es
  kept [] h = refl
  kept (e ∷ es) h =
      elim (same_key k e.0) as (λ b. cond b (Some e.1) (cell_at es k) ≡ None → cond (not b) (e ∷ where_key key_cmp (λ x. not (same_key k x)) es) (where_key key_cmp (λ x. not (same_key k x)) es) ≡ e ∷ es) [
        | true ↦ λ h. absurd (some_none e.1 h)
        | false ↦ λ h. ap (λ (ys : Program). e ∷ ys) (kept es h)
      ] h
    where
      some_none : (c : Cell) → Some c ≡ None → ⊥
      some_none c h = cc

  scan-without : (es : Program) → IsInOrder es → PassesOver step k (cell_at es k) → scan (where_key key_cmp (λ x. not (same_key k x)) es) ≡ scan es
  scan-without [] s was = refl
  scan-without (e ∷ es) s was =
      elim (same_key k e.0) as (λ b. same_key k e.0 ≡ b → scan (cond (not b) (e ∷ where_key key_cmp (λ x. not (same_key k x)) es) (where_key key_cmp (λ x. not (same_key k x)) es)) ≡ scan (e ∷ es)) [
        | true ↦ λ p.
            let same : k ≡ e.0 = same_key-true k e.0 p in
            let before : PassesOver step k (Some e.1) = subst (λ b. PassesOver step k (cond b (Some e.1) (cell_at es k))) p was in
            ap scan (kept es (ap (cell_at es) same ∙ absent e.0 es (first _ _ s))) ∙ sym (by_steps e es ∙ at_key e e.1 same refl before (scan es))
        | false ↦ λ p.
            let later : PassesOver step k (cell_at es k) = subst (λ b. PassesOver step k (cond b (Some e.1) (cell_at es k))) p was in
            by_steps e (where_key key_cmp (λ x. not (same_key k x)) es) ∙ ap (step e) (scan-without es (second _ _ s) later) ∙ sym (by_steps e es)
      ] refl

  -- the law
  pub scan-placed : (S : Program) (o : Option Cell) → IsInOrder S → PassesOver step k (cell_at S k) → PassesOver step k o → scan (placed S k o) ≡ scan S
  scan-placed S (Some c) s was now = scan-put c S was now
  scan-placed S None s was now = scan-without S s was

-- a cell that a test fails at
abbrev pub Fails : (Key × Cell → Bool) → Key → Option Cell → Type 0
Fails p k None = Unit {0}
Fails p k (Some c) = p (k, c) ≡ false

over_find : (p : Key × Cell → Bool) (k : Key) (o : Option Cell) → Fails p k o → PassesOver (λ (e : Key × Cell) (x : Option (Key × Cell)). cond (p e) (Some e) x) k o
over_find p k None f = tt
over_find p k (Some c) f = λ x. ap (λ (b : Bool). cond b (Some (k, c)) x) f

-- the first cell that passes stays
pub first-placed : (p : Key × Cell → Bool) (S : Program) (k : Key) (o : Option Cell) → IsInOrder S → Fails p k (cell_at S k) → Fails p k o → first_where p (placed S k o) ≡ first_where p S
first-placed p S k o s was now = scan-placed (first_where p) (λ e x. cond (p e) (Some e) x) (λ e es. refl) k S o s (over_find p k (cell_at S k) was) (over_find p k o now)

over_any : (p : Key × Cell → Bool) (k : Key) (o : Option Cell) → Fails p k o → PassesOver (λ (e : Key × Cell) (x : Bool). p e || x) k o
over_any p k None f = tt
over_any p k (Some c) f = λ x. ap (λ (b : Bool). b || x) f

-- whether one passes stays
pub any-placed : (p : Key × Cell → Bool) (S : Program) (k : Key) (o : Option Cell) → IsInOrder S → Fails p k (cell_at S k) → Fails p k o → list_any p (placed S k o) ≡ list_any p S
any-placed p S k o s was now = scan-placed (list_any p) (λ e x. p e || x) (λ e es. refl) k S o s (over_any p k (cell_at S k) was) (over_any p k o now)
