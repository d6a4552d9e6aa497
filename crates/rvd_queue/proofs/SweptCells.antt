-- The two sets after a sweep over all cells, which writes each cell and lets some go. Use `swept` for what a sweep leaves,
-- and `swept_items` for the items of a test afterwards.
use Rattle.std.proofs.Common.{◌≡◌, ℕ, suc, Bool, true, false, cond, not, ◌&&◌, ◌||◌, List, [], ◌∷◌, length, filter, map, Option, Some, None, refl, sym, ap, ◌∙◌, subst}
use Rattle.std.proofs.lemmas.List.Elements.{filter_agree}
use Rattle.std.specs.Map.{keys_of}
use Rattle.std.specs.Map.Calls.{RetainsPairs}
use Rattle.rvd_ask.specs.declared.asks.Analyzer.{Analyzer}
use Rattle.rvd_ask.specs.declared.asks.Item.{Item}
use Rattle.rvd_ask.specs.Unsettled.{has_item, same_analyzer}
use Rattle.rvd_queue.specs.declared.cells.Cell.{Cell}
use Rattle.rvd_queue.specs.Cells.{InOrder, Contents, contents_of, items_where, queued_in, kept_in, is_queued, is_kept}
use Rattle.rvd_queue.specs.Sets.{with_all, without_analyzer}
use Rattle.rvd_queue.proofs.ItemSets.{Sorted, sorted, same_sets, sorted-with_all, has_item-with_all}
use Rattle.rvd_queue.proofs.Members.{Cells, cell_at, passes, has_item-items, sorted-items}

-- each cell is written by g, and those that p refuses go
abbrev pub rewritten : (Cell → Cell) → Cells → Cells
rewritten g cells = map (λ (e : Item × Cell). (e.0, g e.1)) cells

abbrev pub sweep : (Item × Cell → Bool) → (Cell → Cell) → Cells → Cells
sweep p g cells = rewritten g (filter p cells)

pub swept : {F : Type 0} (T : F → Item → Cell → Bool → Cell → F → Type 0) (p : Item × Cell → Bool) (g : Cell → Cell) (f : F) → ((i : Item) (c : Cell) (b : Bool) (w : Cell) (f' : F) → T f i c b w f' → (b ≡ p (i, c)) × (w ≡ g c) × (f' ≡ f)) → (cells left : Cells) → RetainsPairs T f cells left → left ≡ sweep p g cells
swept T p g f says [] left h = h
swept T p g f says (e ∷ cells) left h =
    let s = says e.0 e.1 h.0 h.1 h.2 h.4 in
    let rest : h.3 ≡ sweep p g cells = swept T p g f says cells h.3 (subst (λ k. RetainsPairs T k cells h.3) s.2 h.5) in
    h.6 ∙ (λ x. cond (s.0 x) ((e.0, s.1 x) ∷ rest x) (rest x)) ∙ pushed (p e)
  where
    pushed : (b : Bool) → cond b ((e.0, g e.1) ∷ sweep p g cells) (sweep p g cells) ≡ rewritten g (cond b (e ∷ filter p cells) (filter p cells))
    pushed true = refl
    pushed false = refl

pub swept_items : (test h : Cell → Bool) (p : Item × Cell → Bool) (g : Cell → Cell) → ((e : Item × Cell) → (p e && test (g e.1)) ≡ h e.1) → (cells : Cells) → items_where test (sweep p g cells) ≡ items_where h cells
swept_items test h p g agree [] = refl
swept_items test h p g agree (e ∷ cells) =
    (elim (p e) as (λ b. items_where test (rewritten g (cond b (e ∷ filter p cells) (filter p cells))) ≡ keys_of (cond (b && test (g e.1)) (e ∷ filter (λ d. h d.1) cells) (filter (λ d. h d.1) cells))) [
      | true ↦ elim (test (g e.1)) as (λ b. keys_of (cond b ((e.0, g e.1) ∷ filter (λ d. test d.1) (sweep p g cells)) (filter (λ d. test d.1) (sweep p g cells))) ≡ keys_of (cond b (e ∷ filter (λ d. h d.1) cells) (filter (λ d. h d.1) cells))) [
        | true ↦ ap (λ (items : List Item). e.0 ∷ items) (swept_items test h p g agree cells)
        | false ↦ swept_items test h p g agree cells
      ]
      | false ↦ swept_items test h p g agree cells
    ])
    ∙ ap (λ b. keys_of (cond b (e ∷ filter (λ d. h d.1) cells) (filter (λ d. h d.1) cells))) (agree e)

-- ---- the items of all tests that the calls speak of
pub items_none : (cells : Cells) → items_where (λ c. false) cells ≡ []
items_none [] = refl
items_none (e ∷ cells) = items_none cells

pub items_either : (cells : Cells) → InOrder cells → items_where (λ c. c.queued || c.kept) cells ≡ with_all (kept_in cells) (queued_in cells)
items_either cells order =
    let s : Sorted (keys_of cells) = sorted (keys_of cells) order in
    same_sets (items_where (λ c. c.queued || c.kept) cells) (with_all (kept_in cells) (queued_in cells)) (sorted-items (λ c. c.queued || c.kept) cells s) (sorted-with_all (kept_in cells) (queued_in cells) (sorted-items is_queued cells s)) (λ i.
    has_item-items i (λ c. c.queued || c.kept) cells s
    ∙ either (cell_at i cells)
    ∙ (λ x. sym (has_item-items i is_kept cells s) x || sym (has_item-items i is_queued cells s) x)
    ∙ sym (has_item-with_all i (kept_in cells) (queued_in cells)))
  where
    turned : (a b : Bool) → (a || b) ≡ (b || a)
    turned true true = refl
    turned true false = refl
    turned false true = refl
    turned false false = refl

    either : (o : Option Cell) → passes (λ c. c.queued || c.kept) o ≡ (passes is_kept o || passes is_queued o)
    either None = refl
    either (Some c) = turned c.queued c.kept

-- the items of all cells but an analyzer's
pub items_without : (a : Analyzer) (test : Cell → Bool) (cells : Cells) → items_where test (sweep (λ e. not (same_analyzer a e.0.analyzer)) (λ c. c) cells) ≡ without_analyzer a (items_where test cells)
items_without a test [] = refl
items_without a test (e ∷ cells) = elim (same_analyzer a e.0.analyzer) as (λ b. same_analyzer a e.0.analyzer ≡ b → items_where test (rewritten (λ c. c) (cond (not b) (e ∷ filter (λ d. not (same_analyzer a d.0.analyzer)) cells) (filter (λ d. not (same_analyzer a d.0.analyzer)) cells))) ≡ without_analyzer a (keys_of (cond (test e.1) (e ∷ filter (λ d. test d.1) cells) (filter (λ d. test d.1) cells)))) [
  | true ↦ λ is. items_without a test cells ∙ (elim (test e.1) as (λ b. without_analyzer a (items_where test cells) ≡ without_analyzer a (keys_of (cond b (e ∷ filter (λ d. test d.1) cells) (filter (λ d. test d.1) cells)))) [
    | true ↦ sym (ap (λ b. cond (not b) (e.0 ∷ without_analyzer a (items_where test cells)) (without_analyzer a (items_where test cells))) is)
    | false ↦ refl
  ])
  | false ↦ λ other. elim (test e.1) as (λ b. keys_of (cond b (e ∷ filter (λ d. test d.1) (sweep (λ d. not (same_analyzer a d.0.analyzer)) (λ c. c) cells)) (filter (λ d. test d.1) (sweep (λ d. not (same_analyzer a d.0.analyzer)) (λ c. c) cells))) ≡ without_analyzer a (keys_of (cond b (e ∷ filter (λ d. test d.1) cells) (filter (λ d. test d.1) cells)))) [
    | true ↦ ap (λ (items : List Item). e.0 ∷ items) (items_without a test cells) ∙ sym (ap (λ b. cond (not b) (e.0 ∷ without_analyzer a (items_where test cells)) (without_analyzer a (items_where test cells))) other)
    | false ↦ items_without a test cells
  ]
] refl

-- all cells that are left pass a test
pub length-sweep : (test : Cell → Bool) (p : Item × Cell → Bool) (g : Cell → Cell) → ((e : Item × Cell) → p e ≡ true → test (g e.1) ≡ true) → (cells : Cells) → length (sweep p g cells) ≡ length (items_where test (sweep p g cells))
length-sweep test p g pass [] = refl
length-sweep test p g pass (e ∷ cells) = elim (p e) as (λ b. p e ≡ b → length (rewritten g (cond b (e ∷ filter p cells) (filter p cells))) ≡ length (items_where test (rewritten g (cond b (e ∷ filter p cells) (filter p cells))))) [
  | true ↦ λ left. ap suc (length-sweep test p g pass cells) ∙ sym (ap (λ b. length (keys_of (cond b ((e.0, g e.1) ∷ filter (λ d. test d.1) (sweep p g cells)) (filter (λ d. test d.1) (sweep p g cells))))) (pass e left))
  | false ↦ λ gone. length-sweep test p g pass cells
] refl

-- ---- tests of two parts
pub twice : (a : Bool) → (a && a) ≡ a
twice true = refl
twice false = refl

pub never : (a : Bool) → (a && false) ≡ false
never true = refl
never false = refl

pub absorbs : (a b : Bool) → ((a || b) && b) ≡ b
absorbs true b = refl
absorbs false true = refl
absorbs false false = refl
