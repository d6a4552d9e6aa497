-- The candidates of the enabled analyzers, listed one analyzer after another, and queues that gain them. Use `all_listed` for
-- the members of the list, `same_gain` for lists with the same members, and `kept_more` for the items that are kept.
use Rattle.std.proofs.Common.{append-nil, ◌≡◌, ℕ, ◌^◌, ◌+◌, ◌<◌, length, take, get_or, Bool, true, false, cond, ◌&&◌, ◌||◌, nat_lt, List, [], ◌∷◌, ◌++◌, Option, Some, None, refl, sym, ap, ◌∙◌}
use Rattle.std.specs.List.{flat_map}
use Rattle.std.proofs.lemmas.Bool.{true≢false}
use Rattle.std.proofs.lemmas.List.{flat_map_more, take_more}
use Rattle.std.proofs.lemmas.List.Folds.{list_any-append}
use Rattle.rvd_fact.specs.Program.{Program}
use Rattle.rvd_ask.specs.declared.asks.Analyzer.{Analyzer}
use Rattle.rvd_ask.specs.declared.asks.Analyzer.TheVariants.{Flow, Refs, Funcs, Body, Strings}
use Rattle.rvd_ask.specs.declared.asks.Item.{Item}
use Rattle.rvd_ask.specs.Order.{same_item}
use Rattle.rvd_ask.specs.Wake.{is_candidate}
use Rattle.rvd_ask.specs.Unsettled.{analyzers, are_in_order, candidates, has_item, same_analyzer, ListingLaw}
use Rattle.rvd_judge.proofs.Queues.{with_all-append}
use Rattle.rvd_queue.specs.Sets.{with_all, SetLaw}
use Rattle.rvd_machine.specs.Enabled.{Enabled, is_on, all_candidates}
use Rattle.rvd_machine.specs.Moves.{kept_with}
use Rattle.rvd_engine.specs.declared.working.Working.{Working}
use Rattle.rvd_engine.specs.Inside.{current_in}

-- an analyzer's part of the list
abbrev pub part : Enabled → Program → Analyzer → List Item
part E S a = cond (is_on E a) (candidates S a) []

abbrev pub parts : Enabled → Program → List Analyzer → List Item
parts E S listed = flat_map (part E S) listed

-- its members
abbrev in_part : Enabled → Program → Item → Analyzer → Bool
in_part E S i a = is_on E a && (nat_lt i.at (2 ^ 32) && (same_analyzer a i.analyzer && is_candidate S i))

part_members : ListingLaw → (E : Enabled) (S : Program) (i : Item) (a : Analyzer) → has_item i (part E S a) ≡ in_part E S i a
part_members L E S i a = by (is_on E a)
  where
    by : (b : Bool) → has_item i (cond b (candidates S a) []) ≡ (b && (nat_lt i.at (2 ^ 32) && (same_analyzer a i.analyzer && is_candidate S i)))
    by true = (L (2 ^ 32) (λ (j : Item). same_analyzer a j.analyzer && is_candidate S j)).lists.members i
    by false = refl

abbrev pub any_part : Enabled → Program → Item → List Analyzer → Bool
any_part E S i [] = false
any_part E S i (a ∷ listed) = in_part E S i a || any_part E S i listed

parts_members : ListingLaw → (E : Enabled) (S : Program) (i : Item) (listed : List Analyzer) → has_item i (parts E S listed) ≡ any_part E S i listed
parts_members L E S i [] = refl
parts_members L E S i (a ∷ listed) =
    list_any-append (same_item i) (part E S a) (parts E S listed)
    ∙ ap (λ (b : Bool). b || has_item i (parts E S listed)) (part_members L E S i a)
    ∙ ap (λ (b : Bool). in_part E S i a || b) (parts_members L E S i listed)

-- only the part of an item's own analyzer has it
skip : (b rest x : Bool) → b ≡ false → rest ≡ x → (b || rest) ≡ x
skip true rest x h e = absurd (true≢false h)
skip false rest x h e = e

last : (b rest x : Bool) → b ≡ x → rest ≡ false → (b || rest) ≡ x
last true rest x h e = h
last false rest x h e = e ∙ h

other_part : (on below candidate : Bool) → (on && (below && (false && candidate))) ≡ false
other_part true true candidate = refl
other_part true false candidate = refl
other_part false below candidate = refl

own_part : (on below candidate : Bool) → (on && (below && (true && candidate))) ≡ (below && (on && candidate))
own_part true true candidate = refl
own_part true false candidate = refl
own_part false true candidate = refl
own_part false false candidate = refl

abbrev one : Enabled → Analyzer → Bool → Bool → Analyzer → Bool
one E z below candidate a = is_on E a && (below && (same_analyzer a z && candidate))

any_is_own : (E : Enabled) (S : Program) (i : Item) → any_part E S i analyzers ≡ (nat_lt i.at (2 ^ 32) && (is_on E i.analyzer && is_candidate S i))
any_is_own E S i = by i.analyzer (nat_lt i.at (2 ^ 32)) (is_candidate S i)
  where
    by : (z : Analyzer) (below candidate : Bool) → (one E z below candidate Flow || (one E z below candidate Refs || (one E z below candidate Funcs || (one E z below candidate Body || (one E z below candidate Strings || false))))) ≡ (below && (is_on E z && candidate))
    by Flow n c = last _ _ _ (own_part E.flow n c) (skip _ _ _ (other_part E.refs n c) (skip _ _ _ (other_part E.funcs n c) (skip _ _ _ (other_part E.body n c) (skip _ _ _ (other_part E.strings n c) refl))))
    by Refs n c = skip _ _ _ (other_part E.flow n c) (last _ _ _ (own_part E.refs n c) (skip _ _ _ (other_part E.funcs n c) (skip _ _ _ (other_part E.body n c) (skip _ _ _ (other_part E.strings n c) refl))))
    by Funcs n c = skip _ _ _ (other_part E.flow n c) (skip _ _ _ (other_part E.refs n c) (last _ _ _ (own_part E.funcs n c) (skip _ _ _ (other_part E.body n c) (skip _ _ _ (other_part E.strings n c) refl))))
    by Body n c = skip _ _ _ (other_part E.flow n c) (skip _ _ _ (other_part E.refs n c) (skip _ _ _ (other_part E.funcs n c) (last _ _ _ (own_part E.body n c) (skip _ _ _ (other_part E.strings n c) refl))))
    by Strings n c = skip _ _ _ (other_part E.flow n c) (skip _ _ _ (other_part E.refs n c) (skip _ _ _ (other_part E.funcs n c) (skip _ _ _ (other_part E.body n c) (last _ _ _ (own_part E.strings n c) refl))))

-- lists with the same members make the same queue
pub same_gain : SetLaw → (xs ys queue : List Item) → ((i : Item) → has_item i xs ≡ has_item i ys) → are_in_order queue ≡ true → with_all xs queue ≡ with_all ys queue
same_gain L xs ys queue same ordered =
    let left = L queue xs ordered in
    let right = L queue ys ordered in
    (L (with_all ys queue) (with_all xs queue) right.with_order).told_by_members left.with_order
    (λ i. left.with_members i ∙ ap (λ (b : Bool). b || has_item i queue) (same i) ∙ sym (right.with_members i))

pub all_listed : ListingLaw → SetLaw → (E : Enabled) (S : Program) (list queue : List Item) → list ≡ parts E S analyzers → are_in_order queue ≡ true → with_all list queue ≡ with_all (all_candidates E S) queue
all_listed listing sets E S list queue is ordered = same_gain sets list (all_candidates E S) queue
    (λ i. ap (has_item i) is ∙ parts_members listing E S i analyzers ∙ any_is_own E S i ∙ sym ((listing (2 ^ 32) (λ (j : Item). is_on E j.analyzer && is_candidate S j)).lists.members i)) ordered

-- the items that are kept, where a transaction is open
pub kept_more : (items kept : List Item) (current : Option Working) → current_in (with_all items kept) current ≡ kept_with items (current_in kept current)
kept_more items kept None = refl
kept_more items kept (Some w) = refl

-- one analyzer more
pub parts_more : (E : Enabled) (S : Program) (listed : List Analyzer) (i : ℕ) (a : Analyzer) → i < length listed → parts E S (take (i + 1) listed) ≡ parts E S (take i listed) ++ part E S (get_or listed i a)
parts_more E S listed i a h = ap (parts E S) (take_more listed i a h) ∙ sym (flat_map_more (part E S) [] (take i listed) (get_or listed i a))

pub listed_on : (E : Enabled) (S : Program) (i : ℕ) (on : Bool) (list items new : List Item) → i < 5 → list ≡ parts E S (take i analyzers) → on ≡ is_on E (get_or analyzers i Flow) → on ≡ true → items ≡ candidates S (get_or analyzers i Flow) → new ≡ list ++ items → new ≡ parts E S (take (i + 1) analyzers)
listed_on E S i on list items new h so_far test enabled are is =
    is ∙ ap (λ (xs : List Item). xs ++ items) so_far ∙ ap (λ (xs : List Item). parts E S (take i analyzers) ++ xs) (are ∙ here) ∙ sym (parts_more E S analyzers i Flow h)
  where
    here : candidates S (get_or analyzers i Flow) ≡ part E S (get_or analyzers i Flow)
    here = ap (λ (b : Bool). cond b (candidates S (get_or analyzers i Flow)) []) (sym enabled ∙ test)

pub listed_off : (E : Enabled) (S : Program) (i : ℕ) (on : Bool) (list new : List Item) → i < 5 → list ≡ parts E S (take i analyzers) → on ≡ is_on E (get_or analyzers i Flow) → on ≡ false → new ≡ list → new ≡ parts E S (take (i + 1) analyzers)
listed_off E S i on list new h so_far test disabled is =
    is ∙ so_far ∙ sym (append-nil (parts E S (take i analyzers))) ∙ ap (λ (xs : List Item). parts E S (take i analyzers) ++ xs) here ∙ sym (parts_more E S analyzers i Flow h)
  where
    here : [] ≡ part E S (get_or analyzers i Flow)
    here = ap (λ (b : Bool). cond b (candidates S (get_or analyzers i Flow)) []) (sym disabled ∙ test)

pub parts_all : (E : Enabled) (S : Program) (list : List Item) (i : ℕ) → list ≡ parts E S (take i analyzers) → i ≡ 5 → list ≡ parts E S analyzers
parts_all E S list i is all = is ∙ ap (λ (n : ℕ). parts E S (take n analyzers)) all

-- a queue that gains one list after another
pub one_by_one : (first second queue : List Item) → with_all (first ++ second) queue ≡ with_all second (with_all first queue)
one_by_one = with_all-append
