-- Which items are in a set after it gains or loses some, and in the jobs that are taken. Use `has_item-filter`,
-- `not_woken`, `no_candidate` and `is_taken-items`.
use Rattle.std.proofs.Common.{◌≡◌, ℕ, ◌^◌, Bool, true, false, cond, ◌&&◌, ◌||◌, nat_lt, List, [], ◌∷◌, ◌++◌, take, drop, filter, Option, Some, refl, sym, ap, ◌∙◌}
use Rattle.std.specs.Prelude.{unwrap_or, ◌==◌}
use Rattle.std.proofs.lemmas.Bool.{or_parts, or_from, true≢false}
use Rattle.std.proofs.lemmas.List.{take-append-drop}
use Rattle.std.proofs.lemmas.List.Folds.{list_any-append}
use Rattle.std.proofs.Math.Bool.{and-true, or_assoc}
use Rattle.rvd_fact.specs.declared.cells.Change.{Change}
use Rattle.rvd_fact.specs.Program.{Program, applied}
use Rattle.rvd_ask.specs.declared.asks.Analyzer.{Analyzer}
use Rattle.rvd_ask.specs.declared.asks.Analyzer.TheVariants.{Flow, Refs, Funcs, Body, Strings}
use Rattle.rvd_ask.specs.declared.asks.Item.{Item}
use Rattle.rvd_ask.specs.Order.{item_cmp, same_item}
use Rattle.rvd_ask.specs.Unsettled.{candidates, has_item, same_analyzer, woken, ListingLaw}
use Rattle.rvd_ask.specs.Wake.{is_candidate}
use Rattle.rvd_ask.proofs.ItemOrder.{items_total, has_item-filter as has_item-filter_all}
use Rattle.rvd_queue.specs.Sets.{with, with_all}
use Rattle.rvd_queue.proofs.OrderedLists.{any-insert}
use Rattle.rvd_queue.proofs.ItemSets.{has_item-with_all}
use Rattle.rvd_machine.specs.Enabled.{Enabled, all_candidates, is_on, switched, only_on, woken_into}
use Rattle.rvd_machine.specs.State.{Job, is_taken, taken_items, job_of, other_jobs}
use Rattle.rvd_machine.proofs.Leads.{AreAsleep}

-- ---- sets
pub has_item-with : (j i : Item) (items : List Item) → has_item j (with i items) ≡ (same_item j i || has_item j items)
has_item-with j i items = any-insert items_total j i items

pub has_item-append : (j : Item) (items others : List Item) → has_item j (items ++ others) ≡ (has_item j items || has_item j others)
has_item-append j items others = list_any-append (same_item j) items others

pub has_item-parted : (j : Item) (n : ℕ) (items : List Item) → has_item j items ≡ (has_item j (take n items) || has_item j (drop n items))
has_item-parted j n items = ap (has_item j) (sym (take-append-drop n items)) ∙ has_item-append j (take n items) (drop n items)

-- an item that passes a test stays
pub has_item-filter : (j : Item) (test : Item → Bool) (items : List Item) → test j ≡ true → has_item j (filter test items) ≡ has_item j items
has_item-filter j test items passes =
    has_item-filter_all j test items ∙ ap (λ b. has_item j items && b) passes ∙ and-true (has_item j items)

-- ---- what changes wake
pub not_woken : (i : Item) (E : Enabled) → is_on E i.analyzer ≡ true → (cs : List Change) (S : Program) (queue : List Item) → has_item i (woken_into E S cs queue) ≡ false → AreAsleep S cs i × (has_item i queue ≡ false)
not_woken i E on [] S queue none = (tt, none)
not_woken i E on (c ∷ cs) S queue none =
    let items = woken (applied S c) c in
    let later = not_woken i E on cs (applied S c) (with_all (only_on E items) queue) none in
    let parts = or_parts (has_item i (only_on E items)) (has_item i queue) (sym (has_item-with_all i (only_on E items) queue) ∙ later.1) in
    ((sym (has_item-filter i (λ (j : Item). is_on E j.analyzer) items on) ∙ parts.0, later.0), parts.1)

-- ---- candidates
unlisted : (b : Bool) (on same passes : Bool) → on ≡ true → (b && (on && passes)) ≡ false → (b && (same && passes)) ≡ false
unlisted false on same passes h none = refl
unlisted true on true passes h none = ap (λ x. x && passes) (sym h) ∙ none
unlisted true on false passes h none = refl

pub no_candidate : ListingLaw → (E : Enabled) (S : Program) (i : Item) → is_on E i.analyzer ≡ true → has_item i (all_candidates E S) ≡ false → has_item i (candidates S i.analyzer) ≡ false
no_candidate listing E S i on none =
    (listing (2 ^ 32) (λ j. same_analyzer i.analyzer j.analyzer && is_candidate S j)).lists.members i
    ∙ unlisted (nat_lt i.at (2 ^ 32)) (is_on E i.analyzer) (same_analyzer i.analyzer i.analyzer) (is_candidate S i) on
    (sym ((listing (2 ^ 32) (λ j. is_on E j.analyzer && is_candidate S j)).lists.members i) ∙ none)

-- ---- the switch of one analyzer, and of the others
pub is_on-switched_same : (E : Enabled) (a : Analyzer) (on : Bool) → is_on (switched E a on) a ≡ on
is_on-switched_same E Flow on = refl
is_on-switched_same E Refs on = refl
is_on-switched_same E Funcs on = refl
is_on-switched_same E Body on = refl
is_on-switched_same E Strings on = refl

pub is_on-switched_other : (E : Enabled) (a b : Analyzer) (on : Bool) → same_analyzer a b ≡ false → is_on (switched E a on) b ≡ is_on E b
is_on-switched_other E Flow Flow on h = absurd (true≢false h)
is_on-switched_other E Refs Refs on h = absurd (true≢false h)
is_on-switched_other E Funcs Funcs on h = absurd (true≢false h)
is_on-switched_other E Body Body on h = absurd (true≢false h)
is_on-switched_other E Strings Strings on h = absurd (true≢false h)
is_on-switched_other E a b on h = refl

-- ---- the jobs that are taken
pub is_taken-items : (j : Item) (jobs : List Job) → has_item j (taken_items jobs) ≡ is_taken j jobs
is_taken-items j [] = refl
is_taken-items j (job ∷ jobs) = has_item-append j job.items (taken_items jobs) ∙ ap (λ (b : Bool). has_item j job.items || b) (is_taken-items j jobs)

pub is_taken-append : (j : Item) (jobs more : List Job) → is_taken j (jobs ++ more) ≡ (is_taken j jobs || is_taken j more)
is_taken-append j [] more = refl
is_taken-append j (job ∷ jobs) more = ap (λ (b : Bool). has_item j job.items || b) (is_taken-append j jobs more) ∙ sym (or_assoc (has_item j job.items) (is_taken j jobs) (is_taken j more))

-- an item that is in no other job and not in this one is in none
pub not_taken : (i : Item) (ticket : ℕ) (jobs : List Job) (job : Job) → job_of ticket jobs ≡ Some job → is_taken i (other_jobs ticket jobs) ≡ false → has_item i job.items ≡ false → is_taken i jobs ≡ false
not_taken i ticket [] job found others none = refl
not_taken i ticket (x ∷ jobs) job found others none = by (x.ticket == ticket) (λ later rest. not_taken i ticket jobs job later rest none) found others
  where
    by : (b : Bool) → (job_of ticket jobs ≡ Some job → is_taken i (other_jobs ticket jobs) ≡ false → is_taken i jobs ≡ false) → cond b (Some x) (job_of ticket jobs) ≡ Some job → is_taken i (cond b jobs (x ∷ other_jobs ticket jobs)) ≡ false → (has_item i x.items || is_taken i jobs) ≡ false
    by true back this others = or_from (has_item i x.items) (is_taken i jobs) (ap (λ (y : Job). has_item i y.items) (ap (λ (o : Option Job). unwrap_or o job) this) ∙ none) others
    by false back later others =
        let parts = or_parts (has_item i x.items) (is_taken i (other_jobs ticket jobs)) others in
        or_from (has_item i x.items) (is_taken i jobs) parts.0 (back later parts.1)
