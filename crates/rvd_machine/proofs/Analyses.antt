-- Each event of analysis but an offer keeps the state sound. Use `full_keeps`, `turn_keeps`, `cancel_keeps` and `take_keeps`.
use Rattle.std.proofs.Common.{◌≡◌, ℕ, Bool, true, false, not, ◌||◌, List, [], ◌∷◌, ◌++◌, take, drop, Option, Some, None, refl, sym, ap, ◌∙◌, subst}
use Rattle.std.proofs.lemmas.Bool.{eqb-true, or_parts, or_from, false≢true, true≢false}
use Rattle.rvd_fact.specs.Program.{Program}
use Rattle.rvd_fact.specs.Valid.{IsValid}
use Rattle.rvd_ask.specs.declared.asks.Analyzer.{Analyzer}
use Rattle.rvd_ask.specs.declared.asks.Item.{Item}
use Rattle.rvd_ask.specs.Order.{priority}
use Rattle.rvd_ask.specs.Rules.{rule}
use Rattle.rvd_ask.specs.Unsettled.{has_item, candidates, same_analyzer}
use Rattle.rvd_ask.proofs.ItemOrder.{same_analyzer as one_analyzer}
use Rattle.rvd_queue.specs.Sets.{with_all, without_analyzer}
use Rattle.rvd_queue.proofs.ItemSets.{has_item-with_all}
use Rattle.rvd_machine.specs.Enabled.{Enabled, is_on, switched, all_candidates}
use Rattle.rvd_machine.specs.State.{State, Open, Job, base, work, work_in, is_taken}
use Rattle.rvd_machine.specs.Moves.{kept_with, filled, turned_on, kept_without, turned_off, turned, kept_none, cancelled, taken_by}
use Rattle.rvd_machine.specs.Sound.{Sound, AreAllValid, AreValid, is_kept, programs_of}
use Rattle.rvd_machine.proofs.Members.{has_item-filter, has_item-parted, no_candidate, is_on-switched_same, is_on-switched_other, is_taken-append}
use Rattle.rvd_machine.proofs.Leads.{Laws}

-- ---- what is gained
work_with : (S : Program) (items : List Item) (c : Option Open) → work_in S (kept_with items c) ≡ work_in S c
work_with S items None = refl
work_with S items (Some o) = refl

not_kept : (i : Item) (items : List Item) (c : Option Open) → is_kept (kept_with items c) i ≡ false → (has_item i items ≡ false) × (is_kept c i ≡ false)
not_kept i items None h = absurd (true≢false h)
not_kept i items (Some o) h = or_parts (has_item i items) (has_item i o.kept) (sym (has_item-with_all i items o.kept) ∙ h)

not_gained : (i : Item) (of_work of_base queue : List Item) → has_item i (with_all of_work (with_all of_base queue)) ≡ false → (has_item i of_work ≡ false) × (has_item i queue ≡ false)
not_gained i of_work of_base queue h =
    let first = or_parts (has_item i of_work) (has_item i (with_all of_base queue)) (sym (has_item-with_all i of_work (with_all of_base queue)) ∙ h) in
    (first.0, (or_parts (has_item i of_base) (has_item i queue) (sym (has_item-with_all i of_base queue) ∙ first.1)).1)

valid_gained : (s : State) (items : List Item) → AreAllValid s → IsValid (work_in (base s) (kept_with items s.current))
valid_gained s items valid = subst IsValid (sym (work_with (base s) items s.current)) valid.work

-- ---- a whole analysis
candidate_or_settled : Laws → (E : Enabled) (S : Program) (i : Item) → IsValid S → is_on E i.analyzer ≡ true → has_item i (all_candidates E S) ≡ false → rule S i ≡ []
candidate_or_settled L E S i valid on none = L.analysis.candidate S i valid (no_candidate L.listing E S i on none)

pub full_keeps : Laws → (s : State) → Sound s → Sound (filled s)
full_keeps L s h =
    let of_work = all_candidates s.enabled (work s) in
    let of_base = all_candidates s.enabled (base s) in
    record {
      valid = record { base = h.valid.base; work = valid_gained s of_base h.valid; past = h.valid.past; undone = h.valid.undone; taken = h.valid.taken };
      none_lost = record {
        work = λ whole i on none.
            let parts = or_parts (has_item i (with_all of_work (with_all of_base s.queue))) (is_taken i s.taken) none in
            ap (λ (S : Program). rule S i) (work_with (base s) of_base s.current)
            ∙ candidate_or_settled L s.enabled (work s) i h.valid.work on (not_gained i of_work of_base s.queue parts.0).0;
        base = λ whole i on none.
            candidate_or_settled L s.enabled (base s) i h.valid.base on (not_kept i of_base s.current none).0;
      };
    }

-- ---- an analyzer is enabled: its items by the candidates, the others as before
of_one : Laws → (S : Program) (a : Analyzer) (i : Item) → IsValid S → same_analyzer a i.analyzer ≡ true → has_item i (candidates S a) ≡ false → rule S i ≡ []
of_one L S a i valid same none = L.analysis.candidate S i valid (ap (λ (b : Analyzer). has_item i (candidates S b)) (sym (one_analyzer a i.analyzer (eqb-true (priority a) (priority i.analyzer) same))) ∙ none)

by_analyzer : (a b : Analyzer) (X : Type 0) → (same_analyzer a b ≡ true → X) → (same_analyzer a b ≡ false → X) → X
by_analyzer a b X same other = by (same_analyzer a b) refl
  where
    by : (test : Bool) → same_analyzer a b ≡ test → X
    by true is = same is
    by false is = other is

enable_keeps : Laws → (s : State) (a : Analyzer) → Sound s → Sound (turned_on s a)
enable_keeps L s a h =
    let of_work = candidates (work s) a in
    let of_base = candidates (base s) a in
    record {
      valid = record { base = h.valid.base; work = valid_gained s of_base h.valid; past = h.valid.past; undone = h.valid.undone; taken = h.valid.taken };
      none_lost = record {
        work = λ whole i on none.
            let parts = or_parts (has_item i (with_all of_work (with_all of_base s.queue))) (is_taken i s.taken) none in
            let apart = not_gained i of_work of_base s.queue parts.0 in
            ap (λ (S : Program). rule S i) (work_with (base s) of_base s.current)
            ∙ by_analyzer a i.analyzer (rule (work s) i ≡ [])
            (λ same. of_one L (work s) a i h.valid.work same apart.0)
            (λ other. h.none_lost.work whole i (sym (is_on-switched_other s.enabled a i.analyzer true other) ∙ on) (or_from (has_item i s.queue) (is_taken i s.taken) apart.1 parts.1));
        base = λ whole i on none.
            let apart = not_kept i of_base s.current none in
            by_analyzer a i.analyzer (rule (base s) i ≡ [])
            (λ same. of_one L (base s) a i h.valid.base same apart.0)
            (λ other. h.none_lost.base whole i (sym (is_on-switched_other s.enabled a i.analyzer true other) ∙ on) apart.1);
      };
    }

-- ---- an analyzer is disabled: the items of the others stay
work_without : (S : Program) (a : Analyzer) (c : Option Open) → work_in S (kept_without a c) ≡ work_in S c
work_without S a None = refl
work_without S a (Some o) = refl

still_kept : (i : Item) (a : Analyzer) (c : Option Open) → same_analyzer a i.analyzer ≡ false → is_kept (kept_without a c) i ≡ is_kept c i
still_kept i a None other = refl
still_kept i a (Some o) other = has_item-filter i (λ j. not (same_analyzer a j.analyzer)) o.kept (ap not other)

other_on : (E : Enabled) (a b : Analyzer) → is_on (switched E a false) b ≡ true → same_analyzer a b ≡ false
other_on E a b on = by_analyzer a b (same_analyzer a b ≡ false)
    (λ same. absurd (false≢true (sym (is_on-switched_same E a false) ∙ ap (is_on (switched E a false)) (one_analyzer a b (eqb-true (priority a) (priority b) same)) ∙ on)))
    (λ other. other)

disable_keeps : (s : State) (a : Analyzer) → Sound s → Sound (turned_off s a)
disable_keeps s a h = record {
  valid = record { base = h.valid.base; work = subst IsValid (sym (work_without (base s) a s.current)) h.valid.work; past = h.valid.past; undone = h.valid.undone; taken = h.valid.taken };
  none_lost = record {
    work = λ whole i on none.
        let other = other_on s.enabled a i.analyzer on in
        let parts = or_parts (has_item i (without_analyzer a s.queue)) (is_taken i s.taken) none in
        let queued = sym (has_item-filter i (λ j. not (same_analyzer a j.analyzer)) s.queue (ap not other)) ∙ parts.0 in
        ap (λ (S : Program). rule S i) (work_without (base s) a s.current)
        ∙ h.none_lost.work whole i (sym (is_on-switched_other s.enabled a i.analyzer false other) ∙ on) (or_from (has_item i s.queue) (is_taken i s.taken) queued parts.1);
    base = λ whole i on none.
        let other = other_on s.enabled a i.analyzer on in
        h.none_lost.base whole i (sym (is_on-switched_other s.enabled a i.analyzer false other) ∙ on) (sym (still_kept i a s.current other) ∙ none);
  };
}

pub turn_keeps : Laws → (s : State) (a : Analyzer) (on : Bool) → Sound s → Sound (turned s a on)
turn_keeps L s a true h = enable_keeps L s a h
turn_keeps L s a false h = disable_keeps s a h

-- ---- a cancel
work_none : (S : Program) (c : Option Open) → IsValid (work_in S c) → IsValid (work_in S (kept_none c))
work_none S None valid = valid
work_none S (Some o) valid = valid

pub cancel_keeps : (s : State) → Sound s → Sound (cancelled s)
cancel_keeps s h = record {
  valid = record { base = h.valid.base; work = work_none (base s) s.current h.valid.work; past = h.valid.past; undone = h.valid.undone; taken = tt };
  none_lost = record { work = λ whole. absurd (false≢true whole); base = λ whole. absurd (false≢true whole) };
}

-- ---- a take
valid_push : (jobs : List Job) (job : Job) → AreValid (programs_of jobs) → IsValid job.program → AreValid (programs_of (jobs ++ job ∷ []))
valid_push [] job valid new = (new, tt)
valid_push (j ∷ jobs) job valid new = (valid.0, valid_push jobs job valid.1 new)

pub take_keeps : (s : State) (n : ℕ) → Sound s → Sound (taken_by s n)
take_keeps s n h =
    let job : Job = record { ticket = s.next_ticket; items = take n s.queue; program = work s } in
    record {
      valid = record { base = h.valid.base; work = h.valid.work; past = h.valid.past; undone = h.valid.undone; taken = valid_push s.taken job h.valid.taken h.valid.work };
      none_lost = record {
        work = λ whole i on none.
            let parts = or_parts (has_item i (drop n s.queue)) (is_taken i (s.taken ++ job ∷ [])) none in
            let jobs = or_parts (is_taken i s.taken) (has_item i (take n s.queue) || false) (sym (is_taken-append i s.taken (job ∷ [])) ∙ parts.1) in
            let taken = or_parts (has_item i (take n s.queue)) false jobs.1 in
            h.none_lost.work whole i on (or_from (has_item i s.queue) (is_taken i s.taken) (has_item-parted i n s.queue ∙ or_from (has_item i (take n s.queue)) (has_item i (drop n s.queue)) taken.0 parts.0) jobs.0);
        base = h.none_lost.base;
      };
    }
