-- The Settled step that follows a session's event, told before the event is done. Use the lemma that is named after the event.
use Rattle.std.proofs.Common.{◌≡◌, ℕ, suc, ◌+◌, ◌-◌, ◌<◌, ◌≤◌, Bool, true, false, cond, ◌&&◌, ◌||◌, not, ◌==◌, nat_lt, List, [], ◌∷◌, ◌++◌, length, filter, Option, Some, None, Result, Ok, Err, refl, sym, ap, ◌∙◌, subst, arith}
use Rattle.std.proofs.lemmas.Bool.{and_from, eq-eqb, false≢true, le-ltb, lt-ltb, ltb-false, ltb-true, ne_eqb, true≢false}
use Rattle.std.proofs.lemmas.Bool.Decides.{nat_tests}
use Rattle.std.proofs.lemmas.List.{length-append}
use Rattle.std.proofs.lemmas.List.Filters.{length-filter_both}
use Rattle.std.proofs.lemmas.List.Sums.{length-filter, sum_by-cons}
use Rattle.std.proofs.Math.Bool.{and-false}
use Rattle.rvd_fact.specs.declared.cells.Change.{Change}
use Rattle.rvd_fact.specs.Program.{Program}
use Rattle.rvd_ask.specs.declared.asks.Analyzer.{Analyzer}
use Rattle.rvd_ask.specs.declared.asks.Item.{Item}
use Rattle.rvd_ask.specs.Unsettled.{candidates}
use Rattle.rvd_event.specs.declared.edits.Edit.{Edit}
use Rattle.rvd_event.specs.declared.edits.EditRefusal.{EditRefusal}
use Rattle.rvd_event.specs.declared.steps.Step.{Step}
use Rattle.rvd_edit.specs.Edits.{edit_of}
use Rattle.rvd_queue.specs.Sets.{with_all, without_analyzer}
use Rattle.rvd_trans.specs.declared.entries.Entry.{Entry}
use Rattle.rvd_trans.specs.Entries.{count_of, has_of, without_all, without_newest}
use Rattle.rvd_machine.specs.Enabled.{all_candidates}
use Rattle.rvd_machine.specs.Moves.{begun, changed_in, closed, closed_in, commit, commit_step, edited, edited_by, ended_in, entries_aborted, entry_ended, filled, kept_with, kept_without, rollback, settled_step, stepped, turned_off, turned_on}
use Rattle.rvd_machine.specs.State.{State, Open, base, is_doomed, is_open, is_quiet, lives_in, lives_of_in, without, work}
use Rattle.rvd_engine.specs.Settling.{kept_of, settled_if}
use Rattle.rvd_engine.proofs.Emptiness.{empty-with_all, never}
use Rattle.rvd_admission.specs.Looks.{after_commit, after_rollback, live_after_end, live_after_end_in, stands}

-- ---- tests of several parts

busy : (o q t w b : Bool) → (o && (q && t)) ≡ false → (o && ((w && (b && q)) && t)) ≡ false
busy false q t w b h = refl
busy true false t w b h = ap (λ x. x && t) (never w b)
busy true true false w b h = and-false (w && (b && true))
busy true true true w b h = absurd (true≢false h)

quiet : (o q t w b : Bool) → (o && (q && t)) ≡ true → (o && ((w && (b && q)) && t)) ≡ (w && b)
quiet false q t w b h = absurd (false≢true h)
quiet true false t w b h = absurd (false≢true h)
quiet true true false w b h = absurd (false≢true h)
quiet true true true true true h = refl
quiet true true true true false h = refl
quiet true true true false b h = refl

-- ---- a transaction that stays open, and none
pub stays_open : (s : State) (o : Open) → settled_step (record s { current = Some o }) ≡ None
stays_open s o = ap (λ (b : Bool). settled_if b (length s.steps)) (never s.whole s.due)

open_here : (s : State) → is_open s.current ≡ true → settled_step s ≡ None
open_here s open_one =
    ap (λ (b : Bool). settled_if (s.whole && (s.due && (not b && (length s.queue == 0 && length s.taken == 0)))) (length s.steps)) open_one
    ∙ ap (λ (b : Bool). settled_if b (length s.steps)) (never s.whole s.due)

stays_closed : (s : State) → is_open s.current ≡ false → settled_step (record s { current = None }) ≡ settled_step s
stays_closed s closed_one = sym (ap (λ (b : Bool). settled_if (s.whole && (s.due && (not b && (length s.queue == 0 && length s.taken == 0)))) (length s.steps)) closed_one)

pub begun_look : (s : State) (actor : ℕ) (text : List ℕ) → settled_step (begun s actor text) ≡ None
begun_look s actor text = ap (λ (b : Bool). settled_if b (length s.steps)) (never s.whole s.due)

edit_open : (s : State) (c : Option Open) (r : Result (List Change) EditRefusal) → s.current ≡ c → is_open c ≡ true → settled_step (edited_by s r) ≡ None
edit_open s None r is open_one = absurd (false≢true open_one)
edit_open s (Some o) (Ok changes) is open_one =
    ap (λ (c : Option Open). settled_step (changed_in s changes c)) is ∙ ap (λ (b : Bool). settled_if b (length s.steps)) (never s.whole s.due)
edit_open s (Some o) (Err r) is open_one = open_here s (ap is_open is)

pub edited_open : (s : State) (e : Edit) → is_open s.current ≡ true → settled_step (edited s e) ≡ None
edited_open s e open_one = edit_open s s.current (edit_of (work s) e) refl open_one

edit_closed : (s : State) (c : Option Open) (r : Result (List Change) EditRefusal) → s.current ≡ c → is_open c ≡ false → settled_step (edited_by s r) ≡ settled_step s
edit_closed s (Some o) r is closed_one = absurd (true≢false closed_one)
edit_closed s None (Ok changes) is closed_one = ap (λ (c : Option Open). settled_step (changed_in s changes c)) is ∙ stays_closed s (ap is_open is)
edit_closed s None (Err r) is closed_one = refl

pub edited_closed : (s : State) (e : Edit) → is_open s.current ≡ false → settled_step (edited s e) ≡ settled_step s
edited_closed s e closed_one = edit_closed s s.current (edit_of (work s) e) refl closed_one

-- ---- the entries that are left
count_of-cons : (actor : ℕ) (x : Entry) (es : List Entry) → count_of actor (x ∷ es) ≡ cond (x.actor == actor) 1 0 + count_of actor es
count_of-cons actor x es = sum_by-cons (λ (e : Entry). cond (e.actor == actor) 1 0) x es

-- without its newest, where the actor has one
newest_gone : (actor : ℕ) (es : List Entry) → 0 < count_of actor es → length (without_newest actor es) + 1 ≡ length es
newest_gone actor [] some = absurd (omega (arith, some))
newest_gone actor (x ∷ es) some = by (has_of actor es) refl (x.actor == actor) refl (newest_gone actor es)
  where
    by : (h : Bool) → has_of actor es ≡ h → (m : Bool) → (x.actor == actor) ≡ m → (0 < count_of actor es → length (without_newest actor es) + 1 ≡ length es)
        → length (cond h (x ∷ without_newest actor es) (cond m es (x ∷ es))) + 1 ≡ suc (length es)
    by true has m mine behind =
        let there : 0 < count_of actor es = ltb-true 0 (count_of actor es) has in
        let rest : length (without_newest actor es) + 1 ≡ length es = behind there in
        omega (arith, rest)
    by false has true mine behind = omega arith
    by false has false mine behind =
        let none : count_of actor es ≤ 0 = ltb-false 0 (count_of actor es) has in
        let count : count_of actor (x ∷ es) ≡ 0 + count_of actor es = count_of-cons actor x es ∙ ap (λ (b : Bool). cond b 1 0 + count_of actor es) mine in
        absurd (omega (arith, some, none, count))

-- where it has none, all stay
none_gone : (actor : ℕ) (es : List Entry) → count_of actor es ≡ 0 → length (without_newest actor es) ≡ length es
none_gone actor [] none = refl
none_gone actor (x ∷ es) none =
    let count : count_of actor (x ∷ es) ≡ cond (x.actor == actor) 1 0 + count_of actor es = count_of-cons actor x es in
    let rest : count_of actor es ≡ 0 = omega (arith, none, count) in
    let has : has_of actor es ≡ false = grind (arith, nat_tests, rest) in
    by has (x.actor == actor) count
  where
    by : has_of actor es ≡ false → (m : Bool) → count_of actor (x ∷ es) ≡ cond m 1 0 + count_of actor es → length (cond (has_of actor es) (x ∷ without_newest actor es) (cond m es (x ∷ es))) ≡ suc (length es)
    by has true count = absurd (omega (arith, none, count))
    by has false count = ap (λ (h : Bool). length (cond h (x ∷ without_newest actor es) (x ∷ es))) has

pub one_ended : (c : Option Open) (actor : ℕ) → 0 < lives_of_in actor c → live_after_end_in c actor + 1 ≡ lives_in c
one_ended None actor some = absurd (omega (arith, some))
one_ended (Some o) actor some = newest_gone actor o.entries some

pub none_ended : (c : Option Open) (actor : ℕ) → lives_of_in actor c ≡ 0 → live_after_end_in c actor ≡ lives_in c
none_ended None actor none = refl
none_ended (Some o) actor none = none_gone actor o.entries none

pub one_less_is : (n m k : ℕ) → k + 1 ≡ n → m ≡ n → m - 1 ≡ k
one_less_is n m k less same = omega (arith, less, same)

-- all are an actor's exactly where none is left without them
left_after : (actor : ℕ) (es : List Entry) → length (without_all actor es) + count_of actor es ≡ length es
left_after actor es =
    let mine = λ (e : Entry). e.actor == actor in
    let both : length (filter mine es) + length (without_all actor es) ≡ length es = length-filter_both mine (λ (e : Entry). not (e.actor == actor)) (λ e. refl) es in
    let few : length (filter mine es) ≡ count_of actor es = length-filter mine es in
    omega (arith, both, few)

-- ---- an end
ended_by : (s : State) (o left : Open) → s.current ≡ Some o → left.kept ≡ o.kept → (l d : Bool)
    → settled_step (cond l (record s { current = Some left }) (cond d (rollback s left) (commit s left.work (commit_step left)))) ≡ cond l None (cond d (after_rollback s) (after_commit s))
ended_by s o left is kept true d = stays_open s left
ended_by s o left is kept false true =
    ap (λ (b : Bool). settled_if (s.whole && (s.due && (b && length s.taken == 0))) (length s.steps)) (empty-with_all left.kept s.queue)
    ∙ ap (λ (items : List Item). settled_if (s.whole && (s.due && ((length items == 0 && length s.queue == 0) && length s.taken == 0))) (length s.steps)) (kept ∙ ap kept_of (sym is))
ended_by s o left is kept false false =
    ap (settled_if (s.whole && (length s.queue == 0 && length s.taken == 0))) (length-append s.steps (commit_step left ∷ []))

end_in : (s : State) (actor : ℕ) (keep : Bool) (c : Option Open) → s.current ≡ c → is_open c ≡ true
    → settled_step (ended_in s actor keep c) ≡ cond (nat_lt 0 (live_after_end_in c actor)) None (cond (is_doomed c || not keep) (after_rollback s) (after_commit s))
end_in s actor keep None is open_one = absurd (false≢true open_one)
end_in s actor keep (Some o) is open_one = ended_by s o (entry_ended actor keep o) is refl (nat_lt 0 (length (without_newest actor o.entries))) (o.aborted || not keep)

pub end_look : (s : State) (actor : ℕ) (keep : Bool) → is_open s.current ≡ true
    → settled_step (ended_in s actor keep s.current) ≡ cond (nat_lt 0 (live_after_end s actor)) None (cond (is_doomed s.current || not keep) (after_rollback s) (after_commit s))
end_look s actor keep open_one = end_in s actor keep s.current refl open_one

end_none : (s : State) (actor : ℕ) (keep : Bool) (c : Option Open) → s.current ≡ c → is_open c ≡ false → settled_step (ended_in s actor keep c) ≡ settled_step s
end_none s actor keep None is closed_one = stays_closed s (ap is_open is)
end_none s actor keep (Some o) is closed_one = absurd (true≢false closed_one)

pub end_closed : (s : State) (actor : ℕ) (keep : Bool) → is_open s.current ≡ false → settled_step (ended_in s actor keep s.current) ≡ settled_step s
end_closed s actor keep closed_one = end_none s actor keep s.current refl closed_one

-- ---- a close
close_in : (s : State) (actor : ℕ) (c : Option Open) → s.current ≡ c → is_open c ≡ true → (b : Bool) → (nat_lt 0 (lives_of_in actor c) && (lives_of_in actor c == lives_in c)) ≡ b
    → settled_step (closed_in (record s { open_sessions = without actor s.open_sessions }) actor c) ≡ cond b (after_rollback s) None
close_in s actor None is open_one b same = absurd (false≢true open_one)
close_in s actor (Some o) is open_one b same =
    ap (λ (x : Bool). settled_step (cond x (rollback t left) (record t { current = Some left }))) (tests (count_of actor o.entries) (length (without_all actor o.entries)) (length o.entries) (left_after actor o.entries) ∙ same)
    ∙ by b
  where
    t : State
    t = record s { open_sessions = without actor s.open_sessions }

    left : Open
    left = entries_aborted actor o

    tests : (n m k : ℕ) → m + n ≡ k → (nat_lt 0 n && (m == 0)) ≡ (nat_lt 0 n && (n == k))
    tests n m k is = let e : (m == 0) ≡ (n == k) = grind (arith, nat_tests, is) in ap (λ (x : Bool). nat_lt 0 n && x) e

    by : (x : Bool) → settled_step (cond x (rollback t left) (record t { current = Some left })) ≡ cond x (after_rollback s) None
    by true =
        ap (λ (x : Bool). settled_if (s.whole && (s.due && (x && length s.taken == 0))) (length s.steps)) (empty-with_all o.kept s.queue)
        ∙ ap (λ (items : List Item). settled_if (s.whole && (s.due && ((length items == 0 && length s.queue == 0) && length s.taken == 0))) (length s.steps)) (ap kept_of (sym is))
    by false = stays_open s left

pub close_look : (s : State) (actor : ℕ) (b : Bool) → is_open s.current ≡ true → (nat_lt 0 (lives_of_in actor s.current) && (lives_of_in actor s.current == lives_in s.current)) ≡ b
    → settled_step (closed s actor) ≡ cond b (after_rollback s) None
close_look s actor b open_one same = close_in s actor s.current refl open_one b same

close_none : (s : State) (actor : ℕ) (c : Option Open) → s.current ≡ c → is_open c ≡ false → settled_step (closed_in (record s { open_sessions = without actor s.open_sessions }) actor c) ≡ settled_step s
close_none s actor None is closed_one = stays_closed s (ap is_open is)
close_none s actor (Some o) is closed_one = absurd (true≢false closed_one)

pub close_closed : (s : State) (actor : ℕ) → is_open s.current ≡ false → settled_step (closed s actor) ≡ settled_step s
close_closed s actor closed_one = close_none s actor s.current refl closed_one

-- ---- a whole analysis, and analyzers
same_open : (items : List Item) (c : Option Open) → is_open (kept_with items c) ≡ is_open c
same_open items None = refl
same_open items (Some o) = refl

same_open_without : (a : Analyzer) (c : Option Open) → is_open (kept_without a c) ≡ is_open c
same_open_without a None = refl
same_open_without a (Some o) = refl

-- what is left where the queue gains these items
gained_left : (s : State) (of_work of_base : List Item)
    → (not (is_open (kept_with of_base s.current)) && (length (with_all of_work (with_all of_base s.queue)) == 0 && length s.taken == 0))
    ≡ (not (is_open s.current) && ((length of_work == 0 && (length of_base == 0 && length s.queue == 0)) && length s.taken == 0))
gained_left s of_work of_base =
    let empty : (length (with_all of_work (with_all of_base s.queue)) == 0) ≡ (length of_work == 0 && (length of_base == 0 && length s.queue == 0)) =
    empty-with_all of_work (with_all of_base s.queue) ∙ ap (λ (b : Bool). length of_work == 0 && b) (empty-with_all of_base s.queue) in
    λ k. not (same_open of_base s.current k) && (empty k && length s.taken == 0)

gained_quiet : (s : State) (of_work of_base : List Item) → is_quiet s ≡ true
    → (not (is_open (kept_with of_base s.current)) && (length (with_all of_work (with_all of_base s.queue)) == 0 && length s.taken == 0)) ≡ (length of_work == 0 && length of_base == 0)
gained_quiet s of_work of_base still =
    gained_left s of_work of_base ∙ quiet (not (is_open s.current)) (length s.queue == 0) (length s.taken == 0) (length of_work == 0) (length of_base == 0) still

gained_busy : (s : State) (of_work of_base : List Item) → is_quiet s ≡ false
    → (not (is_open (kept_with of_base s.current)) && (length (with_all of_work (with_all of_base s.queue)) == 0 && length s.taken == 0)) ≡ false
gained_busy s of_work of_base still =
    gained_left s of_work of_base ∙ busy (not (is_open s.current)) (length s.queue == 0) (length s.taken == 0) (length of_work == 0) (length of_base == 0) still

pub full_quiet : (s : State) (x : Step) → is_quiet s ≡ true
    → settled_step (stepped (filled s) x) ≡ settled_if (length (all_candidates s.enabled (work s)) == 0 && length (all_candidates s.enabled (base s)) == 0) (length s.steps + 1)
full_quiet s x still =
    let left = gained_quiet s (all_candidates s.enabled (work s)) (all_candidates s.enabled (base s)) still in
    let more = length-append s.steps (x ∷ []) in
    λ k. settled_if (left k) (more k)

pub full_busy : (s : State) (x : Step) → is_quiet s ≡ false → settled_step (stepped (filled s) x) ≡ None
full_busy s x still =
    ap (λ (b : Bool). settled_if b (length (s.steps ++ x ∷ []))) (gained_busy s (all_candidates s.enabled (work s)) (all_candidates s.enabled (base s)) still)

pub on_quiet : (s : State) (a : Analyzer) (x : Step) → s.whole ≡ true → is_quiet s ≡ true
    → settled_step (stepped (turned_on s a) x) ≡ settled_if (length (candidates (work s) a) == 0 && length (candidates (base s) a) == 0) (length s.steps + 1)
on_quiet s a x whole still =
    let left = gained_quiet s (candidates (work s) a) (candidates (base s) a) still in
    let more = length-append s.steps (x ∷ []) in
    λ k. settled_if (whole k && left k) (more k)

pub on_busy : (s : State) (a : Analyzer) (x : Step) → is_quiet s ≡ false → settled_step (stepped (turned_on s a) x) ≡ None
on_busy s a x still =
    ap (λ (b : Bool). settled_if (s.whole && b) (length (s.steps ++ x ∷ []))) (gained_busy s (candidates (work s) a) (candidates (base s) a) still)
    ∙ ap (λ (b : Bool). settled_if b (length (s.steps ++ x ∷ []))) (and-false s.whole)

pub on_partial : (s : State) (a : Analyzer) (x : Step) → s.whole ≡ false → settled_step (stepped (turned_on s a) x) ≡ None
on_partial s a x partial =
    ap (λ (b : Bool). settled_if (b && (not (is_open (kept_with (candidates (base s) a) s.current)) && (length (with_all (candidates (work s) a) (with_all (candidates (base s) a) s.queue)) == 0 && length s.taken == 0))) (length (s.steps ++ x ∷ []))) partial

-- an analyzer is disabled
abbrev pub off_left : State → Analyzer → Bool
off_left s a = s.whole && (s.due && (not (is_open s.current) && (length (without_analyzer a s.queue) == 0 && length s.taken == 0)))

pub off_look : (s : State) (a : Analyzer) (x : Step) → settled_step (stepped (turned_off s a) x) ≡ settled_if (off_left s a) (length s.steps + 1)
off_look s a x =
    let more = length-append s.steps (x ∷ []) in
    let same = same_open_without a s.current in
    λ k. settled_if (s.whole && (s.due && (not (same k) && (length (without_analyzer a s.queue) == 0 && length s.taken == 0)))) (more k)

-- an analyzer is disabled where the end stands, and where it doesn't
stands_all : (w d o q t : Bool) → (w && (d && (o && t))) ≡ true → (w && (d && (o && (q && t)))) ≡ q
stands_all false d o q t h = absurd (false≢true h)
stands_all true false o q t h = absurd (false≢true h)
stands_all true true false q t h = absurd (false≢true h)
stands_all true true true q false h = absurd (false≢true h)
stands_all true true true true true h = refl
stands_all true true true false true h = refl

stands_not : (w d o q t : Bool) → (w && (d && (o && t))) ≡ false → (w && (d && (o && (q && t)))) ≡ false
stands_not false d o q t h = refl
stands_not true false o q t h = refl
stands_not true true false q t h = refl
stands_not true true true q true h = absurd (true≢false h)
stands_not true true true q false h = and-false q

pub off_stands : (s : State) (a : Analyzer) (x : Step) → stands s ≡ true → settled_step (stepped (turned_off s a) x) ≡ settled_if (length (without_analyzer a s.queue) == 0) (length s.steps + 1)
off_stands s a x here =
    off_look s a x
    ∙ ap (λ (b : Bool). settled_if b (length s.steps + 1)) (stands_all s.whole s.due (not (is_open s.current)) (length (without_analyzer a s.queue) == 0) (length s.taken == 0) here)

pub off_stands_not : (s : State) (a : Analyzer) (x : Step) → stands s ≡ false → settled_step (stepped (turned_off s a) x) ≡ None
off_stands_not s a x not_here =
    off_look s a x
    ∙ ap (λ (b : Bool). settled_if b (length s.steps + 1)) (stands_not s.whole s.due (not (is_open s.current)) (length (without_analyzer a s.queue) == 0) (length s.taken == 0) not_here)

-- the tests of a close
pub close_none_live : (s : State) (actor : ℕ) → is_open s.current ≡ true → lives_of_in actor s.current ≡ 0 → settled_step (closed s actor) ≡ None
close_none_live s actor open_one none =
    close_look s actor false open_one (ap (λ (n : ℕ). nat_lt 0 n && (n == lives_in s.current)) none)

pub close_others_live : (s : State) (actor : ℕ) → is_open s.current ≡ true → (lives_of_in actor s.current ≡ lives_in s.current → ⊥) → settled_step (closed s actor) ≡ None
close_others_live s actor open_one other =
    close_look s actor false open_one
    (ap (λ (b : Bool). nat_lt 0 (lives_of_in actor s.current) && b) (ne_eqb (lives_of_in actor s.current) (lives_in s.current) other) ∙ and-false (nat_lt 0 (lives_of_in actor s.current)))

pub close_last_live : (s : State) (actor : ℕ) → is_open s.current ≡ true → 0 < lives_of_in actor s.current → lives_of_in actor s.current ≡ lives_in s.current → settled_step (closed s actor) ≡ after_rollback s
close_last_live s actor open_one some same =
    close_look s actor true open_one (and_from (nat_lt 0 (lives_of_in actor s.current)) (lives_of_in actor s.current == lives_in s.current) (lt-ltb 0 (lives_of_in actor s.current) some) (eq-eqb (lives_of_in actor s.current) (lives_in s.current) same))

-- the tests of an end
pub end_stays : (s : State) (actor : ℕ) (keep : Bool) → is_open s.current ≡ true → 0 < live_after_end s actor → settled_step (ended_in s actor keep s.current) ≡ None
end_stays s actor keep open_one some =
    end_look s actor keep open_one
    ∙ ap (λ (b : Bool). cond b None (cond (is_doomed s.current || not keep) (after_rollback s) (after_commit s))) (lt-ltb 0 (live_after_end s actor) some)

pub end_last : (s : State) (actor : ℕ) (keep d : Bool) → is_open s.current ≡ true → live_after_end s actor ≤ 0 → (is_doomed s.current || not keep) ≡ d
    → settled_step (ended_in s actor keep s.current) ≡ cond d (after_rollback s) (after_commit s)
end_last s actor keep d open_one none doomed =
    end_look s actor keep open_one
    ∙ ap (λ (b : Bool). cond b None (cond (is_doomed s.current || not keep) (after_rollback s) (after_commit s))) (le-ltb 0 (live_after_end s actor) none)
    ∙ ap (λ (b : Bool). cond b (after_rollback s) (after_commit s)) doomed
