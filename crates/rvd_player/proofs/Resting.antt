-- The state while one worker settles a whole analysis and no transaction is open. Use `pairs_rest` for the state after pairs, and
-- `rest_is_closed` where nothing is left to take.
use Rattle.std.proofs.Common.{◌≡◌, ℕ, ◌^◌, Bool, true, false, cond, not, ◌&&◌, ◌||◌, ◌==◌, nat_lt, List, [], ◌∷◌, ◌++◌, length, take, refl, sym, ap, ◌∙◌, subst, arith, inl, inr}
use Rattle.std.specs.Prelude.{Option, Some, None}
use Rattle.std.proofs.lemmas.Bool.{and_right, cond_both, eqb-true, false≢true, or_cases, or_from}
use Rattle.rvd_fact.specs.declared.cells.Change.{Change}
use Rattle.rvd_fact.specs.Program.{Program}
use Rattle.rvd_ask.specs.declared.asks.Analyzer.{Analyzer}
use Rattle.rvd_ask.specs.declared.asks.Analyzer.TheVariants.{Flow, Refs, Funcs, Body, Strings}
use Rattle.rvd_ask.specs.declared.asks.Item.{Item}
use Rattle.rvd_ask.specs.Rules.{rule}
use Rattle.rvd_ask.specs.Unsettled.{analyzers, has_item, is_enabled, is_unsettled, IsClosed, ListingLaw}
use Rattle.rvd_event.specs.declared.events.Event.{Event}
use Rattle.rvd_event.specs.declared.events.Event.TheVariants as event
use Rattle.rvd_event.specs.declared.replies.Reply.{Reply}
use Rattle.rvd_event.specs.declared.replies.Reply.TheVariants as reply
use Rattle.rvd_event.specs.declared.steps.Step.TheVariants as step
use Rattle.rvd_event.specs.declared.verdicts.Verdict.{Verdict}
use Rattle.rvd_journal.specs.declared.entries.Entry.{Entry}
use Rattle.rvd_machine.specs.Enabled.{all_on, Enabled, is_on}
use Rattle.rvd_machine.specs.Moves.{analysis_text, commit, offered_in, offered_job, settled, settles, taken_by}
use Rattle.rvd_machine.specs.Replies.{is_finished, is_idle, IsOfferReply, IsReply}
use Rattle.rvd_machine.specs.Sound.{Sound}
use Rattle.rvd_machine.specs.State.{base, is_doomed, is_quiet, is_taken, Job, job_of, Open, other_jobs, State, waits, work, work_in}
use Rattle.rvd_machine.specs.Steps.{after, AreSteps, counted, IsStep, state_from}
use Rattle.rvd_machine.specs.Verdicts.{Batch, first_batch, judged_all}
use Rattle.rvd_machine.proofs.Closed.{none_queued}
use Rattle.rvd_desk.specs.Calls.{IsCall}
use Rattle.rvd_settle.specs.Settling.{ArePairs}

-- a whole analysis stands for all analyzers, session 1 is open, no transaction is, and no job is taken; or one is
pub record Stands (s : State) : Type 0 where
  pub current : s.current ≡ None
  pub whole : s.whole ≡ true
  pub enabled : s.enabled ≡ all_on
  pub sessions : s.open_sessions ≡ 1 ∷ []

pub record Rests (s : State) : Type 0 where
  pub stands : Stands s
  pub taken : s.taken ≡ []

pub record Works (s : State) : Type 0 where
  pub stands : Stands s
  pub job : Job
  pub taken : s.taken ≡ job ∷ []

pub settled_rests : (s : State) → Rests s → Rests (settled (counted s))
settled_rests s h = cond_both (settles (counted s)) (record (counted s) { steps = s.steps ++ step.Settled ∷ []; due = false }) (counted s) Rests
    (λ _. record { stands = record { current = h.stands.current; whole = h.stands.whole; enabled = h.stands.enabled; sessions = h.stands.sessions }; taken = h.taken })
    (λ _. record { stands = record { current = h.stands.current; whole = h.stands.whole; enabled = h.stands.enabled; sessions = h.stands.sessions }; taken = h.taken })

settled_works : (s : State) → Works s → Works (settled (counted s))
settled_works s h = cond_both (settles (counted s)) (record (counted s) { steps = s.steps ++ step.Settled ∷ []; due = false }) (counted s) Works
    (λ _. record { stands = record { current = h.stands.current; whole = h.stands.whole; enabled = h.stands.enabled; sessions = h.stands.sessions }; job = h.job; taken = h.taken })
    (λ _. record { stands = record { current = h.stands.current; whole = h.stands.whole; enabled = h.stands.enabled; sessions = h.stands.sessions }; job = h.job; taken = h.taken })

-- ---- an entry is told by its parts
entry_is : (x : Entry) (a : ℕ) (e : Event) (r : Reply) → IsCall a e r x → x ≡ record x { event = e; reply = r }
entry_is x a e r is =
    ap (λ (f : Event). let h : Entry = record x { event = f } in h) is.event
    ∙ ap (λ (q : Reply). let h : Entry = record x { event = e; reply = q } in h) is.reply

-- ---- a take
take_works : (s : State) (x : Entry) (w n t : ℕ) (items : List Item) → IsCall w (event.Take n) (reply.Job t items) x → Rests s → Works (after s x)
take_works s x w n t items is h =
    let y : Entry = record x { event = event.Take n; reply = reply.Job t items } in
    let job : Job = record { ticket = s.next_ticket; items = take n s.queue; program = work s } in
    let works : Works (taken_by s n) = record {
      stands = record { current = h.stands.current; whole = h.stands.whole; enabled = h.stands.enabled; sessions = h.stands.sessions };
      job = job;
      taken = ap (λ (jobs : List Job). jobs ++ job ∷ []) h.taken;
    } in
    subst (λ (z : Entry). Works (after s z)) (sym (entry_is x w (event.Take n) (reply.Job t items) is)) (settled_works (taken_by s n) works)

-- ---- the offer of its job
by_same : (b : Bool) (job k : Job) → cond b (Some job) None ≡ Some k → cond b [] (job ∷ []) ≡ []
by_same true job k is = refl
by_same false job k is = absurd (let e : (let o : Option Job = None in o) ≡ Some k = is in cc)

gone : (t : ℕ) (jobs : List Job) (job k : Job) → jobs ≡ job ∷ [] → job_of t jobs ≡ Some k → other_jobs t jobs ≡ []
gone t jobs job k are is =
    ap (other_jobs t) are ∙ by_same (job.ticket == t) job k (ap (job_of t) (sym are) ∙ is)

no_cancel : (vs : List Verdict) (s : State) (t : ℕ) → IsOfferReply s t None (reply.Verdicts vs) → ⊥
no_cancel vs s t is = cc

offer_rests_in : (s : State) (a : ℕ) (b : Batch) → Stands s → s.taken ≡ [] → Rests (offered_in s a b None)
offer_rests_in s a b h none = cond_both b.joined (commit (record s { queue = b.queue }) b.work (step.Commit a analysis_text b.changes)) (record s { queue = b.queue; current = None }) Rests
    (λ _. record { stands = record { current = refl; whole = h.whole; enabled = h.enabled; sessions = h.sessions }; taken = none })
    (λ _. record { stands = record { current = refl; whole = h.whole; enabled = h.enabled; sessions = h.sessions }; taken = none })

offer_rests : (s : State) (a t : ℕ) (vs : List Verdict) (o : Option Job) → job_of t s.taken ≡ o → IsOfferReply s t o (reply.Verdicts vs) → Works s → Rests (offered_job s a t vs o)
offer_rests s a t vs None at is h = absurd (no_cancel vs s t is)
offer_rests s a t vs (Some job) at is h =
    let u : State = record s { taken = other_jobs t s.taken } in
    let b = judged_all s.enabled (first_batch s) job.items vs in
    let stands : Stands u = record { current = h.stands.current; whole = h.stands.whole; enabled = h.stands.enabled; sessions = h.stands.sessions } in
    subst (λ (c : Option Open). Rests (offered_in u a b c)) (sym h.stands.current) (offer_rests_in u a b stands (gone t s.taken h.job job h.taken at))

offer_done : (s : State) (y : Entry) (w t : ℕ) (vs : List Verdict) → IsCall w (event.Offer t) (reply.Verdicts vs) y → IsStep s y → Works s → Rests (after s y)
offer_done s y w t vs is step h =
    let z : Entry = record y { event = event.Offer t; reply = reply.Verdicts vs } in
    let same : y ≡ z = entry_is y w (event.Offer t) (reply.Verdicts vs) is in
    let replied : IsOfferReply s t (job_of t s.taken) (reply.Verdicts vs) = subst (λ (q : Entry). IsReply s q.actor q.event q.reply) same step.reply in
    let rests : Rests (offered_job s z.actor t vs (job_of t s.taken)) = offer_rests s z.actor t vs (job_of t s.taken) refl replied h in
    subst (λ (q : Entry). Rests (after s q)) (sym same) (settled_rests (offered_job s z.actor t vs (job_of t s.taken)) rests)

pub pairs_rest : (s : State) (w n : ℕ) (entries : List Entry) → ArePairs s w n entries → AreSteps s entries → Rests s → Rests (state_from s entries)
pairs_rest s w n [] pairs steps h = h
pairs_rest s w n (x ∷ []) pairs steps h = absurd pairs
pairs_rest s w n (x ∷ y ∷ entries) pairs steps h =
    let p = pairs.0 in
    let works = take_works s x w n p.ticket p.items p.taken h in
    let rests = offer_done (after s x) y w p.ticket p.verdicts p.offered steps.1.0 works in
    pairs_rest (after (after s x) y) w n entries pairs.1 steps.1.1 rests

-- ---- nothing is left to take

is_empty : (s : State) → Rests s → (is_finished s || is_idle s) ≡ true → (length s.queue == 0) ≡ true
is_empty s h done = elim (or_cases (is_finished s) (is_idle s) done) [
  | inl finished ↦ absurd (false≢true (ap (λ (sessions : List ℕ). (length sessions == 0) && is_quiet s) (sym h.stands.sessions) ∙ finished))
  | inr idle ↦ by (length s.queue == 0) (ap (λ (c : Option Open). (length s.queue == 0) || is_doomed c) (sym h.stands.current) ∙ idle)
]
  where
    by : (b : Bool) → (b || false) ≡ true → b ≡ true
    by true is = refl
    by false is = absurd (false≢true is)

every_on : (i : Item) → is_on all_on i.analyzer ≡ true
every_on i = by i.analyzer
  where
    by : (a : Analyzer) → is_on all_on a ≡ true
    by Flow = refl
    by Refs = refl
    by Funcs = refl
    by Body = refl
    by Strings = refl

settled_item : (s : State) → Sound s → Rests s → (length s.queue == 0) ≡ true → (i : Item) → rule (base s) i ≡ []
settled_item s sound h none i =
    let on : is_on s.enabled i.analyzer ≡ true = ap (λ (E : Enabled). is_on E i.analyzer) h.stands.enabled ∙ every_on i in
    let waiting : waits s i ≡ false = or_from (has_item i s.queue) (is_taken i s.taken) (none_queued s.queue i none) (ap (is_taken i) h.taken) in
    ap (λ (c : Option Open). rule (work_in (base s) c) i) (sym h.stands.current) ∙ sound.none_lost.work h.stands.whole i on waiting

none_unsettled : (S : Program) (i : Item) → rule S i ≡ [] → (nat_lt i.at (2 ^ 32) && (is_enabled analyzers i && is_unsettled S i)) ≡ false
none_unsettled S i settled = and_right (nat_lt i.at (2 ^ 32)) (is_enabled analyzers i && is_unsettled S i)
    (and_right (is_enabled analyzers i) (is_unsettled S i) (ap (λ (cs : List Change). not (length cs == 0)) settled))

pub rest_is_closed : ListingLaw → (s : State) → Sound s → Rests s → (is_finished s || is_idle s) ≡ true → IsClosed (base s) analyzers
rest_is_closed listing s sound h done =
    let none = is_empty s h done in
    sym ((listing (2 ^ 32) (λ (i : Item). is_enabled analyzers i && is_unsettled (base s) i)).only [] (record { in_order = refl; members = λ i. sym (none_unsettled (base s) i (settled_item s sound h none i)) }))
