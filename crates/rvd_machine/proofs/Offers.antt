-- An offer keeps the state sound. Use `offer_keeps`.
use Rattle.std.proofs.Common.{◌≡◌, ℕ, Bool, true, false, cond, ◌==◌, List, [], ◌∷◌, Option, Some, None, refl, sym, ap, ◌∙◌, subst}
use Rattle.std.proofs.lemmas.Bool.{or_parts, or_from, cond_both, false≢true, true≢false}
use Rattle.rvd_fact.specs.Program.{Program, applied_all}
use Rattle.rvd_fact.specs.Valid.{IsValid}
use Rattle.rvd_ask.specs.declared.asks.Analyzer.{Analyzer}
use Rattle.rvd_ask.specs.declared.asks.Analyzer.TheVariants.{Flow, Refs, Funcs, Body, Strings}
use Rattle.rvd_ask.specs.declared.asks.Item.{Item}
use Rattle.rvd_ask.specs.Order.{same_item}
use Rattle.rvd_ask.specs.Rules.{rule}
use Rattle.rvd_ask.specs.Unsettled.{has_item}
use Rattle.rvd_ask.specs.Wake.{item}
use Rattle.rvd_ask.proofs.ItemOrder.{same_item-true}
use Rattle.rvd_event.specs.declared.verdicts.Verdict.{Verdict}
use Rattle.rvd_event.specs.declared.verdicts.Verdict.TheVariants.{Joined, Nothing, Off, Stale, Foreign}
use Rattle.rvd_event.specs.declared.steps.Step.TheVariants as step
use Rattle.rvd_event.specs.declared.replies.Reply.{Reply}
use Rattle.rvd_event.specs.declared.replies.Reply.TheVariants as reply
use Rattle.rvd_queue.specs.Sets.{with}
use Rattle.rvd_wake.specs.Laws.{AnalysisLaws}
use Rattle.rvd_machine.specs.Enabled.{Enabled, is_on, woken_into}
use Rattle.rvd_machine.specs.State.{State, Open, Job, base, work, work_in, is_taken, job_of, other_jobs}
use Rattle.rvd_machine.specs.Verdicts.{Batch, first_batch, is_body, returned, joined_by, judged, judged_all, IsVerdict, AreVerdicts}
use Rattle.rvd_machine.specs.Moves.{commit, analysis_text, offered_in, offered_job}
use Rattle.rvd_machine.specs.Replies.{IsOfferReply}
use Rattle.rvd_machine.specs.Steps.{is_refused, verdicts_in}
use Rattle.rvd_machine.specs.Sound.{Sound, AreAllValid, AreValid, IsSettledBut, is_kept, programs_of}
use Rattle.rvd_machine.proofs.Members.{has_item-with, not_taken, not_woken}
use Rattle.rvd_machine.proofs.Leads.{Laws, wake_all, valid_all}
use Rattle.rvd_machine.proofs.Keeps.{valid_take}

-- what holds in the middle of an offer, of the working program that was S, with the items that are still to be judged
record IsPartly (E : Enabled) (S : Program) (others : List Job) (b : Batch) (rest : List Item) (whole : Type 0) : Type 0 where
  valid : IsValid b.work
  same : b.joined ≡ false → b.work ≡ S
  none_lost : whole → (i : Item) → is_on E i.analyzer ≡ true → has_item i b.queue ≡ false → is_taken i others ≡ false → has_item i rest ≡ false → rule b.work i ≡ []

-- what isn't in the queue after an item returned is another item, and wasn't before
not_returned : (j i : Item) (queue : List Item) → is_body i.analyzer ≡ false → has_item j (returned i queue) ≡ false → (same_item j i ≡ false) × (has_item j queue ≡ false)
not_returned j i queue other none = or_parts (same_item j i) (has_item j queue) (sym (has_item-with j i queue) ∙ ap (λ (b : Bool). has_item j (cond b queue (with i queue))) (sym other) ∙ none)

not_returned_body : (j i : Item) (queue : List Item) → is_body i.analyzer ≡ true → has_item j (returned i queue) ≡ false → has_item j queue ≡ false
not_returned_body j i queue body none = ap (λ (b : Bool). has_item j (cond b queue (with i queue))) (sym body) ∙ none

by_cases : (b : Bool) (X : Type 0) → (b ≡ true → X) → (b ≡ false → X) → X
by_cases true X so other = so refl
by_cases false X so other = other refl

-- a body item that joined is settled
bodies_settle : AnalysisLaws → (S : Program) (a : Analyzer) (at : ℕ) → IsValid S → is_body a ≡ true → rule (applied_all S (rule S (item a at))) (item a at) ≡ []
bodies_settle L S Flow at valid other = absurd (false≢true other)
bodies_settle L S Refs at valid other = absurd (false≢true other)
bodies_settle L S Funcs at valid other = absurd (false≢true other)
bodies_settle L S Body at valid body = L.body_settled S at valid
bodies_settle L S Strings at valid other = absurd (false≢true other)

module _ (L : Laws) (E : Enabled) (S P : Program) (others : List Job) (whole : Type 0) where
  joined_keeps : (b : Batch) (i : Item) (items : List Item) → is_on E i.analyzer ≡ true → IsPartly E S others b (i ∷ items) whole → IsPartly E S others (joined_by E b i (rule b.work i)) items whole
  joined_keeps b i items on h =
      let cs = rule b.work i in
      let lead = L.analysis.fits b.work i h.valid in
      let queue = woken_into E b.work cs b.queue in
      record {
        valid = valid_all cs b.work h.valid lead;
        same = λ none. absurd (true≢false none);
        none_lost = λ w j j_on j_queue j_out j_rest.
            let still : has_item j queue ≡ false → same_item j i ≡ false → rule (applied_all b.work cs) j ≡ [] = λ j_q j_i.
            (let apart = not_woken j E j_on cs b.work b.queue j_q in
            wake_all L.analysis cs b.work j lead apart.0 (h.none_lost w j j_on apart.1 j_out (or_from (same_item j i) (has_item j items) j_i j_rest))) in
            by_cases (is_body i.analyzer) (rule (applied_all b.work cs) j ≡ [])
            (λ body. by_cases (same_item j i) (rule (applied_all b.work cs) j ≡ [])
            (λ s. subst (λ (z : Item). rule (applied_all b.work cs) z ≡ []) (sym (same_item-true j i s)) (bodies_settle L.analysis b.work i.analyzer i.at h.valid body))
            (λ s. still (not_returned_body j i queue body j_queue) s))
            (λ other. let far = not_returned j i queue other j_queue in still far.1 far.0);
      }

  -- an item that is settled or off is let go
  let_go : (b : Batch) (i : Item) (items : List Item) → (is_on E i.analyzer ≡ true → rule b.work i ≡ []) → IsPartly E S others b (i ∷ items) whole → IsPartly E S others b items whole
  let_go b i items done h = record {
    valid = h.valid;
    same = h.same;
    none_lost = λ w j j_on j_queue j_out j_rest. by_cases (same_item j i) (rule b.work j ≡ [])
        (λ s. subst (λ (z : Item). rule b.work z ≡ []) (sym (same_item-true j i s)) (done (ap (λ (z : Item). is_on E z.analyzer) (sym (same_item-true j i s)) ∙ j_on)))
        (λ s. h.none_lost w j j_on j_queue j_out (or_from (same_item j i) (has_item j items) s j_rest));
  }

  -- an item that is stale or foreign returns
  back : (b : Batch) (i : Item) (items : List Item) → IsPartly E S others b (i ∷ items) whole → IsPartly E S others (record b { queue = with i b.queue }) items whole
  back b i items h = record {
    valid = h.valid;
    same = h.same;
    none_lost = λ w j j_on j_queue j_out j_rest.
        let far = or_parts (same_item j i) (has_item j b.queue) (sym (has_item-with j i b.queue) ∙ j_queue) in
        h.none_lost w j j_on far.1 j_out (or_from (same_item j i) (has_item j items) far.0 j_rest);
  }

  judged_keeps : (b : Batch) (i : Item) (items : List Item) (v : Verdict) → IsVerdict E P b i v → IsPartly E S others b (i ∷ items) whole → IsPartly E S others (judged E b i v) items whole
  judged_keeps b i items (Joined k) ok h = joined_keeps b i items ok.0 h
  judged_keeps b i items Nothing ok h = let_go b i items (λ _. ok.1) h
  judged_keeps b i items Off ok h = let_go b i items (λ on. absurd (false≢true (sym ok ∙ on))) h
  judged_keeps b i items (Stale ask was now) ok h = back b i items h
  judged_keeps b i items (Foreign ask said was) ok h = back b i items h

  all_judged_keep : (items : List Item) (vs : List Verdict) (b : Batch) → AreVerdicts E P b items vs → IsPartly E S others b items whole → IsPartly E S others (judged_all E b items vs) [] whole
  all_judged_keep [] [] b ok h = h
  all_judged_keep [] (v ∷ vs) b ok h = absurd ok
  all_judged_keep (i ∷ items) [] b ok h = absurd ok
  all_judged_keep (i ∷ items) (v ∷ vs) b ok h = all_judged_keep items vs (judged E b i v) ok.1 (judged_keeps b i items v ok.0 h)

-- ---- the end of an offer
done_keeps : (s : State) (a : ℕ) (b : Batch) (c : Option Open) → AreAllValid (record s { current = c }) → (s.whole ≡ true → IsSettledBut s.enabled (base s) (is_kept c)) → IsPartly s.enabled (work_in (base s) c) s.taken b [] (s.whole ≡ true) → Sound (offered_in s a b c)
done_keeps s a b None v kept p = by_joined b.joined refl
  where
    by_joined : (j : Bool) → b.joined ≡ j → Sound (cond j (commit (record s { queue = b.queue }) b.work (step.Commit a analysis_text b.changes)) (record s { queue = b.queue; current = None }))
    by_joined true e = record {
      valid = record { base = p.valid; work = p.valid; past = valid_take 50 (base s ∷ s.history.past) (v.base, v.past); undone = tt; taken = v.taken };
      none_lost = record {
        work = λ whole i on none. let parts = or_parts (has_item i b.queue) (is_taken i s.taken) none in p.none_lost whole i on parts.0 parts.1 refl;
        base = λ whole i on none. absurd (true≢false none);
      };
    }
    by_joined false e = record {
      valid = record { base = v.base; work = v.base; past = v.past; undone = v.undone; taken = v.taken };
      none_lost = record {
        work = λ whole i on none.
            let parts = or_parts (has_item i b.queue) (is_taken i s.taken) none in
            ap (λ (T : Program). rule T i) (sym (p.same e)) ∙ p.none_lost whole i on parts.0 parts.1 refl;
        base = λ whole i on none. absurd (true≢false none);
      };
    }
done_keeps s a b (Some o) v kept p = record {
  valid = record { base = v.base; work = p.valid; past = v.past; undone = v.undone; taken = v.taken };
  none_lost = record {
    work = λ whole i on none. let parts = or_parts (has_item i b.queue) (is_taken i s.taken) none in p.none_lost whole i on parts.0 parts.1 refl;
    base = kept;
  };
}

-- ---- an offer of a job that is taken
valid_others : (ticket : ℕ) (jobs : List Job) → AreValid (programs_of jobs) → AreValid (programs_of (other_jobs ticket jobs))
valid_others ticket [] v = tt
valid_others ticket (job ∷ jobs) v = cond_both (job.ticket == ticket) jobs (job ∷ other_jobs ticket jobs) (λ all. AreValid (programs_of all))
    (λ _. v.1)
    (λ _. (v.0, valid_others ticket jobs v.1))

job_keeps : Laws → (s : State) (a ticket : ℕ) (vs : List Verdict) (job : Job) → job_of ticket s.taken ≡ Some job → AreVerdicts s.enabled job.program (first_batch s) job.items vs → Sound s → Sound (offered_job s a ticket vs (Some job))
job_keeps L s a ticket vs job found ok h =
    let others = other_jobs ticket s.taken in
    let first : IsPartly s.enabled (work s) others (first_batch s) job.items (s.whole ≡ true) = record {
      valid = h.valid.work;
      same = λ _. refl;
      none_lost = λ whole i on queue out rest. h.none_lost.work whole i on (or_from (has_item i s.queue) (is_taken i s.taken) queue (not_taken i ticket s.taken job found out rest));
    } in
    done_keeps (record s { taken = others }) a (judged_all s.enabled (first_batch s) job.items vs) s.current
    (record { base = h.valid.base; work = h.valid.work; past = h.valid.past; undone = h.valid.undone; taken = valid_others ticket s.taken h.valid.taken })
    h.none_lost.base
    (all_judged_keep L s.enabled (work s) job.program others (s.whole ≡ true) job.items vs (first_batch s) ok first)

-- ---- an offer, whatever its reply
pub offer_keeps : Laws → (s : State) (a ticket : ℕ) (o : Option Job) → job_of ticket s.taken ≡ o → (r : Reply) → IsOfferReply s ticket o r → Sound s → Sound (cond (is_refused r) s (offered_job s a ticket (verdicts_in r) o))
offer_keeps L s a ticket None found r ok h = cond_both (is_refused r) s s Sound (λ _. h) (λ _. h)
offer_keeps L s a ticket (Some job) found (reply.Verdicts vs) ok h = job_keeps L s a ticket vs job found ok h
offer_keeps L s a ticket (Some job) found (reply.Refused x) ok h = h
offer_keeps L s a ticket (Some job) found (reply.Entry n) ok h = absurd ok
offer_keeps L s a ticket (Some job) found (reply.Changed n) ok h = absurd ok
offer_keeps L s a ticket (Some job) found (reply.Waiting n) ok h = absurd ok
offer_keeps L s a ticket (Some job) found (reply.Committed n) ok h = absurd ok
offer_keeps L s a ticket (Some job) found reply.RolledBack ok h = absurd ok
offer_keeps L s a ticket (Some job) found (reply.StepNo n) ok h = absurd ok
offer_keeps L s a ticket (Some job) found (reply.At n) ok h = absurd ok
offer_keeps L s a ticket (Some job) found (reply.SettledAt n) ok h = absurd ok
offer_keeps L s a ticket (Some job) found reply.Voided ok h = absurd ok
offer_keeps L s a ticket (Some job) found (reply.Closed n) ok h = absurd ok
offer_keeps L s a ticket (Some job) found (reply.Job n items) ok h = absurd ok
