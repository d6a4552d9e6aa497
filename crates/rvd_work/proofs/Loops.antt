-- The rounds of a worker's loop. Use `rounds_none` for its start, `rounds_looked` behind a turn that added nothing, `rounds_job`
-- behind a job that was offered, and `breaks_job` behind one that wasn't.
use Rattle.std.proofs.Common.{◌≡◌, ℕ, List, [], ◌∷◌, ◌++◌, length, Option, Some, None, refl, sym, ap, ◌∙◌, subst, append_assoc, append-nil, inl, inr}
use Rattle.std.specs.Prelude.{◌⊎◌, Bool, true, false}
use Rattle.rvd_ask.specs.Promise.{Proposed}
use Rattle.rvd_event.specs.declared.events.Event.{Event}
use Rattle.rvd_event.specs.declared.events.Event.TheVariants as event
use Rattle.rvd_event.specs.declared.replies.Reply.{Reply}
use Rattle.rvd_event.specs.declared.replies.Reply.TheVariants as reply
use Rattle.rvd_journal.specs.declared.entries.Entry.{Entry}
use Rattle.rvd_machine.specs.Replies.{is_finished}
use Rattle.rvd_machine.specs.Exact.{IsExactReply}
use Rattle.rvd_machine.specs.Proper.{IsProper, MadeIsProper}
use Rattle.rvd_machine.specs.Running.{JobIsGiven, JobsStay}
use Rattle.rvd_machine.specs.Steps.{Head, IsLegal, IsStep, start_of, state}
use Rattle.rvd_machine.proofs.Journals.{legal-push}
use Rattle.rvd_turn.proofs.Prefixes.{prefix_trans}
use Rattle.rvd_turn.specs.Story.{IsPrefix}
use Rattle.rvd_desk.specs.declared.answers.Job.{Job as Given}
use Rattle.rvd_desk.specs.Story.{entry_of}
use Rattle.rvd_desk.specs.Turns.{Looked, Passing, TurnOf, added, by, looked}
use Rattle.rvd_desk.proofs.Turned.{heads}
use Rattle.rvd_work.specs.Working.{ArePairsOf, Breaks, DidJob, IsPairOf, IsWorker, Knows, OfferedIn, Rounds, TookIn, WorkedBy, Worked, offered_by, tickets_of}
use Rattle.rvd_work.proofs.Knowing.{knows_added, knows_looked}
use Rattle.rvd_work.proofs.OwnOffers.{offer_proper}

-- ---- lists
pairs-push : (w n : ℕ) (entries : List Entry) (x y : Entry) → ArePairsOf w n entries → IsPairOf w n x y → ArePairsOf w n (entries ++ x ∷ y ∷ [])
pairs-push w n [] x y pairs pair = (pair, tt)
pairs-push w n (e ∷ []) x y pairs pair = absurd pairs
pairs-push w n (e ∷ f ∷ entries) x y pairs pair = (pairs.0, pairs-push w n entries x y pairs.1 pair)

tickets-append : (xs ys : List Entry) → tickets_of (xs ++ ys) ≡ tickets_of xs ++ tickets_of ys
tickets-append [] ys = refl
tickets-append (e ∷ xs) ys = ap (λ l. offered_by e.event ++ l) (tickets-append xs ys) ∙ sym (append_assoc (offered_by e.event) (tickets_of xs) (tickets_of ys))

-- ---- the start
pub rounds_none : (h : Head) (p : Passing) (n : ℕ) (tickets : List ℕ) → Rounds h p p n tickets tickets
rounds_none h p n tickets = record {
  entries = [];
  pairs = tt;
  rest = ap (λ l. record p { own = l }) (sym (append-nil p.own));
  begins = ([], append-nil p.seen);
  gained = sym (append-nil tickets);
  known = λ k. k;
}

module _ (h : Head) (p0 p : Passing) (n : ℕ) (ts ts' : List ℕ) (r : Rounds h p0 p n ts ts') (about : p0.head ≡ Some h) where
  head_of : p.head ≡ Some h
  head_of = ap (λ (k : Passing). k.head) r.rest ∙ about

  number_of : p.number ≡ p0.number
  number_of = ap (λ (k : Passing). k.number) r.rest

  -- a turn that added nothing
  pub rounds_looked : (q : Passing) → Looked p q → Rounds h p0 q n ts ts'
  rounds_looked q l =
      let same : l.head ≡ h = heads l.head h p.head l.turn.about head_of in
      let turn : TurnOf p h l.log = subst (λ (k : Head). TurnOf p k l.log) same l.turn in
      record {
        entries = r.entries;
        pairs = r.pairs;
        rest = l.pass ∙ ap (λ (k : Passing). record k { seen = l.log }) r.rest ∙ ap (λ s. record p0 { own = p0.own ++ r.entries; seen = s }) (sym (ap (λ (k : Passing). k.seen) l.pass));
        begins = subst (IsPrefix p0.seen) (sym (ap (λ (k : Passing). k.seen) l.pass)) (prefix_trans p0.seen p.seen l.log r.begins turn.begins);
        gained = r.gained;
        known = λ k. subst (Knows h) (sym l.pass) (knows_looked h p l.log (r.known k) turn);
      }

  pub looked_finished : (q : Passing) (l : Looked p q) → is_finished (state l.head l.log) ≡ true → is_finished (state h q.seen) ≡ true
  looked_finished q l fin =
      let same : l.head ≡ h = heads l.head h p.head l.turn.about head_of in
      subst (λ (s : List Entry). is_finished (state h s) ≡ true) (sym (ap (λ (k : Passing). k.seen) l.pass)) (subst (λ (k : Head). is_finished (state k l.log) ≡ true) same fin)

  -- a take
  module _ (q : Passing) (job : Given) (t : TookIn p q n job) where
    took_head : t.head ≡ h
    took_head = heads t.head h p.head t.turn.about head_of

    abbrev took_entry : Entry
    took_entry = entry_of (state t.head t.log) p.number (event.Take n) (reply.Job job.ticket job.items)

    took_turn : TurnOf p h t.log
    took_turn = subst (λ (k : Head). TurnOf p k t.log) took_head t.turn

    took_knows : Knows h p0 → Knows h q
    took_knows k = subst (Knows h) (sym t.pass) (knows_added h p t.log took_entry (r.known k) took_turn refl tt)

    took_head_of : q.head ≡ Some h
    took_head_of = ap (λ (k : Passing). k.head) t.pass ∙ head_of

    took_seen : q.seen ≡ t.log ++ took_entry ∷ []
    took_seen = ap (λ (k : Passing). k.seen) t.pass

    took_begins : IsPrefix p0.seen q.seen
    took_begins = subst (IsPrefix p0.seen) (sym took_seen) (prefix_trans p0.seen p.seen (t.log ++ took_entry ∷ []) r.begins (prefix_trans p.seen t.log (t.log ++ took_entry ∷ []) t.turn.begins (took_entry ∷ [], refl)))

    -- the desk was stopped then
    pub breaks_job : (z : Passing) (ts'' : List ℕ) → Looked q z → (ts'' ≡ ts') ⊎ (ts'' ≡ ts' ++ job.ticket ∷ []) → Breaks h p0 z n ts ts''
    breaks_job z ts'' l more =
        let same : l.head ≡ h = heads l.head h q.head l.turn.about took_head_of in
        let turn : TurnOf q h l.log = subst (λ (k : Head). TurnOf q k l.log) same l.turn in
        let seen : z.seen ≡ l.log = ap (λ (k : Passing). k.seen) l.pass in
        record {
          entries = r.entries;
          take = took_entry;
          ticket = job.ticket;
          pairs = r.pairs;
          last = record { items = job.items; taken = record { caller = number_of; event = refl; reply = refl } };
          rest = l.pass ∙ ap (λ (k : Passing). looked k l.log) t.pass
              ∙ ap (λ (k : Passing). record k { own = k.own ++ took_entry ∷ []; seen = l.log }) r.rest
              ∙ ap (λ o. record p0 { own = o; seen = l.log }) (append_assoc p0.own r.entries (took_entry ∷ []))
              ∙ ap (λ s. record p0 { own = p0.own ++ (r.entries ++ took_entry ∷ []); seen = s }) (sym seen);
          begins = subst (IsPrefix p0.seen) (sym seen) (prefix_trans p0.seen q.seen l.log took_begins turn.begins);
          gained = by_more more;
          known = λ k. subst (Knows h) (sym l.pass) (knows_looked h q l.log (took_knows k) turn);
        }
      where
        by_more : (ts'' ≡ ts') ⊎ (ts'' ≡ ts' ++ job.ticket ∷ []) → (ts'' ≡ ts ++ tickets_of r.entries) ⊎ (ts'' ≡ ts ++ (tickets_of r.entries ++ job.ticket ∷ []))
        by_more (inl same) = inl (same ∙ r.gained)
        by_more (inr more) = inr (more ∙ ap (λ l. l ++ job.ticket ∷ []) r.gained ∙ append_assoc ts (tickets_of r.entries) (job.ticket ∷ []))

    -- the job was offered
    pub rounds_job : JobIsGiven → JobsStay → MadeIsProper → (z : Passing) (ts'' : List ℕ) → DidJob q z job ts' ts'' true → Rounds h p0 z n ts ts''
    rounds_job given stay law z ts'' did =
        let o = did.3 in
        let reply' = did.1 in
        let same : o.head ≡ h = heads o.head h q.head o.turn.about took_head_of in
        let turn : TurnOf q h o.log = subst (λ (k : Head). TurnOf q k o.log) same o.turn in
        let x = took_entry in
        let y = entry_of (state o.head o.log) q.number (event.Offer job.ticket) reply' in
        let number : q.number ≡ p0.number = ap (λ (k : Passing). k.number) t.pass ∙ number_of in
        let seen : z.seen ≡ o.log ++ y ∷ [] = ap (λ (k : Passing). k.seen) o.pass in
        let proper : IsProper (state t.head o.log) y = offer_proper given stay law t.head t.log o.log x n job.ticket job.items job.program did.0 reply'
        (legal-push t.head t.log x t.turn.legal t.step) refl refl t.program did.2
        (subst (λ (k : Head). IsLegal k o.log) (same ∙ sym took_head) o.turn.legal)
        (subst (λ l. IsPrefix l o.log) took_seen o.turn.begins)
        (subst (λ (k : Head). IsExactReply (state k o.log) job.ticket did.0 reply') (same ∙ sym took_head) o.exact) in
        record {
          entries = r.entries ++ x ∷ y ∷ [];
          pairs = pairs-push p0.number n r.entries x y r.pairs (record {
            ticket = job.ticket;
            items = job.items;
            taken = record { caller = number_of; event = refl; reply = refl };
            offered = record { caller = number; event = refl };
          });
          rest = o.pass ∙ ap (λ (k : Passing). added k o.log y) t.pass
              ∙ ap (λ (k : Passing). record k { own = (k.own ++ x ∷ []) ++ y ∷ []; seen = o.log ++ y ∷ [] }) r.rest
              ∙ ap (λ l. record p0 { own = l; seen = o.log ++ y ∷ [] }) (append_assoc (p0.own ++ r.entries) (x ∷ []) (y ∷ []) ∙ append_assoc p0.own r.entries (x ∷ y ∷ []))
              ∙ ap (λ s. record p0 { own = p0.own ++ (r.entries ++ x ∷ y ∷ []); seen = s }) (sym seen);
          begins = subst (IsPrefix p0.seen) (sym seen) (prefix_trans p0.seen q.seen (o.log ++ y ∷ []) took_begins (prefix_trans q.seen o.log (o.log ++ y ∷ []) turn.begins (y ∷ [], refl)));
          gained = did.4 ∙ ap (λ l. l ++ job.ticket ∷ []) r.gained ∙ append_assoc ts (tickets_of r.entries) (job.ticket ∷ []) ∙ ap (λ l. ts ++ l) (sym (tickets-append r.entries (x ∷ y ∷ [])));
          known = λ k. subst (Knows h) (sym o.pass) (knows_added h q o.log y (took_knows k) turn refl (subst (λ (m : Head). IsProper (state m o.log) y) took_head proper));
        }

-- ---- the loop's pass stays the worker's
worker_of : (p q : Passing) (w : ℕ) → IsWorker p w → q.head ≡ p.head → q.number ≡ p.number → q.turn ≡ p.turn → IsWorker q w
worker_of p q w i head number turn = record { head = i.head; about = head ∙ i.about; number = number ∙ i.number; idle = turn ∙ i.idle; of_head = i.of_head }

pub worker_still : (h : Head) (p0 p : Passing) (n w : ℕ) (ts ts' : List ℕ) → Rounds h p0 p n ts ts' → IsWorker p0 w → IsWorker p w
worker_still h p0 p n w ts ts' r i = worker_of p0 p w i (ap (λ (k : Passing). k.head) r.rest) (ap (λ (k : Passing). k.number) r.rest) (ap (λ (k : Passing). k.turn) r.rest)

pub worker_took : (p q : Passing) (n w : ℕ) (job : Given) → TookIn p q n job → IsWorker p w → IsWorker q w
worker_took p q n w job t i = worker_of p q w i (ap (λ (k : Passing). k.head) t.pass) (ap (λ (k : Passing). k.number) t.pass) (ap (λ (k : Passing). k.turn) t.pass)
