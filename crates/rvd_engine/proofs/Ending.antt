-- The end of a live entry, and the close of an open session. Use `committed` and `closes`.
use Rattle.std.proofs.Common.{◌≡◌, ℕ, ◌+◌, Bool, true, false, cond, not, ◌||◌, ◌==◌, nat_lt, List, [], ◌∷◌, ◌++◌, length, Option, Some, None, sym, ap, ◌∙◌, subst, arith, length-append}
use Rattle.rvd_fact.specs.Program.{Program}
use Rattle.rvd_ask.specs.declared.asks.Item.{Item}
use Rattle.rvd_event.specs.declared.events.Event.TheVariants as event
use Rattle.rvd_event.specs.declared.replies.Reply.TheVariants as reply
use Rattle.rvd_event.specs.declared.replies.Refusal.TheVariants as refusal
use Rattle.rvd_event.specs.declared.steps.Step.{Step}
use Rattle.rvd_trans.specs.Entries.{count_of, without_newest}
use Rattle.rvd_trans.specs.Transaction.{Transaction, ended, has_live}
use Rattle.rvd_undo.specs.History.{History, after_commit}
use Rattle.rvd_machine.specs.State.{State, Open, is_session, lives_of, without}
use Rattle.rvd_machine.specs.Moves.{closed_in, commit, commit_step, entry_ended, rollback}
use Rattle.rvd_machine.specs.Replies.{answered, next_step, refused_if}
use Rattle.rvd_engine.specs.Inside.{open_of}
use Rattle.rvd_engine.specs.Performed.{Answers}

one_more : (xs : List Step) (x : Step) → length (xs ++ x ∷ []) ≡ length xs + 1
one_more xs x = length-append xs (x ∷ [])

not_zero : (n : ℕ) → nat_lt 0 n ≡ true → (n == 0) ≡ false
not_zero n some = grind (arith, some)

-- the transaction that an end leaves, where the actor has a live entry
pub ended_is : (a : ℕ) (keep : Bool) (kept : List Item) (W : Program) (t : Transaction) → has_live a t ≡ true → open_of kept W (ended a keep t) ≡ entry_ended a keep (open_of kept W t)
ended_is a keep kept W t live = ap (λ b. open_of kept W (cond b (record t { entries = without_newest a t.entries; aborted = t.aborted || not keep }) t)) live

-- the last end commits where none aborted
committed_open : (s : State) (a : ℕ) (keep : Bool) (o : Open) (h : History) (steps : List Step) → is_session a s.open_sessions ≡ true → nat_lt 0 (count_of a o.entries) ≡ true
    → length (entry_ended a keep o).entries ≡ 0 → (entry_ended a keep o).aborted ≡ false → h ≡ after_commit s.history o.work → steps ≡ s.steps ++ commit_step (entry_ended a keep o) ∷ []
    → Answers (record s { current = Some o }) (record s { history = h; steps = steps; current = None; due = true }) a (event.End keep) (reply.Committed (length steps))
committed_open s a keep o h steps session live none kept history noted =
    let e : Open = entry_ended a keep o in
    let t : State = record s { current = Some o } in
    record {
      reply =
          ap (λ b. answered t a (event.End keep) (cond b (refused_if (count_of a o.entries == 0) refusal.NoTransaction) (Some refusal.NoSession))) session
          ∙ ap (λ b. answered t a (event.End keep) (refused_if b refusal.NoTransaction)) (not_zero (count_of a o.entries) live)
          ∙ ap (λ n. Some (cond (nat_lt 0 n) (reply.Waiting n) (cond e.aborted reply.RolledBack (reply.Committed (next_step t))))) none
          ∙ ap (λ b. Some (cond b reply.RolledBack (reply.Committed (next_step t)))) kept
          ∙ ap (λ n. Some (reply.Committed n)) (sym (ap length noted ∙ one_more s.steps (commit_step e)));
      state =
          (λ i. record s { history = history i; steps = noted i; current = None; due = true })
          ∙ sym (ap (λ n. cond (nat_lt 0 n) (record t { current = Some e }) (cond e.aborted (rollback t e) (commit t e.work (commit_step e)))) none
          ∙ ap (λ b. cond b (rollback t e) (commit t e.work (commit_step e))) kept);
    }

pub committed : (s : State) (a : ℕ) (keep : Bool) (kept : List Item) (W : Program) (t u : Transaction) (h : History) (steps : List Step)
    → is_session a s.open_sessions ≡ true → s.current ≡ Some (open_of kept W t) → has_live a t ≡ true → u ≡ ended a keep t
    → length u.entries ≡ 0 → u.aborted ≡ false → h ≡ after_commit s.history W → steps ≡ s.steps ++ commit_step (open_of kept W u) ∷ []
    → Answers s (record s { history = h; steps = steps; current = None; due = true }) a (event.End keep) (reply.Committed (length steps))
committed s a keep kept W t u h steps session open_one live is none clean history noted =
    let o : Open = open_of kept W t in
    let same : open_of kept W u ≡ entry_ended a keep o = ap (open_of kept W) is ∙ ended_is a keep kept W t live in
    subst (λ (c : Option Open). Answers (record s { current = c }) (record s { history = h; steps = steps; current = None; due = true }) a (event.End keep) (reply.Committed (length steps))) (sym open_one)
    (committed_open s a keep o h steps session live
    (sym (ap (λ (x : Open). length x.entries) same) ∙ none)
    (sym (ap (λ (x : Open). x.aborted) same) ∙ clean)
    history
    (noted ∙ ap (λ (x : Open). s.steps ++ commit_step x ∷ []) same))

-- an open session closes
pub closes : (s t : State) (a n : ℕ) (left : List ℕ) → is_session a s.open_sessions ≡ true → n ≡ lives_of s a → left ≡ without a s.open_sessions
    → t ≡ closed_in (record s { open_sessions = left }) a s.current → Answers s t a event.Close (reply.Closed n)
closes s t a n left session answer others moved = record {
  reply = ap (λ b. answered s a event.Close (cond b None (Some refusal.NoSession))) session ∙ ap (λ k. Some (reply.Closed k)) (sym answer);
  state = moved ∙ ap (λ (sessions : List ℕ). closed_in (record s { open_sessions = sessions }) a s.current) others;
}

-- an actor that has entries has a live one
pub is_some_live : (n m : ℕ) → (n ≡ 0 → ⊥) → n ≡ m → nat_lt 0 m ≡ true
is_some_live n m some same = grind (arith, some, same)
