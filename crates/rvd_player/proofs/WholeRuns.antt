-- A whole analysis from its first entry on. Use `analysed` for its end, and `settle_stops` where an error comes.
use Rattle.std.proofs.Common.{◌≡◌, ℕ, ◌+◌, ◌<◌, true, List, [], ◌∷◌, ◌++◌, length, refl, sym, ap, ◌∙◌, subst, arith, inl, inr}
use Rattle.std.specs.Prelude.{Some, None, ◌||◌}
use Rattle.std.proofs.lemmas.Option.{none-some}
use Rattle.rvd_fact.specs.Program.{Program}
use Rattle.rvd_ask.specs.Unsettled.{ListingLaw}
use Rattle.rvd_event.specs.declared.events.Event.TheVariants as event
use Rattle.rvd_event.specs.declared.replies.Reply.TheVariants as reply
use Rattle.rvd_event.specs.declared.steps.Step.TheVariants as step
use Rattle.rvd_journal.specs.declared.entries.Entry.{Entry}
use Rattle.rvd_machine.specs.Moves.{filled, stepped}
use Rattle.rvd_machine.specs.Replies.{is_finished, is_idle}
use Rattle.rvd_machine.specs.Sound.{Sound}
use Rattle.rvd_machine.specs.Steps.{after, Head, IsLegal, kept_rooms, max_entries, start_of, state}
use Rattle.rvd_desk.specs.Calls.{Did}
use Rattle.rvd_desk.specs.Story.{entry_of, Story, state_of}
use Rattle.rvd_desk.specs.declared.answers.Halt.{Halt}
use Rattle.rvd_desk.specs.declared.answers.DeskError.{DeskError}
use Rattle.rvd_desk.specs.declared.answers.DeskError.TheVariants.{Refused, JournalFull, Stopped, OutOfMemory}
use Rattle.rvd_settle.specs.Settling.{ArePairs, GoesOn, IsFull, Settles, StopsShort}
use Rattle.rvd_player.specs.Analysed.{AnalysisFails, FillsAnalysis, head_of_one, IsAnalysed, IsRun}
use Rattle.rvd_player.proofs.Resting.{pairs_rest, rest_is_closed, Rests, settled_rests}

abbrev with_journal : Story → List Entry → Story
with_journal d J = record d { journal = J }

-- the desk at the start, and after the first entry
abbrev pub first_story : Program → Story
first_story P = record { head = head_of_one P; journal = []; halt = None }

abbrev first_entry : Program → ℕ → Entry
first_entry P n = entry_of (start_of (head_of_one P)) 1 event.Full (reply.StepNo n)

abbrev story_with : Program → List Entry → Story
story_with P J = record { head = head_of_one P; journal = J; halt = None }

after_first : (P : Program) (d t : Story) (n : ℕ) → d ≡ first_story P → Did d t 1 event.Full (reply.StepNo n) → t ≡ story_with P (first_entry P n ∷ [])
after_first P d t n is did = did.grown ∙ ap (λ (x : Story). with_journal x (x.journal ++ entry_of (state_of x) 1 event.Full (reply.StepNo n) ∷ [])) is

after_pairs : (P : Program) (d t new : Story) (n jobs : ℕ) → d ≡ first_story P → Did d t 1 event.Full (reply.StepNo n) → (g : GoesOn t new 2 64 jobs) → new ≡ story_with P (first_entry P n ∷ g.entries)
after_pairs P d t new n jobs is did g = g.grown ∙ ap (λ (x : Story). with_journal x (x.journal ++ g.entries)) (after_first P d t n is did)

run_of : (P : Program) (d t new : Story) (n jobs : ℕ) → d ≡ first_story P → Did d t 1 event.Full (reply.StepNo n) → GoesOn t new 2 64 jobs → IsRun P new.journal
run_of P d t new n jobs is did g = record {
  first = first_entry P n;
  asks = (refl, refl);
  pairs = g.entries;
  are_pairs = subst (λ (x : Story). ArePairs (state_of x) 2 64 g.entries) (after_first P d t n is did) g.pairs;
  entries = ap (λ (x : Story). x.journal) (after_pairs P d t new n jobs is did g);
}

rests_first : (P : Program) (n : ℕ) → Rests (after (start_of (head_of_one P)) (first_entry P n))
rests_first P n = settled_rests (stepped (filled (start_of (head_of_one P))) (step.Full 1)) (record { stands = record { current = refl; whole = refl; enabled = refl; sessions = refl }; taken = refl })

pub analysed : ListingLaw → (P : Program) (d t new : Story) (n jobs : ℕ) → d ≡ first_story P → Did d t 1 event.Full (reply.StepNo n) → Settles t new 2 64 jobs → IsLegal new.head new.journal → Sound (state_of new) → IsAnalysed P new
analysed listing P d t new n jobs is did s legal sound =
    let g = s.goes_on in
    let same : new ≡ story_with P (first_entry P n ∷ g.entries) = after_pairs P d t new n jobs is did g in
    let end = story_with P (first_entry P n ∷ g.entries) in
    let legal_too : IsLegal end.head end.journal = subst (λ (x : Story). IsLegal x.head x.journal) same legal in
    let pairs = subst (λ (x : Story). ArePairs (state_of x) 2 64 g.entries) (after_first P d t n is did) g.pairs in
    let rests = pairs_rest (after (start_of (head_of_one P)) (first_entry P n)) 2 64 g.entries pairs legal_too.steps.1 (rests_first P n) in
    let done : (is_finished (state_of end) || is_idle (state_of end)) ≡ true = subst (λ (x : Story). (is_finished (state_of x) || is_idle (state_of x)) ≡ true) same s.done in
    subst (IsAnalysed P) (sym same) (record {
      head = refl;
      running = refl;
      legal = legal_too;
      run = subst (λ (x : Story). IsRun P x.journal) same (run_of P d t new n jobs is did g);
      closed = rest_is_closed listing (state_of end) (subst (λ (x : Story). Sound (state_of x)) same sound) rests done;
    })

-- ---- an error while it is settled
head_is : (P : Program) (d t : Story) (n : ℕ) → d ≡ first_story P → Did d t 1 event.Full (reply.StepNo n) → t.head ≡ head_of_one P
head_is P d t n is did = ap (λ (x : Story). x.head) (after_first P d t n is did)

legal_by : (P : Program) (new : Story) → new.head ≡ head_of_one P → IsLegal new.head new.journal → IsLegal (head_of_one P) new.journal
legal_by P new head legal = subst (λ (h : Head). IsLegal h new.journal) head legal

full_by : (P : Program) (new : Story) → new.head ≡ head_of_one P → max_entries < length new.journal + kept_rooms (state_of new) + 1 → max_entries < length new.journal + kept_rooms (state (head_of_one P) new.journal) + 2
full_by P new head full =
    let here : max_entries < length new.journal + kept_rooms (state (head_of_one P) new.journal) + 1 = subst (λ (h : Head). max_entries < length new.journal + kept_rooms (state h new.journal) + 1) head full in
    omega (arith, here)

fills : (P : Program) (d t new : Story) (n count : ℕ) → d ≡ first_story P → Did d t 1 event.Full (reply.StepNo n) → IsLegal new.head new.journal → count ≡ length new.journal → IsFull t new 2 64 → FillsAnalysis P count
fills P d t new n count is did legal counted full = elim full.stands [
  | inl pairs ↦
      let head : new.head ≡ head_of_one P = ap (λ (x : Story). x.head) pairs.1.grown ∙ head_is P d t n is did in record {
        journal = new.journal;
        legal = legal_by P new head legal;
        run = inl (run_of P d t new n pairs.0 is did pairs.1);
        counted = counted;
        full = full_by P new head full.full;
      }
  | inr take_too ↦
      let head : new.head ≡ head_of_one P = ap (λ (x : Story). x.head) take_too.grown ∙ ap (λ (x : Story). x.head) take_too.goes_on.grown ∙ head_is P d t n is did in record {
        journal = new.journal;
        legal = legal_by P new head legal;
        run = inr (take_too.before.journal, take_too.last, run_of P d t take_too.before n take_too.jobs is did take_too.goes_on, take_too.take, ap (λ (x : Story). x.journal) take_too.grown);
        counted = counted;
        full = full_by P new head full.full;
      }
]

pub settle_stops : (P : Program) (d t new : Story) (n : ℕ) (error : DeskError) → d ≡ first_story P → Did d t 1 event.Full (reply.StepNo n) → IsLegal new.head new.journal → StopsShort t new 2 64 error → AnalysisFails P error
settle_stops P d t new n (Refused r) is did legal short = absurd short
settle_stops P d t new n (JournalFull count) is did legal short = fills P d t new n count is did legal short.0 short.1
settle_stops P d t new n (Stopped halt) is did legal short = absurd (none-some halt (sym (ap (λ (x : Story). x.halt) (after_first P d t n is did)) ∙ short.1))
settle_stops P d t new n OutOfMemory is did legal short = tt
