-- The lines that a desk has replayed. Use `replays_none` for the start, `went_on` for what became of
-- the next line, `replays_more` for one more line, and `is_done` and `differs_here` for the two ends.
use Rattle.std.proofs.Common.{◌≡◌, ℕ, ◌+◌, ◌^◌, ◌<◌, Bool, true, false, Result, Ok, Err, List, [], ◌∷◌, ◌++◌, length, None, refl, sym, ap, ◌∙◌, subst, arith, inr, append_assoc, length-append}
use Rattle.std.specs.Prelude.{IfOk}
use Rattle.std.specs.List.{AllByRecursion, enumerate_from}
use Rattle.std.proofs.lemmas.List.{append-nil}
use Rattle.rvd_fact.specs.Program.{Program}
use Rattle.rvd_fact.specs.Valid.{IsValid}
use Rattle.rvd_event.specs.declared.queries.Names.{Names}
use Rattle.rvd_journal.specs.declared.entries.Entry.{Entry}
use Rattle.rvd_journal_text.specs.Lines.{end_line, entry_line, entry_lines, full_line, head_line}
use Rattle.rvd_line_reading.specs.Front.{AreNames, BeginsWith, IsNextEntry}
use Rattle.rvd_line_reading.specs.Laws.{FrontLaw}
use Rattle.rvd_line_reading.specs.Lines.{IsInRange}
use Rattle.rvd_machine.specs.Steps.{Head, IsStep, state}
use Rattle.rvd_machine.proofs.Journals.{legal-push}
use Rattle.rvd_desk.specs.Admission.{AdmittedBy}
use Rattle.rvd_desk.specs.Story.{Story, state_of}
use Rattle.rvd_replay.specs.Replayed.{DiffersAt, IsReplayed, head_for}
use Rattle.rvd_replay.specs.Replaying.{FindsNone, GoesOn, Replays, TakesLine}
use Rattle.rvd_replay.specs.Steps.{BareIsStep}
use Rattle.rvd_replay.proofs.Texts.{journal_first}

pub replays_none : (P : Program) (names : Names) (lines : List ℕ) (d : Story) → AreNames names → IsValid P → d ≡ record { head = head_for P names; journal = []; halt = None } → Replays P names lines d lines
replays_none P names lines d known valid at_start = subst (λ (x : Story). Replays P names lines x lines) (sym at_start) (record {
  head = refl;
  running = refl;
  journal = record { known = known; legal = record { valid = valid; sessions = (known.some, known.sessions); workers = known.workers; steps = tt }; range = tt };
  read = refl;
})

all-push : {A : Type 0} (Q : A → Type 0) (xs : List A) (x : A) → AllByRecursion Q xs → Q x → AllByRecursion Q (xs ++ x ∷ [])
all-push Q [] x all one = (one, tt)
all-push Q (y ∷ xs) x all one = (all.0, all-push Q xs x all.1 one)

-- the lines of a journal with one more entry
lines-push : (names : Names) (number : ℕ) (J : List Entry) (e : Entry) (rest : List ℕ)
    → entry_lines names (enumerate_from (number + 1) (J ++ e ∷ [])) ++ rest ≡ entry_lines names (enumerate_from (number + 1) J) ++ (full_line names (number + length J + 1, e) ++ rest)
lines-push names number [] e rest =
    let here : number + 1 ≡ number + 0 + 1 = omega arith in
    ap (λ (t : List ℕ). t ++ rest) (append-nil (full_line names (number + 1, e))) ∙ ap (λ (n : ℕ). full_line names (n, e) ++ rest) here
lines-push names number (x ∷ J) e rest =
    let line = full_line names (number + 1, x) in
    let there : number + 1 + length J + 1 ≡ number + length (x ∷ J) + 1 = omega arith in
    append_assoc line (entry_lines names (enumerate_from (number + 1 + 1) (J ++ e ∷ []))) rest
    ∙ ap (λ (t : List ℕ). line ++ t) (lines-push names (number + 1) J e rest ∙ ap (λ (n : ℕ). entry_lines names (enumerate_from (number + 1 + 1) J) ++ (full_line names (n, e) ++ rest)) there)
    ∙ sym (append_assoc line (entry_lines names (enumerate_from (number + 1 + 1) J)) (full_line names (number + length (x ∷ J) + 1, e) ++ rest))

lines-push_first : (names : Names) (J : List Entry) (e : Entry) (rest : List ℕ)
    → entry_lines names (enumerate_from 1 (J ++ e ∷ [])) ++ rest ≡ entry_lines names (enumerate_from 1 J) ++ (full_line names (length J + 1, e) ++ rest)
lines-push_first names J e rest =
    let here : 0 + length J + 1 ≡ length J + 1 = omega arith in
    lines-push names 0 J e rest ∙ ap (λ (n : ℕ). entry_lines names (enumerate_from 1 J) ++ (full_line names (n, e) ++ rest)) here

pub replays_more : (P : Program) (names : Names) (lines : List ℕ) (d new : Story) (text rest : List ℕ) → Replays P names lines d text → TakesLine names d new text rest → Replays P names lines new rest
replays_more P names lines d new text rest r t =
    let step : IsStep (state (head_for P names) d.journal) t.entry = subst (λ (h : Head). IsStep (state h d.journal) t.entry) r.head t.step in
    subst (λ (x : Story). Replays P names lines x rest) (sym t.grown) (record {
      head = r.head;
      running = r.running;
      journal = record { known = r.journal.known; legal = legal-push (head_for P names) d.journal t.entry r.journal.legal step; range = all-push (IsInRange names) d.journal t.entry r.journal.range t.range };
      read = r.read ∙ ap (λ (u : List ℕ). entry_lines names (enumerate_from 1 d.journal) ++ u) t.line ∙ sym (lines-push_first names d.journal t.entry rest);
    })

-- what is left gets shorter with each line
pub shorter : (names : Names) (d new : Story) (text rest : List ℕ) → TakesLine names d new text rest → length rest < length text
unfolding full_line
shorter names d new text rest t =
    let lengths = ap length t.line ∙ length-append (full_line names (length d.journal + 1, t.entry)) rest in
    let line = length-append (entry_line names (length d.journal + 1) t.entry) (10 ∷ []) in
    omega (arith, lengths, line)

pub is_done : (P : Program) (names : Names) (lines : List ℕ) (d : Story) (rest text : List ℕ) → Replays P names lines d rest → BeginsWith rest (end_line (length d.journal) ++ 10 ∷ []) → text ≡ head_line names ++ 10 ∷ [] ++ lines
    → IsReplayed P text d
is_done P names lines d rest text r end is = record {
  names = names;
  head = r.head;
  running = r.running;
  journal = r.journal;
  begins = (
    end.0,
    is
        ∙ ap (λ (t : List ℕ). (head_line names ++ 10 ∷ []) ++ t) (r.read ∙ ap (λ (t : List ℕ). entry_lines names (enumerate_from 1 d.journal) ++ t) end.1)
        ∙ sym (journal_first names d.journal end.0),
  );
}

pub differs_here : (P : Program) (names : Names) (lines : List ℕ) (d new : Story) (rest text : List ℕ) (line : ℕ) → Replays P names lines d rest → (BeginsWith rest (end_line (length d.journal) ++ 10 ∷ []) → ⊥) → FindsNone names d new rest
    → line ≡ length d.journal + 2 → text ≡ head_line names ++ 10 ∷ [] ++ lines → DiffersAt P text line
differs_here P names lines d new rest text line r no_end none number is = inr (record {
  names = names;
  before = d.journal;
  journal = r.journal;
  number = number;
  rest = rest;
  is_text = is ∙ ap (λ (t : List ℕ). (head_line names ++ 10 ∷ []) ++ t) r.read ∙ sym (append_assoc (head_line names ++ 10 ∷ []) (entry_lines names (enumerate_from 1 d.journal)) rest);
  no_end = no_end;
  no_step = subst (λ (h : Head). (e : Entry) → IsInRange names e → IsStep (state h d.journal) e → BeginsWith rest (full_line names (length d.journal + 1, e)) → ⊥) r.head none.no_step;
})

-- ---- an entry that was read is a step exactly where some entry with this line is one
goes_on : FrontLaw → BareIsStep → (b : Bool) (names : Names) (d new : Story) (text rest : List ℕ) (number : ℕ) (e : Entry) → number ≡ length d.journal + 1 → number < 2 ^ 64 → IsNextEntry names number text rest e
    → AdmittedBy b d new e → GoesOn b names d new text rest
goes_on law bare true names d new text rest number e is small next admitted = record {
  entry = e;
  range = next.range;
  line = subst (λ (n : ℕ). text ≡ full_line names (n, e) ++ rest) is next.line;
  step = admitted.0;
  grown = admitted.1;
}
goes_on law bare false names d new text rest number e is small next admitted = record {
  same = admitted.1;
  no_step = λ f range step begins.
      let its = subst (λ (n : ℕ). BeginsWith text (full_line names (n, f))) (sym is) begins in
      let told = law.entry names number e f rest its.0 small next.range range (sym next.line ∙ its.1) in
      admitted.0 (subst (λ (x : Entry). IsStep (state_of d) x) (sym told.0 ∙ next.bare) ((bare (state_of d) f).0 step));
}

pub went_on : {E : Type 0} → FrontLaw → BareIsStep → (r : Result Bool E) (names : Names) (d new : Story) (text rest : List ℕ) (number : ℕ) (e : Entry) → number ≡ length d.journal + 1 → number < 2 ^ 64 → IsNextEntry names number text rest e
    → IfOk r (λ (b : Bool). AdmittedBy b d new e) → IfOk r (λ (b : Bool). GoesOn b names d new text rest)
went_on law bare (Ok b) names d new text rest number e is small next admitted = goes_on law bare b names d new text rest number e is small next admitted
went_on law bare (Err error) names d new text rest number e is small next admitted = tt
