-- Where a text differs from all journals. Use `no_journal`: a text that differs at a line begins with the
-- text of no journal; and `headless` where it begins with no head line.
use Rattle.std.proofs.Common.{◌≡◌, ℕ, ◌+◌, ◌^◌, ◌<◌, ◌≤◌, List, [], ◌∷◌, ◌++◌, length, sym, ap, ◌∙◌, subst, arith, inl, inr, append_assoc}
use Rattle.std.specs.List.{AllByRecursion, enumerate_from}
use Rattle.rvd_fact.specs.Program.{Program}
use Rattle.rvd_event.specs.declared.queries.Names.{Names}
use Rattle.rvd_journal.specs.declared.entries.Entry.{Entry}
use Rattle.rvd_journal_text.specs.Lines.{end_line, entry_lines, full_line, head_line}
use Rattle.rvd_line_reading.specs.Front.{BeginsWith, HasNoHead}
use Rattle.rvd_line_reading.specs.Laws.{FrontLaw}
use Rattle.rvd_line_reading.specs.Lines.{IsInRange, bare_entry}
use Rattle.rvd_machine.specs.State.{State}
use Rattle.rvd_machine.specs.Steps.{AreSteps, Head, IsLegal, IsStep, LegalIsBounded, after, max_entries, start_of, state, state_from}
use Rattle.rvd_machine.specs.Rooms.{LegalKeepsRooms}
use Rattle.rvd_replay.specs.Replayed.{DiffersAt, DiffersBehind, HasNoJournal, IsJournalOf, head_for}
use Rattle.rvd_replay.proofs.BareSteps.{bare_after}
use Rattle.rvd_replay.proofs.Texts.{journal_first}

-- a legal journal has at most so many entries
few_entries : LegalIsBounded → LegalKeepsRooms → (h : Head) (J : List Entry) → IsLegal h J → length J ≤ max_entries
few_entries bounded rooms h J legal = let b = bounded h J legal in let r = rooms h J legal in omega (arith, b.count, r)

-- entries whose lines tell the same lead to the same state
alike : (s : State) (e f : Entry) → bare_entry e ≡ bare_entry f → after s e ≡ after s f
alike s e f same = sym (bare_after s e) ∙ ap (after s) same ∙ bare_after s f

-- two journals with the same text in front: where the one ends, neither the end line nor another entry follows
module _ (law : FrontLaw) (names : Names) (rest tail : List ℕ) (last : ℕ) where
  abbrev IsClash : State → ℕ → List Entry → Type 0
  IsClash s number before =
      (BeginsWith rest (end_line (number + length before) ++ 10 ∷ []) → ⊥)
      × ((e : Entry) → IsInRange names e → IsStep (state_from s before) e → BeginsWith rest (full_line names (number + length before + 1, e)) → ⊥)

  abbrev lines_of : ℕ → List Entry → List ℕ
  lines_of number entries = entry_lines names (enumerate_from (number + 1) entries)

  clash : (s : State) (number : ℕ) (J K : List Entry) → number + length J < 2 ^ 64 → AllByRecursion (IsInRange names) J → AllByRecursion (IsInRange names) K
      → AreSteps s K → last ≡ number + length K → lines_of number J ++ rest ≡ lines_of number K ++ ((end_line last ++ 10 ∷ []) ++ tail) → IsClash s number J → ⊥
  clash s number [] [] small range ranges steps at same differs =
      let here : last ≡ number + 0 = at in
      differs.0 (tail, same ∙ ap (λ (n : ℕ). (end_line n ++ 10 ∷ []) ++ tail) here)
  clash s number [] (f ∷ K) small range ranges steps at same differs =
      let here : number + 1 ≡ number + 0 + 1 = omega arith in
      differs.1 f ranges.0 steps.0 (
        lines_of (number + 1) K ++ ((end_line last ++ 10 ∷ []) ++ tail),
        same ∙ append_assoc (full_line names (number + 1, f)) (lines_of (number + 1) K) ((end_line last ++ 10 ∷ []) ++ tail)
            ∙ ap (λ (n : ℕ). full_line names (n, f) ++ (lines_of (number + 1) K ++ ((end_line last ++ 10 ∷ []) ++ tail))) here,
      )
  clash s number (e ∷ J) [] small range ranges steps at same differs =
      law.apart names (number + 1) e last (lines_of (number + 1) J ++ rest) tail (omega (arith, small)) range.0
      (sym (append_assoc (full_line names (number + 1, e)) (lines_of (number + 1) J) rest) ∙ same)
  clash s number (e ∷ J) (f ∷ K) small range ranges steps at same differs =
      let told = law.entry names (number + 1) e f (lines_of (number + 1) J ++ rest) (lines_of (number + 1) K ++ ((end_line last ++ 10 ∷ []) ++ tail)) (omega (arith, small)) range.0 ranges.0
      (sym (append_assoc (full_line names (number + 1, e)) (lines_of (number + 1) J) rest) ∙ same
      ∙ append_assoc (full_line names (number + 1, f)) (lines_of (number + 1) K) ((end_line last ++ 10 ∷ []) ++ tail)) in
      let state_is : after s e ≡ after s f = alike s e f told.0 in
      let more : number + length (e ∷ J) ≡ number + 1 + length J = omega arith in
      clash (after s f) (number + 1) J K (omega (arith, small)) range.1 ranges.1 steps.1 (omega (arith, at)) told.1
      (subst (λ (x : State × ℕ). (BeginsWith rest (end_line x.1 ++ 10 ∷ []) → ⊥)
      × ((z : Entry) → IsInRange names z → IsStep (state_from x.0 J) z → BeginsWith rest (full_line names (x.1 + 1, z)) → ⊥))
      (ap (λ (t : State). (t, number + length (e ∷ J))) state_is ∙ ap (λ (n : ℕ). (after s f, n)) more) differs)

no_journal_behind : FrontLaw → LegalIsBounded → LegalKeepsRooms → (P : Program) (text : List ℕ) (line : ℕ) → DiffersBehind P text line → HasNoJournal P text
no_journal_behind law bounded rooms P text line d names K journal begins =
    let lines = entry_lines names (enumerate_from 1 K) ++ ((end_line (length K) ++ 10 ∷ []) ++ begins.0) in
    let before = entry_lines d.names (enumerate_from 1 d.before) in
    let told = law.head d.names names (before ++ d.rest) lines d.journal.known journal.known
    (sym (append_assoc (head_line d.names ++ 10 ∷ []) before d.rest) ∙ sym d.is_text ∙ begins.1 ∙ journal_first names K begins.0) in
    let its = subst (λ (n : Names). IsJournalOf P n K) (sym told.0) journal in
    let same = told.1 ∙ ap (λ (n : Names). entry_lines n (enumerate_from 1 K) ++ ((end_line (length K) ++ 10 ∷ []) ++ begins.0)) (sym told.0) in
    let few = few_entries bounded rooms (head_for P d.names) d.before d.journal.legal in
    let from_none : length d.before ≡ 0 + length d.before = omega arith in
    let differs = subst (λ (n : ℕ). (BeginsWith d.rest (end_line n ++ 10 ∷ []) → ⊥)
    × ((e : Entry) → IsInRange d.names e → IsStep (state (head_for P d.names) d.before) e → BeginsWith d.rest (full_line d.names (n + 1, e)) → ⊥)) from_none (d.no_end, d.no_step) in
    clash law d.names d.rest begins.0 (length K) (start_of (head_for P d.names)) 0 d.before K (omega (arith, few)) d.journal.range its.range its.legal.steps (omega arith) same differs

-- nor with the head line of a journal
pub headless : (P : Program) (text : List ℕ) → HasNoHead text → HasNoJournal P text
headless P text none names K journal begins =
    let lines = entry_lines names (enumerate_from 1 K) ++ ((end_line (length K) ++ 10 ∷ []) ++ begins.0) in
    none names journal.known (lines, begins.1 ∙ journal_first names K begins.0)

pub no_journal : FrontLaw → LegalIsBounded → LegalKeepsRooms → (P : Program) (text : List ℕ) (line : ℕ) → DiffersAt P text line → HasNoJournal P text
no_journal law bounded rooms P text line (inl d) = headless P text d.1
no_journal law bounded rooms P text line (inr d) = no_journal_behind law bounded rooms P text line d
