-- Lines are read back, behind which nothing or a line feed stands. Use `line_law` for a whole line, `entry-back` for one at the
-- front of a text, and `unread`, `out_of_range` and `spelled_otherwise` where no entry has a line.
use Rattle.std.proofs.Common.{◌≡◌, ℕ, ◌+◌, ◌^◌, ◌<◌, ◌≤◌, true, false, List, [], ◌∷◌, ◌++◌, Option, Some, None, codes, refl, sym, ap, subst, ◌∙◌, arith, append-nil}
use Rattle.std.specs.Fmt.{decimal}
use Rattle.std.proofs.lemmas.Bool.Decides.{nat_tests}
use Rattle.rvd_event.specs.declared.queries.Names.{Names}
use Rattle.rvd_journal.specs.declared.entries.Entry.{Entry}
use Rattle.rvd_notation.specs.Actors.{actor_text}
use Rattle.rvd_reading.specs.Steps.{◌>>=◌, Step}
use Rattle.rvd_reading.specs.Numbers.{begins_with_digit}
use Rattle.rvd_reading.proofs.ActorsBack.{actor-back}
use Rattle.rvd_reading.proofs.NumbersBack.{number-back}
use Rattle.rvd_journal_text.specs.Events.{event_text}
use Rattle.rvd_journal_text.specs.Replies.{reply_text}
use Rattle.rvd_journal_text.specs.Lines.{call_text, entry_line, settled_text}
use Rattle.rvd_line_reading.specs.Replies.{has_ended}
use Rattle.rvd_line_reading.specs.Lines.{FitsSettled, IsInRange, IsNoLine, bare_entry, call_of, entry_of, is_actor, line_of, nothing_behind, settled_of}
use Rattle.rvd_line_reading.specs.Laws.{LineLaw}
use Rattle.rvd_line_reading.proofs.BareTexts.{bare_entry-line, bare_entry-range}
use Rattle.rvd_line_reading.proofs.EventsBack.{event_law}
use Rattle.rvd_line_reading.proofs.RepliesBack.{reply_law}
use Rattle.rvd_reading.proofs.Flats.{flat4, flat5}

-- nothing is left of a line, or its line feed comes first
abbrev pub EndsLine : List ℕ → Type 0
EndsLine [] = Unit {0}
EndsLine (c ∷ cs) = c ≡ 10

no_digit : (rest : List ℕ) → EndsLine rest → begins_with_digit rest ≡ false
no_digit [] end = refl
no_digit (c ∷ cs) end = subst (λ x. begins_with_digit (x ∷ cs) ≡ false) (sym end) refl

settled-back : (settled : Option ℕ) (rest : List ℕ) → FitsSettled settled → EndsLine rest → settled_of (settled_text settled ++ rest) ≡ Some (settled, rest)
settled-back None [] fits end = refl
settled-back None (c ∷ cs) fits end = subst (λ x. settled_of (x ∷ cs) ≡ Some (None, x ∷ cs)) (sym end) refl
settled-back (Some step) rest fits end = rw (number-back 18446744073709551615 step rest (omega (arith, fits)) fits (no_digit rest end)) refl

settled-ends : (settled : Option ℕ) (rest : List ℕ) → EndsLine rest → has_ended (settled_text settled ++ rest) ≡ true
settled-ends None [] end = refl
settled-ends None (c ∷ cs) end = subst (λ x. has_ended (x ∷ cs) ≡ true) (sym end) refl
settled-ends (Some step) rest end = refl

-- the number of a session or a worker
above : (names : Names) (actor : ℕ) → is_actor names actor ≡ true → 0 < actor
above names actor h = grind (arith, nat_tests)

most : (names : Names) (actor : ℕ) → is_actor names actor ≡ true → actor ≤ names.sessions + names.workers
most names actor h = grind (arith, nat_tests)

call-back : (names : Names) (e : Entry) (rest : List ℕ) → IsInRange names e → EndsLine rest → call_of names (call_text names e ++ (settled_text e.settled ++ rest)) ≡ Some (bare_entry e, rest)
unfolding call_of call_text
call-back names e rest range ends =
    let end = settled_text e.settled ++ rest in
    let reply = reply_text e.reply ++ end in
    let sign = codes " = " ++ reply in
    let one = actor-back names e.actor (codes " " ++ (event_text e.event ++ sign)) (above names e.actor range.known) (most names e.actor range.known) range.actor refl in
    let two = event_law.event e.event reply range.event in
    let three = reply_law.reply e.reply end range.reply range.forms (settled-ends e.settled rest ends) in
    let four = settled-back e.settled rest range.settled ends in
    ap (call_of names) (flat5 (actor_text names e.actor) (codes " ") (event_text e.event) (codes " = ") (reply_text e.reply) end) ∙ (rw (one, two, three, four) refl)

pub entry-back : (names : Names) (number : ℕ) (e : Entry) (rest : List ℕ) → number < 2 ^ 64 → IsInRange names e → EndsLine rest → entry_of names (entry_line names number e ++ rest) ≡ Some ((number, bare_entry e), rest)
unfolding entry_of entry_line
entry-back names number e rest small range ends =
    let call = call_text names e ++ (settled_text e.settled ++ rest) in
    let one = number-back 18446744073709551615 number (codes " " ++ call) (omega (arith, small)) small refl in
    let two = call-back names e rest range ends in
    ap (entry_of names) (flat4 (decimal number) (codes " ") (call_text names e) (settled_text e.settled) rest) ∙ (rw (one, two) refl)

line-back : (names : Names) (number : ℕ) (e : Entry) → number < 2 ^ 64 → IsInRange names e → line_of names (entry_line names number e) ≡ Some (number, bare_entry e)
unfolding line_of
line-back names number e small range =
    ap (line_of names) (sym (append-nil (entry_line names number e)))
    ∙ ap (λ (o : Step (ℕ × Entry)). o >>= (λ r. nothing_behind r.0 r.1)) (entry-back names number e [] small range tt)

pub line_law : LineLaw
line_law = record { line = line-back; bare = bare_entry-line }

-- what a line is read as that an entry has
read_as : (names : Names) (line : List ℕ) (number : ℕ) (e : Entry) → number < 2 ^ 64 → IsInRange names e → entry_line names number e ≡ line → line_of names line ≡ Some (number, bare_entry e)
read_as names line number e small range same = subst (λ l. line_of names l ≡ Some (number, bare_entry e)) same (line-back names number e small range)

-- no entry has a line that isn't read, that is read as an entry out of range, or that is spelled otherwise than what it is read as
pub unread : (names : Names) (line : List ℕ) → line_of names line ≡ None → IsNoLine names line
unread names line none number e small range same = let read = read_as names line number e small range same in absurd (cc)

-- what was read is the entry
the_same : (names : Names) (line : List ℕ) (r : ℕ × Entry) (number : ℕ) (e : Entry) → line_of names line ≡ Some r → number < 2 ^ 64 → IsInRange names e → entry_line names number e ≡ line → (number, bare_entry e) ≡ r
the_same names line r number e read small range same = let told = read_as names line number e small range same in cc

pub out_of_range : (names : Names) (line : List ℕ) (r : ℕ × Entry) → line_of names line ≡ Some r → (IsInRange names r.1 → ⊥) → IsNoLine names line
out_of_range names line r read out number e small range same =
    out (subst (λ (s : ℕ × Entry). IsInRange names s.1) (the_same names line r number e read small range same) (bare_entry-range names e range))

pub spelled_otherwise : (names : Names) (line : List ℕ) (r : ℕ × Entry) → line_of names line ≡ Some r → (entry_line names r.0 r.1 ≡ line → ⊥) → IsNoLine names line
spelled_otherwise names line r read other number e small range same =
    other (subst (λ (s : ℕ × Entry). entry_line names s.0 s.1 ≡ line) (the_same names line r number e read small range same) (bare_entry-line names number e ∙ same))
