-- Lines at the front of a text are read back. Use `front_law`; `takes` and `begins` for what a test of the front tells, `no_head`
-- and its like where no head line comes first, and `unread_next` and its like where no entry with a number does.
use Rattle.std.proofs.Common.{◌≡◌, ◌↔◌, ℕ, ◌^◌, ◌<◌, ◌≤◌, Bool, true, false, IsTrue, List, [], ◌∷◌, ◌++◌, length, drop, Some, None, codes, refl, sym, ap, subst, ◌∙◌, arith, append_assoc}
use Rattle.std.specs.Prelude.{nat_eq}
use Rattle.std.specs.List.{starts_with}
use Rattle.std.specs.Fmt.{decimal}
use Rattle.std.proofs.lemmas.Bool.Decides.{Decides-eqb}
use Rattle.std.proofs.lemmas.Slice.Eq.{starts_is}
use Rattle.rvd_event.specs.declared.queries.Names.{Names}
use Rattle.rvd_journal.specs.declared.entries.Entry.{Entry}
use Rattle.rvd_reading.specs.Steps.{without}
use Rattle.rvd_reading.specs.Numbers.{number_of}
use Rattle.rvd_reading.proofs.ListSteps.{without-some}
use Rattle.rvd_reading.proofs.NumbersBack.{number-back}
use Rattle.rvd_journal_text.specs.Lines.{end_line, entry_line, full_line, head_line}
use Rattle.rvd_line_reading.specs.Lines.{IsInRange, bare_entry, entry_of}
use Rattle.rvd_line_reading.specs.Front.{AreNames, BeginsWith, HasNoEntry, HasNoHead, Takes, head_of}
use Rattle.rvd_line_reading.specs.Laws.{FrontLaw}
use Rattle.rvd_line_reading.proofs.BareTexts.{bare_entry-line, bare_entry-range}
use Rattle.rvd_reading.proofs.Flats.{flat5}
use Rattle.rvd_line_reading.proofs.LinesBack.{entry-back}

-- what a test of the front tells
begun : (text front : List ℕ) (r : Bool) → r ≡ starts_with nat_eq text front → (r ≡ true → text ≡ front ++ drop (length front) text) × (BeginsWith text front → r ≡ true)
begun text front r value = let told = starts_is Decides-eqb text front r value in (told.0, λ b. told.1 b.0 b.1)

pub begins : (text front : List ℕ) (r : Bool) → r ≡ starts_with nat_eq text front → IsTrue r ↔ BeginsWith text front
begins text front r value = let told = begun text front r value in ((λ yes. (drop (length front) text, told.0 yes)), told.1)

pub takes : (text front rest : List ℕ) (r : Bool) → r ≡ starts_with nat_eq text front → rest ≡ without front text → Takes text front rest r
takes text front rest true value left = (begun text front true value).0 refl ∙ ap (λ (bs : List ℕ). front ++ bs) (sym (left ∙ without-some front text (sym value)))
takes text front rest false value left = λ b. let yes = (begun text front false value).1 b in absurd (cc)

-- what is read is one part, with one rest
one_step : {A : Type 0} (p q : A × List ℕ) → Some p ≡ Some q → (p.0 ≡ q.0) × (p.1 ≡ q.1)
one_step p q same = let pair : p ≡ q = cc in (ap (λ r. r.0) pair, ap (λ r. r.1) pair)

behind_feed : (x y : List ℕ) → 10 ∷ x ≡ 10 ∷ y → x ≡ y
behind_feed x y same = cc

-- a head line in front is read
head-back : (names : Names) (more : List ℕ) → AreNames names → head_of ((head_line names ++ 10 ∷ []) ++ more) ≡ Some (names, 10 ∷ more)
unfolding head_of head_line
head-back names more are =
    let sessions = are.sessions in
    let workers = are.workers in
    let one = number-back 16 names.sessions (codes " " ++ (decimal names.workers ++ 10 ∷ more)) sessions (omega (arith, sessions)) refl in
    let two = number-back 8 names.workers (10 ∷ more) workers (omega (arith, workers)) refl in
    ap head_of (flat5 (codes "journal 1 ") (decimal names.sessions) (codes " ") (decimal names.workers) (10 ∷ []) more) ∙ (rw (one, two) refl)

-- no head line comes first where none is read, where there are no sessions, or where what is read is spelled otherwise
head_as : (names : Names) (text : List ℕ) → AreNames names → (b : BeginsWith text (head_line names ++ 10 ∷ [])) → head_of text ≡ Some (names, 10 ∷ b.0)
head_as names text are b = ap head_of b.1 ∙ head-back names b.0 are

same_head : (text left : List ℕ) (r names : Names) → head_of text ≡ Some (r, left) → AreNames names → BeginsWith text (head_line names ++ 10 ∷ []) → names ≡ r
same_head text left r names read are b = (one_step (names, 10 ∷ b.0) (r, left) (sym (head_as names text are b) ∙ read)).0

pub unread_head : (text : List ℕ) → head_of text ≡ None → HasNoHead text
unread_head text none names are b = let told = head_as names text are b in absurd (cc)

pub no_sessions : (text left : List ℕ) (r : Names) → head_of text ≡ Some (r, left) → r.sessions ≡ 0 → HasNoHead text
no_sessions text left r read none names are b =
    let some = subst (λ (n : Names). 1 ≤ n.sessions) (same_head text left r names read are b) are.some in
    omega (arith, some, none)

pub other_head : (text left : List ℕ) (r : Names) → head_of text ≡ Some (r, left) → (BeginsWith text (head_line r ++ 10 ∷ []) → ⊥) → HasNoHead text
other_head text left r read other names are b =
    other (subst (λ (n : Names). BeginsWith text (head_line n ++ 10 ∷ [])) (same_head text left r names read are b) b)

-- the line of an entry in front is read
next-back : (names : Names) (number : ℕ) (e : Entry) (more : List ℕ) → number < 2 ^ 64 → IsInRange names e → entry_of names (full_line names (number, e) ++ more) ≡ Some ((number, bare_entry e), 10 ∷ more)
unfolding full_line
next-back names number e more small range =
    ap (entry_of names) (append_assoc (entry_line names number e) (10 ∷ []) more) ∙ entry-back names number e (10 ∷ more) small range refl

-- no line of an entry with a number comes first where none is read, where what is read is out of range, or where it is spelled
-- otherwise
next_as : (names : Names) (number : ℕ) (text : List ℕ) (e : Entry) → number < 2 ^ 64 → IsInRange names e → (b : BeginsWith text (full_line names (number, e))) → entry_of names text ≡ Some ((number, bare_entry e), 10 ∷ b.0)
next_as names number text e small range b = ap (entry_of names) b.1 ∙ next-back names number e b.0 small range

same_next : (names : Names) (number : ℕ) (text left : List ℕ) (r : ℕ × Entry) (e : Entry) → entry_of names text ≡ Some (r, left) → number < 2 ^ 64 → IsInRange names e → BeginsWith text (full_line names (number, e)) → (number, bare_entry e) ≡ r
same_next names number text left r e read small range b = (one_step ((number, bare_entry e), 10 ∷ b.0) (r, left) (sym (next_as names number text e small range b) ∙ read)).0

pub unread_next : (names : Names) (number : ℕ) (text : List ℕ) → number < 2 ^ 64 → entry_of names text ≡ None → HasNoEntry names number text
unread_next names number text small none e range b = let told = next_as names number text e small range b in absurd (cc)

pub out_of_range : (names : Names) (number : ℕ) (text left : List ℕ) (r : ℕ × Entry) → number < 2 ^ 64 → entry_of names text ≡ Some (r, left) → (IsInRange names r.1 → ⊥) → HasNoEntry names number text
out_of_range names number text left r small read out e range b =
    out (subst (λ (s : ℕ × Entry). IsInRange names s.1) (same_next names number text left r e read small range b) (bare_entry-range names e range))

-- with its number, what is left of an entry without the bytes of blocks has the same line
full_line-bare : (names : Names) (number : ℕ) (e : Entry) → full_line names (number, bare_entry e) ≡ full_line names (number, e)
unfolding full_line
full_line-bare names number e = ap (λ (line : List ℕ). line ++ 10 ∷ []) (bare_entry-line names number e)

pub other_entry : (names : Names) (number : ℕ) (text left : List ℕ) (r : ℕ × Entry) → number < 2 ^ 64 → entry_of names text ≡ Some (r, left) → (BeginsWith text (full_line names (number, r.1)) → ⊥) → HasNoEntry names number text
other_entry names number text left r small read other e range b =
    let bare = subst (λ (line : List ℕ). BeginsWith text line) (sym (full_line-bare names number e)) b in
    other (subst (λ (s : ℕ × Entry). BeginsWith text (full_line names (number, s.1))) (same_next names number text left r e read small range b) bare)

-- what is read is without the bytes of blocks
pub read-bare : (names : Names) (number : ℕ) (text left : List ℕ) (r : ℕ × Entry) → number < 2 ^ 64 → entry_of names text ≡ Some (r, left) → IsInRange names r.1 → BeginsWith text (full_line names (number, r.1)) → bare_entry r.1 ≡ r.1
read-bare names number text left r small read range b = ap (λ (s : ℕ × Entry). s.1) (same_next names number text left r r.1 read small range b)

-- two lines at the front of one text
same_heads : (a b : Names) (x y : List ℕ) → AreNames a → AreNames b → (head_line a ++ 10 ∷ []) ++ x ≡ (head_line b ++ 10 ∷ []) ++ y → (a ≡ b) × (x ≡ y)
same_heads a b x y one other same =
    let both = one_step (a, 10 ∷ x) (b, 10 ∷ y) (sym (head-back a x one) ∙ ap head_of same ∙ head-back b y other) in
    (both.0, behind_feed x y both.1)

same_entries : (names : Names) (number : ℕ) (a b : Entry) (x y : List ℕ) → number < 2 ^ 64 → IsInRange names a → IsInRange names b → full_line names (number, a) ++ x ≡ full_line names (number, b) ++ y → (bare_entry a ≡ bare_entry b) × (x ≡ y)
same_entries names number a b x y small one other same =
    let both = one_step ((number, bare_entry a), 10 ∷ x) ((number, bare_entry b), 10 ∷ y) (sym (next-back names number a x small one) ∙ ap (entry_of names) same ∙ next-back names number b y small other) in
    (ap (λ (r : ℕ × Entry). r.1) both.0, behind_feed x y both.1)

-- an end line begins with no number
no_number : (names : Names) (count : ℕ) (y : List ℕ) → entry_of names ((end_line count ++ 10 ∷ []) ++ y) ≡ None
unfolding entry_of number_of
no_number names count y = refl

end-apart : (names : Names) (number : ℕ) (e : Entry) (count : ℕ) (x y : List ℕ) → number < 2 ^ 64 → IsInRange names e → full_line names (number, e) ++ x ≡ (end_line count ++ 10 ∷ []) ++ y → ⊥
end-apart names number e count x y small range same =
    let entry = next-back names number e x small range in
    let none = no_number names count y in
    let line = ap (entry_of names) same in
    absurd (cc)

pub front_law : FrontLaw
front_law = record { head = same_heads; entry = same_entries; bare = full_line-bare; bare_range = bare_entry-range; apart = end-apart }
