-- Replies are read back, behind which nothing, a semicolon or a line feed stands. Use `reply_law`.
use Rattle.std.proofs.Common.{◌≡◌, ℕ, zero, suc, ◌^◌, ◌<◌, ◌≤◌, Bool, true, false, cond, List, [], ◌∷◌, ◌++◌, map, length, drop, Some, codes, refl, ap, ◌∙◌, arith, append_assoc, length-append}
use Rattle.std.specs.Prelude.{nat_eq}
use Rattle.std.specs.List.{AllByRecursion, list_all, starts_with}
use Rattle.std.specs.Fmt.{decimal}
use Rattle.std.proofs.lemmas.Bool.{and_parts}
use Rattle.rvd_text.specs.Hex.{hex8}
use Rattle.rvd_ask.specs.declared.asks.Item.{Item}
use Rattle.rvd_event.specs.declared.verdicts.Verdict.{Verdict}
use Rattle.rvd_event.specs.declared.verdicts.Verdict.TheVariants.{Joined, Nothing, Off, Stale, Foreign}
use Rattle.rvd_event.specs.declared.replies.Reply.{Reply}
use Rattle.rvd_event.specs.declared.replies.Reply.TheVariants.{Entry, Changed, Waiting, Committed, RolledBack, StepNo, At, SettledAt, Voided, Closed, Job, Verdicts, Refused}
use Rattle.rvd_event.specs.Verdicts.{has_forms}
use Rattle.rvd_notation.specs.Actors.{analyzer_word}
use Rattle.rvd_reading.specs.Steps.{◌>>=◌, Step}
use Rattle.rvd_reading.specs.Numbers.{begins_with_digit}
use Rattle.rvd_reading.specs.Lists.{list_of}
use Rattle.rvd_reading.proofs.WordsBack.{analyzer-back}
use Rattle.rvd_reading.proofs.NumbersBack.{hex8-back, number-back}
use Rattle.rvd_reading.proofs.ListsBack.{elements, list-back}
use Rattle.rvd_journal_text.specs.Verdicts.{more_verdicts, verdict_text}
use Rattle.rvd_journal_text.specs.Replies.{item_text, item_words, reply_text}
use Rattle.rvd_journal_reading.specs.Verdicts.{FitsVerdict, bare_verdict, verdict_of}
use Rattle.rvd_journal_reading.proofs.RefusalsBack.{refusal_law}
use Rattle.rvd_journal_reading.proofs.VerdictsBack.{verdict_law}
use Rattle.rvd_line_reading.specs.Replies.{FitsItem, FitsReply, are_formed, bare_reply, has_ended, item_of, items_of, more_verdicts_of, reply_of, some_verdicts_of}
use Rattle.rvd_line_reading.specs.Laws.{ReplyLaw}
use Rattle.rvd_line_reading.proofs.Ended.{closing, no_comma, no_digit, no_space}
use Rattle.rvd_reading.proofs.Flats.{flat3}

item-back : (item : Item) (rest : List ℕ) → FitsItem item → item_of (item_text item ++ rest) ≡ Some (item, rest)
unfolding item_of
item-back item rest fits =
    let one = analyzer-back item.analyzer (codes ":" ++ (hex8 item.at ++ rest)) in
    let two = hex8-back item.at rest fits in
    ap item_of (flat3 (analyzer_word item.analyzer) (codes ":") (hex8 item.at) rest) ∙ (rw (one, two) refl)

-- a list has no more elements than bytes
enough : {A : Type 0} (text : A → List ℕ) (xs : List A) (rest : List ℕ) → length xs ≤ length (elements 32 text xs ++ rest)
enough text [] rest = omega arith
enough text (x ∷ xs) rest =
    let more = enough text xs rest in
    let parts = length-append (text x) (elements 32 text xs) in
    let whole = length-append (text x ++ elements 32 text xs) rest in
    let rests = length-append (elements 32 text xs) rest in
    omega (arith, more, parts, whole, rests)

-- what stands behind an element is another one, or what stands behind the list
behind_element : {A : Type 0} (test : List ℕ → Bool) (text : A → List ℕ) → ((more : List ℕ) → test (32 ∷ more) ≡ false) → (xs : List A) (rest : List ℕ) → test rest ≡ false → test (elements 32 text xs ++ rest) ≡ false
behind_element test text between [] rest last = last
behind_element test text between (x ∷ xs) rest last = between ((text x ++ elements 32 text xs) ++ rest)

abbrev Follows : List ℕ → Type 0
Follows bytes = Unit {0}

items-back : (items : List Item) (rest : List ℕ) → AllByRecursion FitsItem items → has_ended rest ≡ true → items_of (item_words items ++ rest) ≡ Some (items, rest)
unfolding items_of
items-back items rest all end =
    list-back 32 item_text item_of FitsItem Follows refl (λ m. tt) (λ x m h _. item-back x m h) (length (item_words items ++ rest)) items rest (enough item_text items rest) all tt (no_space rest end)

job-back : (ticket : ℕ) (items : List Item) (rest : List ℕ) → ticket < 2 ^ 64 → AllByRecursion FitsItem items → has_ended rest ≡ true → reply_of (reply_text (Job ticket items) ++ rest) ≡ Some (Job ticket items, rest)
unfolding reply_of reply_text
job-back ticket items rest small all end =
    let none = behind_element begins_with_digit item_text (λ m. refl) items rest (no_digit rest end) in
    let one = number-back 18446744073709551615 ticket (item_words items ++ rest) (omega arith) small none in
    let two = items-back items rest all end in
    ap reply_of (flat3 (codes "job ") (decimal ticket) (item_words items) rest) ∙ (rw (one, two) refl)

-- a verdict with others behind it
one_verdict : (v : Verdict) (vs : List Verdict) (rest : List ℕ) → has_forms v ≡ true → FitsVerdict v → has_ended rest ≡ true
    → verdict_of (verdict_text v ++ (more_verdicts vs ++ rest)) ≡ Some (bare_verdict v, more_verdicts vs ++ rest)
one_verdict v vs rest forms fits end =
    let digit = behind_element begins_with_digit verdict_text (λ m. refl) vs rest (no_digit rest end) in
    let comma = behind_element (λ bs. starts_with nat_eq bs (codes ",")) verdict_text (λ m. refl) vs rest (no_comma rest end) in
    verdict_law.verdict v (more_verdicts vs ++ rest) forms fits digit comma

-- a list with a verdict in front
abbrev with_first : Verdict → List Verdict × List ℕ → Step (List Verdict)
with_first v vs = Some (v ∷ vs.0, vs.1)

abbrev then_more : ℕ → Verdict × List ℕ → Step (List Verdict)
then_more n v = list_of n (codes " ") verdict_of v.1 >>= with_first v.0

verdicts-back : (n : ℕ) (vs : List Verdict) (rest : List ℕ) → length vs ≤ n → list_all has_forms vs ≡ true → AllByRecursion FitsVerdict vs → has_ended rest ≡ true
    → list_of n (codes " ") verdict_of (more_verdicts vs ++ rest) ≡ Some (map bare_verdict vs, rest)
verdicts-back zero [] rest l forms all end = refl
verdicts-back (suc n) [] rest l forms all end =
    ap (λ (q : Bool). cond q (verdict_of (drop 1 rest) >>= then_more n) (let s : Step (List Verdict) = Some ([], rest) in s)) (no_space rest end)
verdicts-back zero (v ∷ vs) rest l forms all end = absurd (omega arith)
verdicts-back (suc n) (v ∷ vs) rest l forms all end =
    let formed = and_parts (has_forms v) (list_all has_forms vs) forms in
    ap (λ (bs : List ℕ). list_of (suc n) (codes " ") verdict_of (32 ∷ bs)) (append_assoc (verdict_text v) (more_verdicts vs) rest)
    ∙ ap (λ (o : Step Verdict). o >>= then_more n) (one_verdict v vs rest formed.0 all.0 end)
    ∙ ap (λ (o : Step (List Verdict)). o >>= with_first (bare_verdict v)) (verdicts-back n vs rest (omega arith) formed.1 all.1 end)

-- verdicts are no other reply
abbrev in_reply : Step (List Verdict) → Step Reply
in_reply o = o >>= (λ vs. Some (Verdicts vs.0, vs.1))

judged : (v : Verdict) (bytes : List ℕ) → reply_of (verdict_text v ++ bytes) ≡ in_reply (some_verdicts_of (verdict_text v ++ bytes))
unfolding reply_of verdict_text
judged (Joined n) bytes = refl
judged Nothing bytes = refl
judged Off bytes = refl
judged (Stale q a b) bytes = refl
judged (Foreign q a b) bytes = refl

no_verdicts : (rest : List ℕ) → has_ended rest ≡ true → reply_of rest ≡ Some (Verdicts [], rest)
unfolding reply_of
no_verdicts [] end = refl
no_verdicts (c ∷ cs) end = closing (λ x. reply_of (x ∷ cs) ≡ Some (Verdicts [], x ∷ cs)) refl refl c end

some_verdicts-back : (v : Verdict) (vs : List Verdict) (rest : List ℕ) → list_all has_forms (v ∷ vs) ≡ true → AllByRecursion FitsVerdict (v ∷ vs) → has_ended rest ≡ true
    → reply_of (reply_text (Verdicts (v ∷ vs)) ++ rest) ≡ Some (Verdicts (map bare_verdict (v ∷ vs)), rest)
unfolding reply_text more_verdicts_of
some_verdicts-back v vs rest forms all end =
    let formed = and_parts (has_forms v) (list_all has_forms vs) forms in
    let more = more_verdicts vs ++ rest in
    let others = verdicts-back (length more) vs rest (enough verdict_text vs rest) formed.1 all.1 end in
    ap reply_of (append_assoc (verdict_text v) (more_verdicts vs) rest)
    ∙ judged v more
    ∙ ap (λ (o : Step Verdict). in_reply (o >>= (λ x. more_verdicts_of x.1 >>= with_first x.0))) (one_verdict v vs rest formed.0 all.0 end)
    ∙ ap (λ (o : Step (List Verdict)). in_reply (o >>= with_first (bare_verdict v))) others

reply-back : (r : Reply) (rest : List ℕ) → FitsReply r → are_formed r ≡ true → has_ended rest ≡ true → reply_of (reply_text r ++ rest) ≡ Some (bare_reply r, rest)
unfolding reply_of reply_text
reply-back (Entry n) rest fits forms end = rw (number-back 18446744073709551615 n rest (omega (arith, fits)) fits (no_digit rest end)) refl
reply-back (Changed n) rest fits forms end = rw (number-back 4294967295 n rest (omega (arith, fits)) (omega (arith, fits)) (no_digit rest end)) refl
reply-back (Waiting n) rest fits forms end = rw (number-back 4294967295 n rest (omega (arith, fits)) (omega (arith, fits)) (no_digit rest end)) refl
reply-back (Committed n) rest fits forms end = rw (number-back 18446744073709551615 n rest (omega (arith, fits)) fits (no_digit rest end)) refl
reply-back RolledBack rest fits forms end = refl
reply-back (StepNo n) rest fits forms end = rw (number-back 18446744073709551615 n rest (omega (arith, fits)) fits (no_digit rest end)) refl
reply-back (At n) rest fits forms end = rw (number-back 18446744073709551615 n rest (omega (arith, fits)) fits (no_digit rest end)) refl
reply-back (SettledAt n) rest fits forms end = rw (number-back 18446744073709551615 n rest (omega (arith, fits)) fits (no_digit rest end)) refl
reply-back Voided rest fits forms end = refl
reply-back (Closed n) rest fits forms end = rw (number-back 4294967295 n rest (omega (arith, fits)) (omega (arith, fits)) (no_digit rest end)) refl
reply-back (Job ticket items) rest fits forms end = job-back ticket items rest fits.0 fits.1 end
reply-back (Verdicts []) rest fits forms end = no_verdicts rest end
reply-back (Verdicts (v ∷ vs)) rest fits forms end = some_verdicts-back v vs rest forms fits end
reply-back (Refused refusal) rest fits forms end = rw (refusal_law.refusal refusal rest fits (no_digit rest end)) refl

pub reply_law : ReplyLaw
reply_law = record { reply = reply-back }
