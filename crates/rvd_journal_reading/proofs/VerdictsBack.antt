-- Verdicts are read back. Use `verdict_law`.
use Rattle.std.proofs.Common.{◌≡◌, ℕ, true, false, ◌&&◌, List, [], ◌∷◌, ◌++◌, Some, codes, refl, ap, ◌∙◌, arith}
use Rattle.std.specs.Prelude.{nat_eq}
use Rattle.std.specs.List.{starts_with}
use Rattle.std.proofs.lemmas.Bool.{and_parts}
use Rattle.rvd_ask.specs.declared.asks.Ask.{Ask}
use Rattle.rvd_ask.specs.declared.answers.Answer.{Answer}
use Rattle.rvd_ask.specs.Forms.{has_form}
use Rattle.rvd_event.specs.declared.verdicts.Verdict.{Verdict}
use Rattle.rvd_event.specs.declared.verdicts.Verdict.TheVariants.{Joined, Nothing, Off, Stale, Foreign}
use Rattle.rvd_event.specs.Verdicts.{has_forms}
use Rattle.rvd_reading.specs.Steps.{◌>>=◌, Step}
use Rattle.rvd_reading.specs.Numbers.{begins_with_digit}
use Rattle.rvd_reading.proofs.NumbersBack.{number-back}
use Rattle.rvd_reading.proofs.Flats.{flat5}
use Rattle.rvd_journal_text.specs.Answers.{answer_text, ask_text}
use Rattle.rvd_journal_text.specs.Verdicts.{difference_text, verdict_text}
use Rattle.rvd_journal_reading.specs.Asks.{FitsAsk}
use Rattle.rvd_journal_reading.specs.Answers.{FitsAnswer, bare_answer}
use Rattle.rvd_journal_reading.specs.Verdicts.{FitsVerdict, bare_verdict, difference_of, verdict_of}
use Rattle.rvd_journal_reading.specs.Laws.{VerdictLaw}
use Rattle.rvd_journal_reading.proofs.AsksBack.{ask-back}
use Rattle.rvd_journal_reading.proofs.AnswersBack.{answer-back}

difference-back : (q : Ask) (a b : Answer) (rest : List ℕ) → (has_form q a && has_form q b) ≡ true → FitsAsk q → FitsAnswer a → FitsAnswer b → starts_with nat_eq rest (44 ∷ []) ≡ false
    → difference_of (difference_text q a b ++ rest) ≡ Some ((q, bare_answer a, bare_answer b), rest)
unfolding difference_of
difference-back q a b rest forms ask_fits first_fits second_fits stop =
    let parts = and_parts (has_form q a) (has_form q b) forms in
    let one = ask-back q (answer_text q a ++ (codes " " ++ (answer_text q b ++ rest))) ask_fits in
    let two = answer-back q a (codes " " ++ (answer_text q b ++ rest)) ask_fits parts.0 first_fits refl in
    let three = answer-back q b rest ask_fits parts.1 second_fits stop in
    ap difference_of (flat5 (ask_text q) (codes " ") (answer_text q a) (codes " ") (answer_text q b) rest) ∙ (rw (one, two, three) refl)

verdict-back : (v : Verdict) (rest : List ℕ) → has_forms v ≡ true → FitsVerdict v → begins_with_digit rest ≡ false → starts_with nat_eq rest (44 ∷ []) ≡ false → verdict_of (verdict_text v ++ rest) ≡ Some (bare_verdict v, rest)
unfolding verdict_of verdict_text
verdict-back (Joined n) rest forms fits none stop =
    ap (λ (o : Step ℕ). o >>= (λ m. let s : Step Verdict = Some (Joined m.0, m.1) in s)) (number-back 4294967295 n rest (omega (arith, fits)) (omega (arith, fits)) none)
verdict-back Nothing rest forms fits none stop = refl
verdict-back Off rest forms fits none stop = refl
verdict-back (Stale q a b) rest forms fits none stop =
    ap (λ (o : Step (Ask × Answer × Answer)). o >>= (λ d. let s : Step Verdict = Some (Stale d.0.0 d.0.1 d.0.2, d.1) in s)) (difference-back q a b rest forms fits.0 fits.1 fits.2 stop)
verdict-back (Foreign q a b) rest forms fits none stop =
    ap (λ (o : Step (Ask × Answer × Answer)). o >>= (λ d. let s : Step Verdict = Some (Foreign d.0.0 d.0.1 d.0.2, d.1) in s)) (difference-back q a b rest forms fits.0 fits.1 fits.2 stop)

pub verdict_law : VerdictLaw
verdict_law = record { verdict = verdict-back }
