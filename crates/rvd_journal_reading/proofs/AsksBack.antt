-- Asks are read back, behind which a space stands.
use Rattle.std.proofs.Common.{◌≡◌, ℕ, List, ◌∷◌, ◌++◌, Some, codes, refl, ap, ◌∙◌, arith, append_assoc}
use Rattle.std.specs.Fmt.{decimal}
use Rattle.rvd_text.specs.Hex.{hex8}
use Rattle.rvd_ask.specs.declared.asks.Ask.{Ask}
use Rattle.rvd_ask.specs.declared.asks.Ask.TheVariants as ask
use Rattle.rvd_notation.specs.Words.{class_word}
use Rattle.rvd_reading.proofs.WordsBack.{class-back}
use Rattle.rvd_reading.proofs.NumbersBack.{hex8-back, number-back}
use Rattle.rvd_reading.proofs.TextsBack.{key-back}
use Rattle.rvd_journal_text.specs.Answers.{ask_text}
use Rattle.rvd_journal_reading.specs.Asks.{FitsAsk, ask_of, bytes_ask_of, to_ask_of}

pub ask-back : (q : Ask) (more : List ℕ) → FitsAsk q → ask_of (ask_text q ++ 32 ∷ more) ≡ Some (q, 32 ∷ more)
unfolding ask_of ask_text bytes_ask_of to_ask_of
ask-back (ask.Cell k) more fits = rw (key-back k (32 ∷ more) fits.0 fits.1 refl) refl
ask-back (ask.Cover at) more fits = rw (hex8-back at (32 ∷ more) fits) refl
ask-back (ask.Block at) more fits = rw (hex8-back at (32 ∷ more) fits) refl
ask-back (ask.Bytes at len) more fits =
    let rest = 32 ∷ more in
    let flat : ask_text (ask.Bytes at len) ++ rest ≡ codes "bytes " ++ (hex8 at ++ (codes " " ++ (decimal len ++ rest))) = simp append_assoc in
    let one = hex8-back at (codes " " ++ (decimal len ++ rest)) fits.0 in
    let two = number-back 65535 len rest (omega (arith, fits.1)) (omega (arith, fits.1)) refl in
    ap ask_of flat ∙ (rw (one, two) refl)
ask-back (ask.To at class) more fits =
    let rest = 32 ∷ more in
    let flat : ask_text (ask.To at class) ++ rest ≡ codes "to " ++ (hex8 at ++ (codes " " ++ (class_word class ++ rest))) = simp append_assoc in
    let one = hex8-back at (codes " " ++ (class_word class ++ rest)) fits in
    let two = class-back class rest in
    ap ask_of flat ∙ (rw (one, two) refl)
ask-back (ask.From at) more fits = rw (hex8-back at (32 ∷ more) fits) refl
