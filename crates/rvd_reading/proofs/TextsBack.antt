-- Quoted texts and keys are read back. Use `text_law`.
use Rattle.std.proofs.Common.{◌≡◌, ℕ, suc, ◌+◌, ◌/◌, ◌%◌, ◌^◌, ◌<◌, ◌≤◌, true, false, List, [], ◌∷◌, ◌++◌, Option, Some, length, take, drop, codes, refl, ap, ◌∙◌, arith, append_assoc, length-append}
use Rattle.std.specs.Prelude.{◌==◌, flat_map, nat_le}
use Rattle.std.specs.List.{All, AllByRecursion}
use Rattle.std.specs.Char.{digit_char}
use Rattle.std.specs.Fmt.{decimal}
use Rattle.std.proofs.Math.Seq.{take-append_seam, drop-append_seam}
use Rattle.std.proofs.lemmas.Bool.Decides.{nat_tests}
use Rattle.std.proofs.lemmas.Bool.{cond_both}
use Rattle.rvd_text.specs.Hex.{hex8}
use Rattle.rvd_text.specs.Quoted.{is_plain, quoted, spelled, text_of}
use Rattle.rvd_text.proofs.Quotes.{text_of-quoted, plain_not, by_recursion}
use Rattle.rvd_fact.specs.declared.keys.Key.{Key}
use Rattle.rvd_notation.specs.Words.{key_text, kind_word}
use Rattle.rvd_reading.specs.Steps.{◌>>=◌}
use Rattle.rvd_reading.specs.Numbers.{begins_with_digit}
use Rattle.rvd_reading.specs.Quotes.{quote_len, quoted_len, quoted_of, short}
use Rattle.rvd_reading.specs.Keys.{key_of}
use Rattle.rvd_reading.specs.Laws.{TextLaw}
use Rattle.rvd_reading.proofs.WordsBack.{kind-back}
use Rattle.rvd_reading.proofs.NumbersBack.{hex8-back, number-back}

-- a byte that neither is a quote nor a backslash is passed over
passes : (c : ℕ) (cs : List ℕ) → (c == 34) ≡ false → (c == 92) ≡ false → quote_len false (c ∷ cs) ≡ suc (quote_len false cs)
passes c cs quote backslash = rw (quote, backslash) refl

digit_not : (d : ℕ) → d < 16 → ((digit_char d == 34) ≡ false) × ((digit_char d == 92) ≡ false)
digit_not d l = (grind (arith, nat_tests), grind (arith, nat_tests))

-- the spelling of a byte has no closing quote
abbrev Passed : List ℕ → List ℕ → Type 0
Passed cs piece = quote_len false (piece ++ cs) ≡ length piece + quote_len false cs

pass_digits : (h l : ℕ) (cs : List ℕ) → h < 16 → l < 16 → Passed cs (92 ∷ 120 ∷ digit_char h ∷ digit_char l ∷ [])
pass_digits h l cs small low =
    let first = passes (digit_char h) (digit_char l ∷ cs) (digit_not h small).0 (digit_not h small).1 in
    let second = passes (digit_char l) cs (digit_not l low).0 (digit_not l low).1 in
    ap (λ (n : ℕ). suc (suc n)) (first ∙ ap suc second) ∙ omega arith

pass_spelled : (b : ℕ) (cs : List ℕ) → b < 256 → Passed cs (spelled b)
pass_spelled b cs l =
    cond_both (is_plain b) _ _ (Passed cs) (λ p. passes b cs (plain_not b p).0 (plain_not b p).1 ∙ omega arith) (λ _.
    cond_both (b == 34) _ _ (Passed cs) (λ _. omega arith) (λ _.
    cond_both (b == 92) _ _ (Passed cs) (λ _. omega arith) (λ _.
    cond_both (b == 10) _ _ (Passed cs) (λ _. omega arith) (λ _.
    cond_both (b == 9) _ _ (Passed cs) (λ _. omega arith) (λ _. pass_digits (b / 16) (b % 16) cs (omega arith) (omega arith))))))

pass_text : (text cs : List ℕ) → AllByRecursion (λ b. b < 256) text → quote_len false (flat_map spelled text ++ cs) ≡ length (flat_map spelled text) + quote_len false cs
pass_text [] cs h = omega arith
pass_text (b ∷ bs) cs h =
    ap (quote_len false) (append_assoc (spelled b) (flat_map spelled bs) cs)
    ∙ pass_spelled b (flat_map spelled bs ++ cs) h.0
    ∙ ap (λ (n : ℕ). length (spelled b) + n) (pass_text bs cs h.1)
    ∙ omega (arith, length-append (spelled b) (flat_map spelled bs))

-- a quoted text ends with its closing quote
quoted_len-quoted : (text rest : List ℕ) → All (λ b. b < 256) text → quoted_len (quoted text ++ rest) ≡ length (quoted text)
quoted_len-quoted text rest h =
    ap suc (ap (quote_len false) (append_assoc (flat_map spelled text) (34 ∷ []) rest) ∙ pass_text text (34 ∷ rest) (by_recursion text h))
    ∙ omega (arith, length-append (flat_map spelled text) (34 ∷ []))

short_text : (text : List ℕ) → length text ≤ 1000 → short text ≡ Some text
short_text text l = let fits : nat_le (length text) 1000 ≡ true = grind (arith, nat_tests) in rw fits refl

pub text-back : (text rest : List ℕ) → All (λ b. b < 256) text → length text ≤ 1000 → quoted_of (quoted text ++ rest) ≡ Some (text, rest)
unfolding quoted_of
text-back text rest bytes l =
    let len = quoted_len-quoted text rest bytes in
    let read = text_of-quoted text bytes in
    let fits = short_text text l in
    ap (λ (n : ℕ). text_of (take n (quoted text ++ rest)) >>= (λ t. short t >>= (λ s. Some (s, drop n (quoted text ++ rest))))) len
    ∙ ap (λ (t : List ℕ). text_of t >>= (λ t. short t >>= (λ s. Some (s, drop (length (quoted text)) (quoted text ++ rest))))) (take-append_seam (quoted text) rest)
    ∙ ap (λ (o : Option (List ℕ)). o >>= (λ t. short t >>= (λ s. Some (s, drop (length (quoted text)) (quoted text ++ rest))))) read
    ∙ ap (λ (o : Option (List ℕ)). o >>= (λ s. Some (s, drop (length (quoted text)) (quoted text ++ rest)))) fits
    ∙ ap (λ (d : List ℕ). Some (text, d)) (drop-append_seam (quoted text) rest)

pub key-back : (k : Key) (rest : List ℕ) → k.at < 2 ^ 32 → k.sub < 256 → begins_with_digit rest ≡ false → key_of (key_text k ++ rest) ≡ Some (k, rest)
unfolding key_of
key-back k rest at sub none =
    let flat : key_text k ++ rest ≡ kind_word k.kind ++ (codes " " ++ (hex8 k.at ++ (codes " " ++ (decimal k.sub ++ rest)))) = simp append_assoc in
    let kind = kind-back k.kind (codes " " ++ (hex8 k.at ++ (codes " " ++ (decimal k.sub ++ rest)))) in
    let place = hex8-back k.at (codes " " ++ (decimal k.sub ++ rest)) at in
    let number = number-back 255 k.sub rest (omega arith) (omega arith) none in
    rw (flat, kind, place, number) refl

pub text_law : TextLaw
text_law = record { text = text-back; key = key-back }
