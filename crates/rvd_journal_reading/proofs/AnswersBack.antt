-- Answers are read back. Use `answer-back`.
use Rattle.std.proofs.Common.{◌≡◌, ℕ, ◌+◌, ◌*◌, ◌/◌, ◌%◌, ◌^◌, ◌<◌, ◌≤◌, Bool, true, false, ◌&&◌, List, [], ◌∷◌, ◌++◌, Option, Some, None, length, codes, refl, ap, subst, ◌∙◌, arith, append_assoc, length-append}
use Rattle.std.specs.Prelude.{flat_map, nat_eq, nat_lt, ◌==◌}
use Rattle.std.specs.List.{AllByRecursion, starts_with}
use Rattle.std.specs.Char.{digit_char}
use Rattle.std.specs.Fmt.{decimal}
use Rattle.std.proofs.lemmas.Bool.{eqb-true, and_parts}
use Rattle.std.proofs.lemmas.Bool.Decides.{nat_tests}
use Rattle.rvd_text.specs.Hex.{hex8}
use Rattle.rvd_text.specs.Quoted.{low_hex}
use Rattle.rvd_text.proofs.Quotes.{hex_back}
use Rattle.rvd_fact.specs.declared.values.RefClass.{RefClass}
use Rattle.rvd_ask.specs.declared.asks.Ask.{Ask}
use Rattle.rvd_ask.specs.declared.asks.Ask.TheVariants as ask
use Rattle.rvd_ask.specs.declared.answers.Answer.{Answer}
use Rattle.rvd_ask.specs.declared.answers.Answer.TheVariants as answer
use Rattle.rvd_ask.specs.Forms.{has_form}
use Rattle.rvd_notation.specs.Words.{class_word, hex2}
use Rattle.rvd_notation.specs.Values.{value_text}
use Rattle.rvd_reading.specs.Steps.{◌>>=◌, Step}
use Rattle.rvd_reading.specs.Fixed.{just}
use Rattle.rvd_reading.specs.Lists.{list_of}
use Rattle.rvd_reading.proofs.WordsBack.{class-back}
use Rattle.rvd_reading.proofs.NumbersBack.{hex8-back, number-back}
use Rattle.rvd_reading.proofs.Choices.{choose-skips, skips}
use Rattle.rvd_reading.proofs.ListsBack.{elements, list-back}
use Rattle.rvd_reading.proofs.ValuesBack.{cell-back}
use Rattle.rvd_reading.proofs.Flats.{flat3, flat5}
use Rattle.rvd_journal_text.specs.Answers.{answer_text, reference_text, references_answer}
use Rattle.rvd_journal_reading.specs.Asks.{FitsAsk, at_of}
use Rattle.rvd_journal_reading.specs.Answers.{FitsAnswer, FitsReference, answer_of, bare_answer, bracket_of, bytes_of, hex2_of, more_references_of, reference_of, references_of, some_bytes_of, some_references_of, start_of}

-- a lower-case digit is no n
no_n : (d : ℕ) → d < 16 → nat_eq 110 (digit_char d) ≡ false
no_n d l = grind (arith, nat_tests)

hex2-back : (b : ℕ) (rest : List ℕ) → b < 256 → hex2_of (hex2 b ++ rest) ≡ Some (b, rest)
hex2-back b rest l =
    ap (λ (o : Option ℕ). o >>= (λ a. low_hex (digit_char (b % 16)) >>= (λ c. let s : Step ℕ = Some (a * 16 + c, rest) in s))) (hex_back (b / 16) (omega arith))
    ∙ ap (λ (o : Option ℕ). o >>= (λ c. let s : Step ℕ = Some (b / 16 * 16 + c, rest) in s)) (hex_back (b % 16) (omega arith))
    ∙ ap (λ (n : ℕ). let s : Step ℕ = Some (n, rest) in s) (omega arith)

bytes-back : (bs rest : List ℕ) → AllByRecursion (λ b. b < 256) bs → bytes_of (length bs) (flat_map hex2 bs ++ rest) ≡ Some (bs, rest)
unfolding bytes_of
bytes-back [] rest all = refl
bytes-back (b ∷ bs) rest all =
    ap (λ (o : Step ℕ). o >>= (λ x. list_of (length bs) [] hex2_of x.1 >>= (λ xs. let s : Step (List ℕ) = Some (x.0 ∷ xs.0, xs.1) in s))) (hex2-back b (flat_map hex2 bs ++ rest) all.0)
    ∙ ap (λ (o : Step (List ℕ)). o >>= (λ xs. let s : Step (List ℕ) = Some (b ∷ xs.0, xs.1) in s)) (bytes-back bs rest all.1)

-- a start, behind which anything may stand
start-back : (at : ℕ) (rest : List ℕ) → at < 2 ^ 32 → starts_with nat_eq (hex8 at ++ rest) (codes "none") ≡ false
start-back at rest l = let first = no_n (at / 0x1000_0000 % 16) (omega arith) in rw first refl

some_start-back : (at : ℕ) (rest : List ℕ) → at < 2 ^ 32 → start_of (hex8 at ++ rest) ≡ Some (answer.At (Some at), rest)
some_start-back at rest l =
    choose-skips ((codes "none", just (answer.At None)) ∷ []) (at_of (λ a. answer.At (Some a))) (hex8 at ++ rest) (start-back at rest l, tt)
    ∙ ap (λ (o : Step ℕ). o >>= (λ n. let s : Step Answer = Some (answer.At (Some n.0), n.1) in s)) (hex8-back at rest l)

-- bytes, of which there is one at least
some_bytes-back : (b : ℕ) (bs rest : List ℕ) → AllByRecursion (λ c. c < 256) (b ∷ bs) → answer_of (ask.Bytes 0 (length (b ∷ bs))) (flat_map hex2 (b ∷ bs) ++ rest) ≡ Some (answer.Bytes (Some (b ∷ bs)), rest)
unfolding answer_of
some_bytes-back b bs rest all =
    let first : nat_eq 110 (digit_char (b / 16)) ≡ false = no_n (b / 16) (omega (arith, all.0)) in
    let skip : starts_with nat_eq (flat_map hex2 (b ∷ bs) ++ rest) (codes "none") ≡ false = rw first refl in
    choose-skips ((codes "none", just (answer.Bytes None)) ∷ []) (some_bytes_of (length (b ∷ bs))) (flat_map hex2 (b ∷ bs) ++ rest) (skip, tt)
    ∙ ap (λ (o : Step (List ℕ)). o >>= (λ x. let s : Step Answer = Some (answer.Bytes (Some x.0), x.1) in s)) (bytes-back (b ∷ bs) rest all)

reference-back : (r : ℕ × RefClass × ℕ) (rest : List ℕ) → FitsReference r → reference_of (reference_text r ++ rest) ≡ Some (r, rest)
unfolding reference_of
reference-back r rest fits =
    let slot : r.0 < 256 = fits.0 in
    let one = number-back 255 r.0 (codes ":" ++ (class_word r.1 ++ (codes ":" ++ (hex8 r.2 ++ rest)))) (omega arith) (omega arith) refl in
    let two = class-back r.1 (codes ":" ++ (hex8 r.2 ++ rest)) in
    let three = hex8-back r.2 rest fits.1 in
    ap reference_of (flat5 (decimal r.0) (codes ":") (class_word r.1) (codes ":") (hex8 r.2) rest) ∙ (rw (one, two, three) refl)

-- a list of references has no more of them than bytes
enough : (rs : List (ℕ × RefClass × ℕ)) (rest : List ℕ) → length rs ≤ length (elements 44 reference_text rs ++ rest)
enough [] rest = omega arith
enough (r ∷ rs) rest =
    let more = enough rs rest in
    let parts = length-append (reference_text r) (elements 44 reference_text rs) in
    let whole = length-append (reference_text r ++ elements 44 reference_text rs) rest in
    let rests = length-append (elements 44 reference_text rs) rest in
    omega (arith, more, parts, whole, rests)

-- a list with a reference in front
abbrev with_first : ℕ × RefClass × ℕ → List (ℕ × RefClass × ℕ) × List ℕ → Step (List (ℕ × RefClass × ℕ))
with_first r ys = Some (r ∷ ys.0, ys.1)

abbrev Follows : List ℕ → Type 0
Follows bytes = Unit {0}

references-back : (rs : List (ℕ × RefClass × ℕ)) (rest : List ℕ) → AllByRecursion FitsReference rs → starts_with nat_eq rest (44 ∷ []) ≡ false → references_of (references_answer rs ++ rest) ≡ Some (rs, rest)
unfolding more_references_of
references-back [] rest all stop = refl
references-back (r ∷ rs) rest all stop =
    let slot : r.0 < 256 = all.0.0 in
    let behind_slot = codes ":" ++ (class_word r.1 ++ (codes ":" ++ (hex8 r.2 ++ (elements 44 reference_text rs ++ rest)))) in
    let more = elements 44 reference_text rs ++ rest in
    let flat : references_answer (r ∷ rs) ++ rest ≡ reference_text r ++ more = append_assoc (reference_text r) (elements 44 reference_text rs) rest in
    let front : reference_text r ++ more ≡ decimal r.0 ++ behind_slot = flat5 (decimal r.0) (codes ":") (class_word r.1) (codes ":") (hex8 r.2) more in
    let one : reference_of (reference_text r ++ more) ≡ Some (r, more) = reference-back r more all.0 in
    let others = list-back 44 reference_text reference_of FitsReference Follows refl (λ m. tt) (λ x m h _. reference-back x m h) (length more) rs rest (enough rs rest) all.1 tt stop in
    let skip : starts_with nat_eq (reference_text r ++ more) (codes "none") ≡ false = ap (λ (bs : List ℕ). starts_with nat_eq bs (codes "none")) front ∙ skips r.0 behind_slot 110 (codes "one") (omega arith) (omega arith) in
    ap references_of flat
    ∙ choose-skips ((codes "none", just []) ∷ []) some_references_of (reference_text r ++ more) (skip, tt)
    ∙ ap (λ (o : Step (ℕ × RefClass × ℕ)). o >>= (λ x. more_references_of x.1 >>= (λ ys. with_first x.0 ys))) one
    ∙ ap (λ (o : Step (List (ℕ × RefClass × ℕ))). o >>= with_first r) others

-- each answer of the ask's form is read back, behind which no comma stands
pub answer-back : (q : Ask) (a : Answer) (rest : List ℕ) → FitsAsk q → has_form q a ≡ true → FitsAnswer a → starts_with nat_eq rest (44 ∷ []) ≡ false → answer_of q (answer_text q a ++ rest) ≡ Some (bare_answer a, rest)
unfolding answer_of answer_text bracket_of
answer-back (ask.Cell k) (answer.Cell None) rest ask_fits form fits stop = refl
answer-back (ask.Cell k) (answer.Cell (Some c)) rest ask_fits form fits stop =
    let one = cell-back k c rest ask_fits.1 fits in
    ap (answer_of (ask.Cell k)) (flat3 (codes "[") (value_text k c) (codes "]") rest) ∙ (rw one refl)
answer-back (ask.Cover at) (answer.At None) rest ask_fits form fits stop = refl
answer-back (ask.Cover at) (answer.At (Some start)) rest ask_fits form fits stop = some_start-back start rest fits
answer-back (ask.Block at) (answer.At None) rest ask_fits form fits stop = refl
answer-back (ask.Block at) (answer.At (Some start)) rest ask_fits form fits stop = some_start-back start rest fits
answer-back (ask.Bytes at len) (answer.Bytes None) rest ask_fits form fits stop = refl
answer-back (ask.Bytes at len) (answer.Bytes (Some [])) rest ask_fits form fits stop =
    let parts = and_parts (nat_lt 0 len) (length {A = ℕ} [] == len) form in
    let none : 0 ≡ len = eqb-true 0 len parts.1 in
    absurd (grind (arith, nat_tests, parts.0, none))
answer-back (ask.Bytes at len) (answer.Bytes (Some (b ∷ bs))) rest ask_fits form fits stop =
    let parts = and_parts (nat_lt 0 len) (length (b ∷ bs) == len) form in
    let count : length (b ∷ bs) ≡ len = eqb-true (length (b ∷ bs)) len parts.1 in
    let Read : ℕ → Type 0 = λ n. answer_of (ask.Bytes 0 n) (flat_map hex2 (b ∷ bs) ++ rest) ≡ Some (answer.Bytes (Some (b ∷ bs)), rest) in
    subst Read count (some_bytes-back b bs rest fits)
answer-back (ask.To at class) (answer.Yes true) rest ask_fits form fits stop = refl
answer-back (ask.To at class) (answer.Yes false) rest ask_fits form fits stop = refl
answer-back (ask.From at) (answer.Refs references) rest ask_fits form fits stop =
    ap (λ (o : Step (List (ℕ × RefClass × ℕ))). o >>= (λ rs. let s : Step Answer = Some (answer.Refs rs.0, rs.1) in s)) (references-back references rest fits stop)
answer-back q a rest ask_fits form fits stop = absurd (cc)
