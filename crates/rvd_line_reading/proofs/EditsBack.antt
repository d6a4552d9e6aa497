-- Edits and events are read back, behind which a space and a sign stand. Use `event_law`.
use Rattle.std.proofs.Common.{◌≡◌, ℕ, zero, suc, ◌+◌, ◌/◌, ◌%◌, ◌^◌, ◌<◌, ◌≤◌, Bool, true, false, cond, ◌&&◌, List, [], ◌∷◌, ◌++◌, Some, None, length, codes, refl, ap, ◌∙◌, arith, append_assoc, length-append}
use Rattle.std.specs.Prelude.{nat_eq}
use Rattle.std.specs.List.{AllByRecursion, starts_with}
use Rattle.std.specs.Char.{digit_char}
use Rattle.std.proofs.lemmas.Bool.Decides.{nat_tests}
use Rattle.rvd_text.specs.Hex.{hex8}
use Rattle.rvd_text.specs.Quoted.{quoted}
use Rattle.rvd_fact.specs.declared.keys.Key.{Key}
use Rattle.rvd_fact.specs.Ranges.{AreRangesFrom, is_range_set}
use Rattle.rvd_event.specs.declared.edits.Edit.{Edit}
use Rattle.rvd_event.specs.declared.edits.Edit.TheVariants.{Block, Mark, Func, Body, Label, Ref, Comment, Bookmark, Code, Datum, Clear, Remove, Release}
use Rattle.rvd_notation.specs.Words.{bookmark_word, class_word, comment_word, form_words, perm_word, range_text}
use Rattle.rvd_reading.specs.Steps.{◌>>=◌, Step}
use Rattle.rvd_reading.specs.Lists.{set_of}
use Rattle.rvd_reading.proofs.WordsBack.{class-back}
use Rattle.rvd_reading.proofs.NumbersBack.{hex8-back}
use Rattle.rvd_reading.proofs.TextsBack.{key-back, text-back}
use Rattle.rvd_reading.proofs.FactsBack.{bookmark_type-back, comment_kind-back, form-back, perm-back}
use Rattle.rvd_reading.proofs.ActorsBack.{range-back}
use Rattle.rvd_reading.proofs.SetsBack.{are_ranges}
use Rattle.rvd_journal_text.specs.Edits.{edit_text, range_words}
use Rattle.rvd_line_reading.specs.Edits.{FitsEdit, block_of, body_of, bookmark_of, comment_of, datum_of, edit_of, label_of, next_range_of, range_set_of, range_words_of, ranges_to, ref_of}
use Rattle.rvd_reading.proofs.Flats.{flat3, flat4, flat6}
use Rattle.rvd_reading.proofs.ValuesBack.{all_ends, Ends}

-- what stands behind an event
abbrev pub sign : List ℕ → List ℕ
sign more = codes " = " ++ more

-- ranges have no fewer bytes than there are of them
enough : (rs : List (ℕ × ℕ)) (rest : List ℕ) → length rs ≤ length (range_words rs ++ rest)
enough [] rest = omega arith
enough (r ∷ rs) rest =
    let more = enough rs rest in
    let parts = length-append (range_text r) (range_words rs) in
    let whole = length-append (range_text r ++ range_words rs) rest in
    let rests = length-append (range_words rs) rest in
    omega (arith, more, parts, whole, rests)

-- no digit is the sign
no_sign : (d : ℕ) → d < 16 → nat_eq 61 (digit_char d) ≡ false
no_sign d l = grind (arith, nat_tests)

-- a range, and those behind it
abbrev with_first : ℕ × ℕ → List (ℕ × ℕ) × List ℕ → Step (List (ℕ × ℕ))
with_first r ys = Some (r ∷ ys.0, ys.1)

abbrev then_more : ℕ → (ℕ × ℕ) × List ℕ → Step (List (ℕ × ℕ))
then_more n x = ranges_to n x.1 >>= with_first x.0

next_range-back : (r : ℕ × ℕ) (rest : List ℕ) → Ends r → next_range_of (32 ∷ (range_text r ++ rest)) ≡ Some (r, rest)
unfolding next_range_of
next_range-back r rest ends = range-back r rest ends.0 ends.1

ranges-back : (n : ℕ) (rs : List (ℕ × ℕ)) (more : List ℕ) → length rs ≤ n → AllByRecursion Ends rs → ranges_to n (range_words rs ++ sign more) ≡ Some (rs, sign more)
ranges-back zero [] more l all = refl
ranges-back (suc n) [] more l all = refl
ranges-back zero (r ∷ rs) more l all = absurd (omega arith)
ranges-back (suc n) (r ∷ rs) more l all =
    let rest = range_words rs ++ sign more in
    let bytes : List ℕ = 32 ∷ (range_text r ++ rest) in
    let first : nat_eq 61 (digit_char (r.0 / 0x1000_0000 % 16)) ≡ false = no_sign (r.0 / 0x1000_0000 % 16) (omega arith) in
    let skip : starts_with nat_eq bytes (codes " =") ≡ false = ap (λ (q : Bool). q && true) first in
    ap (λ (bs : List ℕ). ranges_to (suc n) (32 ∷ bs)) (append_assoc (range_text r) (range_words rs) (sign more))
    ∙ ap (λ (q : Bool). cond q (let s : Step (List (ℕ × ℕ)) = Some ([], bytes) in s) (next_range_of bytes >>= then_more n)) skip
    ∙ ap (λ (o : Step (ℕ × ℕ)). o >>= then_more n) (next_range-back r rest all.0)
    ∙ ap (λ (o : Step (List (ℕ × ℕ))). o >>= with_first r) (ranges-back n rs more (omega arith) all.1)

range_set-back : (rs : List (ℕ × ℕ)) (more : List ℕ) → is_range_set rs ≡ true → range_set_of (range_words rs ++ sign more) ≡ Some (rs, sign more)
unfolding range_set_of range_words_of
range_set-back rs more set =
    let ends = all_ends 0 rs (are_ranges rs set) in
    ap (λ (o : Step (List (ℕ × ℕ))). o >>= set_of) (ranges-back (length (range_words rs ++ sign more)) rs more (enough rs (sign more)) ends)
    ∙ ap (λ (q : Bool). cond q (let o : Step (List (ℕ × ℕ)) = Some (rs, sign more) in o) None) set

pub edit-back : (e : Edit) (more : List ℕ) → FitsEdit e → edit_of (edit_text e ++ sign more) ≡ Some (e, sign more)
unfolding edit_of edit_text block_of body_of label_of ref_of comment_of bookmark_of datum_of
edit-back (Block at len perm) more fits =
    let one = hex8-back at (codes " " ++ (hex8 len ++ (codes " " ++ (perm_word perm ++ sign more)))) fits.0 in
    let two = hex8-back len (codes " " ++ (perm_word perm ++ sign more)) fits.1 in
    let three = perm-back perm (sign more) in
    ap edit_of (flat6 (codes "block ") (hex8 at) (codes " ") (hex8 len) (codes " ") (perm_word perm) (sign more)) ∙ (rw (one, two, three) refl)
edit-back (Mark at) more fits = rw (hex8-back at (sign more) fits) refl
edit-back (Func at) more fits = rw (hex8-back at (sign more) fits) refl
edit-back (Body at ranges) more fits =
    let one = hex8-back at (range_words ranges ++ sign more) fits.0 in
    let two = range_set-back ranges more fits.1 in
    ap edit_of (flat3 (codes "body ") (hex8 at) (range_words ranges) (sign more)) ∙ (rw (one, two) refl)
edit-back (Label at name) more fits =
    let one = hex8-back at (codes " " ++ (quoted name ++ sign more)) fits.0 in
    let two = text-back name (sign more) fits.1.0 fits.1.1 in
    ap edit_of (flat4 (codes "label ") (hex8 at) (codes " ") (quoted name) (sign more)) ∙ (rw (one, two) refl)
edit-back (Ref from to class) more fits =
    let one = hex8-back from (codes " " ++ (hex8 to ++ (codes " " ++ (class_word class ++ sign more)))) fits.0 in
    let two = hex8-back to (codes " " ++ (class_word class ++ sign more)) fits.1 in
    let three = class-back class (sign more) in
    ap edit_of (flat6 (codes "ref ") (hex8 from) (codes " ") (hex8 to) (codes " ") (class_word class) (sign more)) ∙ (rw (one, two, three) refl)
edit-back (Comment at sub text) more fits =
    let one = hex8-back at (codes " " ++ (comment_word sub ++ (codes " " ++ (quoted text ++ sign more)))) fits.0 in
    let two = comment_kind-back sub (codes " " ++ (quoted text ++ sign more)) fits.1 refl in
    let three = text-back text (sign more) fits.2.0 fits.2.1 in
    ap edit_of (flat6 (codes "comment ") (hex8 at) (codes " ") (comment_word sub) (codes " ") (quoted text) (sign more)) ∙ (rw (one, two, three) refl)
edit-back (Bookmark at sub text) more fits =
    let one = hex8-back at (codes " " ++ (bookmark_word sub ++ (codes " " ++ (quoted text ++ sign more)))) fits.0 in
    let two = bookmark_type-back sub (codes " " ++ (quoted text ++ sign more)) fits.1 refl in
    let three = text-back text (sign more) fits.2.0 fits.2.1 in
    ap edit_of (flat6 (codes "bookmark ") (hex8 at) (codes " ") (bookmark_word sub) (codes " ") (quoted text) (sign more)) ∙ (rw (one, two, three) refl)
edit-back (Code at) more fits = rw (hex8-back at (sign more) fits) refl
edit-back (Datum at form) more fits =
    let one = hex8-back at (codes " " ++ (form_words form ++ sign more)) fits.0 in
    let two = form-back form (sign more) fits.1 refl in
    ap edit_of (flat4 (codes "data ") (hex8 at) (codes " ") (form_words form) (sign more)) ∙ (rw (one, two) refl)
edit-back (Clear at) more fits = rw (hex8-back at (sign more) fits) refl
edit-back (Remove k at sub) more fits =
    let key : Key = record { at = at; kind = k; sub = sub } in
    rw (key-back key (sign more) fits.0 fits.1 refl) refl
edit-back (Release k at sub) more fits =
    let key : Key = record { at = at; kind = k; sub = sub } in
    rw (key-back key (sign more) fits.0 fits.1 refl) refl
