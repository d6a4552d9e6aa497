-- Parts of facts are read back: permissions, forms, and the kinds of comments and types of bookmarks.
use Rattle.std.proofs.Common.{◌≡◌, ℕ, ◌<◌, Bool, true, false, List, ◌++◌, Option, Some, codes, refl, sym, ap, ◌∙◌, arith}
use Rattle.std.specs.Prelude.{◌==◌}
use Rattle.std.specs.Fmt.{decimal}
use Rattle.std.proofs.lemmas.Bool.{cond_both, eqb-true}
use Rattle.rvd_fact.specs.declared.values.Form.{Form}
use Rattle.rvd_fact.specs.declared.values.Form.TheVariants.{Byte, Half, Word, Str}
use Rattle.rvd_fact.specs.declared.values.Perm.{Perm}
use Rattle.rvd_notation.specs.Words.{bookmark_word, comment_word, form_words, perm_word}
use Rattle.rvd_reading.specs.Steps.{◌>>=◌}
use Rattle.rvd_reading.specs.Numbers.{begins_with_digit, number_of}
use Rattle.rvd_reading.specs.Facts.{FitsForm, bookmark_type_of, bookmark_types, comment_kind_of, comment_kinds, form_of, perm_of}
use Rattle.rvd_reading.specs.Laws.{FactLaw}
use Rattle.rvd_reading.proofs.NumbersBack.{number-back}
use Rattle.rvd_reading.proofs.Choices.{choose-skips, skips}

flags-back : (r w x : Bool) (rest : List ℕ) → perm_of (perm_word (record { r = r; w = w; x = x }) ++ rest) ≡ Some (record { r = r; w = w; x = x }, rest)
unfolding perm_of
flags-back true true true rest = refl
flags-back true true false rest = refl
flags-back true false true rest = refl
flags-back true false false rest = refl
flags-back false true true rest = refl
flags-back false true false rest = refl
flags-back false false true rest = refl
flags-back false false false rest = refl

pub perm-back : (p : Perm) (rest : List ℕ) → perm_of (perm_word p ++ rest) ≡ Some (p, rest)
perm-back p rest = flags-back p.r p.w p.x rest

pub form-back : (f : Form) (rest : List ℕ) → FitsForm f → begins_with_digit rest ≡ false → form_of (form_words f ++ rest) ≡ Some (f, rest)
unfolding form_of
form-back Byte rest fits none = refl
form-back Half rest fits none = refl
form-back Word rest fits none = refl
form-back (Str n) rest fits none = ap (λ (o : Option (ℕ × List ℕ)). o >>= (λ m. Some (Str m.0, m.1))) (number-back 65535 n rest (omega arith) (omega arith) none)

comment_number : (sub : ℕ) (rest : List ℕ) → sub < 256 → begins_with_digit rest ≡ false → comment_kind_of (decimal sub ++ rest) ≡ Some (sub, rest)
unfolding comment_kind_of
comment_number sub rest small none =
    let skip = λ (w : ℕ) (ws : List ℕ) (l : 57 < w). skips sub rest w ws (omega arith) l in
    choose-skips comment_kinds (number_of 255) (decimal sub ++ rest) (skip 112 (codes "late") (omega arith), (skip 112 (codes "re") (omega arith), (skip 101 (codes "ol") (omega arith), (skip 112 (codes "ost") (omega arith), (skip 114 (codes "epeatable") (omega arith), tt)))))
    ∙ number-back 255 sub rest (omega arith) (omega arith) none

pub comment_kind-back : (sub : ℕ) (rest : List ℕ) → sub < 256 → begins_with_digit rest ≡ false → comment_kind_of (comment_word sub ++ rest) ≡ Some (sub, rest)
unfolding comment_kind_of
comment_kind-back sub rest small none =
    let Read : List ℕ → Type 0 = λ w. comment_kind_of (w ++ rest) ≡ Some (sub, rest) in
    let told = λ (n : ℕ) (h : (sub == n) ≡ true). ap (λ (m : ℕ). let o : Option (ℕ × List ℕ) = Some (m, rest) in o) (sym (eqb-true sub n h)) in
    cond_both (sub == 0) _ _ Read (told 0) (λ _.
    cond_both (sub == 1) _ _ Read (told 1) (λ _.
    cond_both (sub == 2) _ _ Read (told 2) (λ _.
    cond_both (sub == 3) _ _ Read (told 3) (λ _.
    cond_both (sub == 4) _ _ Read (told 4) (λ _. comment_number sub rest small none)))))

bookmark_number : (sub : ℕ) (rest : List ℕ) → sub < 256 → begins_with_digit rest ≡ false → bookmark_type_of (decimal sub ++ rest) ≡ Some (sub, rest)
unfolding bookmark_type_of
bookmark_number sub rest small none =
    let skip = λ (w : ℕ) (ws : List ℕ) (l : 57 < w). skips sub rest w ws (omega arith) l in
    choose-skips bookmark_types (number_of 255) (decimal sub ++ rest) (skip 110 (codes "ote") (omega arith), (skip 105 (codes "nfo") (omega arith), (skip 97 (codes "nalysis") (omega arith), (skip 119 (codes "arning") (omega arith), (skip 101 (codes "rror") (omega arith), tt)))))
    ∙ number-back 255 sub rest (omega arith) (omega arith) none

pub bookmark_type-back : (sub : ℕ) (rest : List ℕ) → sub < 256 → begins_with_digit rest ≡ false → bookmark_type_of (bookmark_word sub ++ rest) ≡ Some (sub, rest)
unfolding bookmark_type_of
bookmark_type-back sub rest small none =
    let Read : List ℕ → Type 0 = λ w. bookmark_type_of (w ++ rest) ≡ Some (sub, rest) in
    let told = λ (n : ℕ) (h : (sub == n) ≡ true). ap (λ (m : ℕ). let o : Option (ℕ × List ℕ) = Some (m, rest) in o) (sym (eqb-true sub n h)) in
    cond_both (sub == 0) _ _ Read (told 0) (λ _.
    cond_both (sub == 1) _ _ Read (told 1) (λ _.
    cond_both (sub == 2) _ _ Read (told 2) (λ _.
    cond_both (sub == 3) _ _ Read (told 3) (λ _.
    cond_both (sub == 4) _ _ Read (told 4) (λ _. bookmark_number sub rest small none)))))

pub fact_law : FactLaw
fact_law = record { perm = perm-back; form = form-back; comment_kind = comment_kind-back; bookmark_type = bookmark_type-back }
