-- Sets of addresses and cells are read back. Use `cell_law`.
use Rattle.std.proofs.Common.{◌≡◌, ℕ, ◌+◌, ◌/◌, ◌%◌, ◌^◌, ◌<◌, ◌≤◌, Bool, true, false, cond, ◌&&◌, List, [], ◌∷◌, ◌++◌, Some, None, length, codes, refl, ap, ◌∙◌, arith, append_assoc, length-append}
use Rattle.std.specs.Prelude.{nat_eq}
use Rattle.std.specs.List.{AllByRecursion, starts_with}
use Rattle.std.specs.Char.{digit_char}
use Rattle.std.specs.Fmt.{decimal}
use Rattle.std.proofs.lemmas.Bool.Decides.{nat_tests}
use Rattle.rvd_text.specs.Hex.{hex8}
use Rattle.rvd_text.specs.Quoted.{quoted}
use Rattle.rvd_fact.specs.declared.keys.Key.{Key}
use Rattle.rvd_fact.specs.declared.cells.Cell.{Cell}
use Rattle.rvd_fact.specs.declared.values.Value.{Value}
use Rattle.rvd_fact.specs.declared.values.Value.TheVariants.{Block, Mark, Func, Body, Symbol, Comment, Bookmark, Code, Plain, Ref, Gone}
use Rattle.rvd_fact.specs.Ranges.{AreRangesFrom, is_range_set}
use Rattle.rvd_notation.specs.Words.{bookmark_word, class_word, comment_word, kind_word, perm_word, range_text, ranges_text, source_word}
use Rattle.rvd_notation.specs.Values.{fact_text, value_text}
use Rattle.rvd_reading.specs.Steps.{◌>>=◌, Step}
use Rattle.rvd_reading.specs.Fixed.{just}
use Rattle.rvd_reading.specs.Lists.{more_ranges_of, range_of, ranges_of, set_of, some_ranges_of}
use Rattle.rvd_reading.specs.Values.{FitsValue, bare, block_of, bookmark_of, cell_of, comment_of, gone_of, ref_of, symbol_of, value_of}
use Rattle.rvd_reading.specs.Laws.{CellLaw}
use Rattle.rvd_reading.proofs.WordsBack.{class-back, kind-back, source-back}
use Rattle.rvd_reading.proofs.NumbersBack.{hex8-back, number-back}
use Rattle.rvd_reading.proofs.TextsBack.{text-back}
use Rattle.rvd_reading.proofs.FactsBack.{bookmark_type-back, comment_kind-back, form-back, perm-back}
use Rattle.rvd_reading.proofs.ActorsBack.{range-back}
use Rattle.rvd_reading.proofs.Choices.{choose-skips}
use Rattle.rvd_reading.proofs.ListsBack.{elements, list-back}
use Rattle.rvd_reading.proofs.SetsBack.{are_ranges}
use Rattle.rvd_reading.proofs.Flats.{flat4}

-- the ends of a set's ranges are addresses
abbrev pub Ends : ℕ × ℕ → Type 0
Ends r = (r.0 < 2 ^ 32) × (r.1 < 2 ^ 32)

pub all_ends : (low : ℕ) (rs : List (ℕ × ℕ)) → AreRangesFrom low rs → AllByRecursion Ends rs
all_ends low [] h = tt
all_ends low (r ∷ rs) h = let order = h.1 in let top = h.2 in ((omega arith, top), all_ends (r.1 + 2) rs h.3)

-- a list of ranges has no more ranges than bytes
enough : (rs : List (ℕ × ℕ)) (rest : List ℕ) → length rs ≤ length (elements 44 range_text rs ++ rest)
enough [] rest = omega arith
enough (r ∷ rs) rest =
    let more = enough rs rest in
    let parts = length-append (range_text r) (elements 44 range_text rs) in
    let whole = length-append (range_text r ++ elements 44 range_text rs) rest in
    let rests = length-append (elements 44 range_text rs) rest in
    omega (arith, more, parts, whole, rests)

-- no digit is a dash
no_dash : (d : ℕ) → d < 16 → nat_eq 45 (digit_char d) ≡ false
no_dash d l = grind (arith, nat_tests)

-- a list with a range in front
abbrev with_first : ℕ × ℕ → List (ℕ × ℕ) × List ℕ → Step (List (ℕ × ℕ))
with_first r ys = Some (r ∷ ys.0, ys.1)

abbrev Follows : List ℕ → Type 0
Follows bytes = Unit {0}

pub ranges-back : (rs : List (ℕ × ℕ)) (rest : List ℕ) → is_range_set rs ≡ true → starts_with nat_eq rest (44 ∷ []) ≡ false → ranges_of (ranges_text rs ++ rest) ≡ Some (rs, rest)
unfolding ranges_of more_ranges_of
ranges-back [] rest set stop = refl
ranges-back (r ∷ rs) rest set stop =
    let ends = all_ends 0 (r ∷ rs) (are_ranges (r ∷ rs) set) in
    let more = elements 44 range_text rs ++ rest in
    let flat : ranges_text (r ∷ rs) ++ rest ≡ range_text r ++ more = append_assoc (range_text r) (elements 44 range_text rs) rest in
    let one : range_of (range_text r ++ more) ≡ Some (r, more) = range-back r more ends.0.0 ends.0.1 in
    let others = list-back 44 range_text range_of Ends Follows refl (λ m. tt) (λ x m h _. range-back x m h.0 h.1) (length more) rs rest (enough rs rest) ends.1 tt stop in
    let first : nat_eq 45 (digit_char (r.0 / 0x1000_0000 % 16)) ≡ false = no_dash (r.0 / 0x1000_0000 % 16) (omega arith) in
    let skip : starts_with nat_eq (range_text r ++ more) (45 ∷ []) ≡ false = ap (λ (q : Bool). q && true) first in
    ap ranges_of flat
    ∙ ap (λ (o : Step (List (ℕ × ℕ))). o >>= set_of) (choose-skips ((codes "-", just []) ∷ []) some_ranges_of (range_text r ++ more) (skip, tt))
    ∙ ap (λ (o : Step (ℕ × ℕ)). (o >>= (λ x. more_ranges_of x.1 >>= (λ ys. with_first x.0 ys))) >>= set_of) one
    ∙ ap (λ (o : Step (List (ℕ × ℕ))). (o >>= with_first r) >>= set_of) others
    ∙ ap (λ (q : Bool). cond q (let o : Step (List (ℕ × ℕ)) = Some (r ∷ rs, rest) in o) None) set

-- each fact is read back, behind which a bracket closes
pub value-back : (k : Key) (v : Value) (more : List ℕ) → k.sub < 256 → FitsValue v → value_of (fact_text k v ++ 93 ∷ more) ≡ Some (bare v, 93 ∷ more)
unfolding value_of fact_text block_of symbol_of comment_of bookmark_of ref_of gone_of
value-back k (Block len perm None) more sub fits =
    let rest = 93 ∷ more in
    let flat : fact_text k (Block len perm None) ++ rest ≡ codes "block " ++ (hex8 len ++ (codes " " ++ (perm_word perm ++ (codes " " ++ (codes "none" ++ rest))))) = simp append_assoc in
    let one = hex8-back len (codes " " ++ (perm_word perm ++ (codes " " ++ (codes "none" ++ rest)))) fits in
    let two = perm-back perm (codes " " ++ (codes "none" ++ rest)) in
    ap value_of flat ∙ (rw (one, two) refl)
value-back k (Block len perm (Some bytes)) more sub fits =
    let rest = 93 ∷ more in
    let flat : fact_text k (Block len perm (Some bytes)) ++ rest ≡ codes "block " ++ (hex8 len ++ (codes " " ++ (perm_word perm ++ (codes " " ++ (codes "init" ++ rest))))) = simp append_assoc in
    let one = hex8-back len (codes " " ++ (perm_word perm ++ (codes " " ++ (codes "init" ++ rest)))) fits in
    let two = perm-back perm (codes " " ++ (codes "init" ++ rest)) in
    ap value_of flat ∙ (rw (one, two) refl)
value-back k Mark more sub fits = refl
value-back k Func more sub fits = refl
value-back k (Body ranges) more sub fits = rw (ranges-back ranges (93 ∷ more) fits refl) refl
value-back k (Symbol name) more sub fits =
    let rest = 93 ∷ more in
    let flat : fact_text k (Symbol name) ++ rest ≡ codes "symbol " ++ (decimal k.sub ++ (codes " " ++ (quoted name ++ rest))) = flat4 (codes "symbol ") (decimal k.sub) (codes " ") (quoted name) rest in
    let one = number-back 255 k.sub (codes " " ++ (quoted name ++ rest)) (omega arith) (omega arith) refl in
    let two = text-back name rest fits.0 fits.1 in
    ap value_of flat ∙ (rw (one, two) refl)
value-back k (Comment text) more sub fits =
    let rest = 93 ∷ more in
    let flat : fact_text k (Comment text) ++ rest ≡ codes "comment " ++ (comment_word k.sub ++ (codes " " ++ (quoted text ++ rest))) = flat4 (codes "comment ") (comment_word k.sub) (codes " ") (quoted text) rest in
    let one = comment_kind-back k.sub (codes " " ++ (quoted text ++ rest)) sub refl in
    let two = text-back text rest fits.0 fits.1 in
    ap value_of flat ∙ (rw (one, two) refl)
value-back k (Bookmark text) more sub fits =
    let rest = 93 ∷ more in
    let flat : fact_text k (Bookmark text) ++ rest ≡ codes "bookmark " ++ (bookmark_word k.sub ++ (codes " " ++ (quoted text ++ rest))) = flat4 (codes "bookmark ") (bookmark_word k.sub) (codes " ") (quoted text) rest in
    let one = bookmark_type-back k.sub (codes " " ++ (quoted text ++ rest)) sub refl in
    let two = text-back text rest fits.0 fits.1 in
    ap value_of flat ∙ (rw (one, two) refl)
value-back k (Code word) more sub fits = rw (hex8-back word (93 ∷ more) fits) refl
value-back k (Plain form) more sub fits = rw (form-back form (93 ∷ more) fits refl) refl
value-back k (Ref to class) more sub fits =
    let rest = 93 ∷ more in
    let flat : fact_text k (Ref to class) ++ rest ≡ codes "ref " ++ (decimal k.sub ++ (codes " " ++ (class_word class ++ (codes " " ++ (hex8 to ++ rest))))) = simp append_assoc in
    let one = number-back 255 k.sub (codes " " ++ (class_word class ++ (codes " " ++ (hex8 to ++ rest)))) (omega arith) (omega arith) refl in
    let two = class-back class (codes " " ++ (hex8 to ++ rest)) in
    let three = hex8-back to rest fits in
    ap value_of flat ∙ (rw (one, two, three) refl)
value-back k Gone more sub fits =
    let rest = 93 ∷ more in
    let flat : fact_text k Gone ++ rest ≡ codes "gone " ++ (kind_word k.kind ++ (codes " " ++ (decimal k.sub ++ rest))) = simp append_assoc in
    let one = kind-back k.kind (codes " " ++ (decimal k.sub ++ rest)) in
    let two = number-back 255 k.sub rest (omega arith) (omega arith) refl in
    ap value_of flat ∙ (rw (one, two) refl)

pub cell-back : (k : Key) (c : Cell) (more : List ℕ) → k.sub < 256 → FitsValue c.value → cell_of (value_text k c ++ 93 ∷ more) ≡ Some (record { source = c.source; value = bare c.value }, 93 ∷ more)
unfolding cell_of
cell-back k c more sub fits =
    let rest = 93 ∷ more in
    let flat : value_text k c ++ rest ≡ source_word c.source ++ (codes " " ++ (fact_text k c.value ++ rest)) = simp append_assoc in
    let one = source-back c.source (codes " " ++ (fact_text k c.value ++ rest)) in
    let two = value-back k c.value more sub fits in
    rw (flat, one, two) refl

pub cell_law : CellLaw
cell_law = record { ranges = ranges-back; cell = cell-back }
