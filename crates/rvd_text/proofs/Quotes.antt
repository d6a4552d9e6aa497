-- Quoted texts: what a word is read as, and how. `text_of-is` ties the reader to the grammar of quoted texts, and
-- `text_of-quoted` reads the canonical spelling back. Use them where a word is printed and read again.
use Rattle.std.proofs.Common.{◌≡◌, ℕ, suc, ◌+◌, ◌*◌, ◌/◌, ◌%◌, ◌<◌, Bool, true, false, cond, ◌&&◌, List, [], ◌∷◌, ◌++◌, map, Option, Some, None, refl, sym, ap, ◌∙◌, subst, arith, append_assoc}
use Rattle.std.specs.Prelude.{flat_map, ◌==◌}
use Rattle.std.specs.Char.{digit_char}
use Rattle.std.specs.List.{All, AllByRecursion, concat}
use Rattle.std.specs.Option.{option_and_then, option_map, option_to_list}
use Rattle.std.proofs.lemmas.Bool.Decides.{nat_tests}
use Rattle.std.proofs.lemmas.Bool.{cond_both, eqb-true}
use Rattle.rvd_text.specs.Quoted.{spelled, quoted, is_plain, escape, stands_for, low_hex, text_from, text_of, IsQuoted, QuotedLaw}
use Rattle.rvd_text.specs.declared.places.Place.{Place}
use Rattle.rvd_text.specs.declared.places.Place.TheVariants.{Inside, Escaped, High, Low, Done}

-- the text that a step leads to
abbrev goes : List ℕ → Option (Place × Option ℕ) → Option (List ℕ)
goes cs = option_and_then (λ (s : Place × Option ℕ). option_map (λ t. option_to_list s.1 ++ t) (text_from s.0 cs))

-- a text with a byte in front, where there is one
abbrev with_byte : ℕ → Option (List ℕ) → Option (List ℕ)
with_byte b = option_map (λ bs. b ∷ bs)

-- nothing in front of a text changes it
map_nothing : (o : Option (List ℕ)) → option_map (λ t. [] ++ t) o ≡ o
map_nothing None = refl
map_nothing (Some t) = refl

-- what stands behind the opening quote of a quoted text
record Parts (rest text : List ℕ) : Type 0 where
  pieces : List (List ℕ)
  between : rest ≡ concat pieces ++ 34 ∷ []
  stand : map stands_for pieces ≡ map Some text

-- a piece that was read, and the parts behind it
emit : (piece : List ℕ) (b : ℕ) (cs t : List ℕ) → stands_for piece ≡ Some b → with_byte b (text_from Inside cs) ≡ Some t → ((u : List ℕ) → text_from Inside cs ≡ Some u → Parts cs u) → Parts (piece ++ cs) t
emit piece b cs t stands e rest =
    elim (text_from Inside cs) as (λ o. text_from Inside cs ≡ o → with_byte b o ≡ Some t → Parts (piece ++ cs) t) [
      | None ↦ λ h f. absurd (cc)
      | Some u ↦ λ h f.
          let parts = rest u h in
          let same : b ∷ u ≡ t = cc in
          subst (λ (x : List ℕ). Parts (piece ++ cs) x) same (record {
            pieces = piece ∷ parts.pieces;
            between = ap (λ (ws : List ℕ). piece ++ ws) parts.between ∙ sym (append_assoc piece (concat parts.pieces) (34 ∷ []));
            stand = λ i. stands i ∷ parts.stand i;
          })
    ] refl e

-- a text that has ended has nothing behind it
ends : (cs t : List ℕ) → text_from Done cs ≡ Some t → Parts (34 ∷ cs) t
ends [] t e =
    let same : [] ≡ t = cc in
    subst (λ (x : List ℕ). Parts (34 ∷ []) x) same (record { pieces = []; between = refl; stand = refl })
ends (c ∷ cs) t e = absurd (cc)

-- what each place says of the bytes from there on
record Sound (cs : List ℕ) : Type 0 where
  inside : (t : List ℕ) → text_from Inside cs ≡ Some t → Parts cs t
  escaped : (t : List ℕ) → text_from Escaped cs ≡ Some t → Parts (92 ∷ cs) t
  high : (t : List ℕ) → text_from High cs ≡ Some t → Parts (92 ∷ 120 ∷ cs) t
  low : (d h : ℕ) → low_hex d ≡ Some h → (t : List ℕ) → text_from (Low h) cs ≡ Some t → Parts (92 ∷ 120 ∷ d ∷ cs) t

-- one more byte in front of what each place says
inside_more : (c : ℕ) (cs : List ℕ) → Sound cs → (t : List ℕ) → text_from Inside (c ∷ cs) ≡ Some t → Parts (c ∷ cs) t
inside_more c cs rest t e =
    elim (c == 34) as (λ q. (c == 34) ≡ q → goes cs (cond q (Some (Done, None)) (cond (c == 92) (Some (Escaped, None)) (cond (is_plain c) (Some (Inside, Some c)) None))) ≡ Some t → Parts (c ∷ cs) t) [
      | true ↦ λ h f. subst (λ (b : ℕ). Parts (b ∷ cs) t) (sym (eqb-true c 34 h)) (ends cs t (sym (map_nothing (text_from Done cs)) ∙ f))
      | false ↦ λ _ f. elim (c == 92) as (λ q. (c == 92) ≡ q → goes cs (cond q (Some (Escaped, None)) (cond (is_plain c) (Some (Inside, Some c)) None)) ≡ Some t → Parts (c ∷ cs) t) [
        | true ↦ λ h g. subst (λ (b : ℕ). Parts (b ∷ cs) t) (sym (eqb-true c 92 h)) (rest.escaped t (sym (map_nothing (text_from Escaped cs)) ∙ g))
        | false ↦ λ _ g. elim (is_plain c) as (λ q. is_plain c ≡ q → goes cs (cond q (Some (Inside, Some c)) None) ≡ Some t → Parts (c ∷ cs) t) [
          | true ↦ λ p k. emit (c ∷ []) c cs t (ap (λ (q : Bool). cond q (Some c) None) p) k rest.inside
          | false ↦ λ p k. absurd (cc)
        ] refl g
      ] refl f
    ] refl e

escaped_more : (c : ℕ) (cs : List ℕ) → Sound cs → (t : List ℕ) → text_from Escaped (c ∷ cs) ≡ Some t → Parts (92 ∷ c ∷ cs) t
escaped_more c cs rest t e =
    elim (c == 120) as (λ q. (c == 120) ≡ q → goes cs (cond q (Some (High, None)) (option_map (λ b. (Inside, Some b)) (escape c))) ≡ Some t → Parts (92 ∷ c ∷ cs) t) [
      | true ↦ λ h f. subst (λ (b : ℕ). Parts (92 ∷ b ∷ cs) t) (sym (eqb-true c 120 h)) (rest.high t (sym (map_nothing (text_from High cs)) ∙ f))
      | false ↦ λ _ f. elim (escape c) as (λ o. escape c ≡ o → goes cs (option_map (λ b. (Inside, Some b)) o) ≡ Some t → Parts (92 ∷ c ∷ cs) t) [
        | None ↦ λ h g. absurd (cc)
        | Some b ↦ λ h g. emit (92 ∷ c ∷ []) b cs t h g rest.inside
      ] refl f
    ] refl e

high_more : (c : ℕ) (cs : List ℕ) → Sound cs → (t : List ℕ) → text_from High (c ∷ cs) ≡ Some t → Parts (92 ∷ 120 ∷ c ∷ cs) t
high_more c cs rest t e =
    elim (low_hex c) as (λ o. low_hex c ≡ o → goes cs (option_map (λ h. (Low h, None)) o) ≡ Some t → Parts (92 ∷ 120 ∷ c ∷ cs) t) [
      | None ↦ λ h f. absurd (cc)
      | Some a ↦ λ h f. rest.low c a h t (sym (map_nothing (text_from (Low a) cs)) ∙ f)
    ] refl e

low_more : (c : ℕ) (cs : List ℕ) → Sound cs → (d a : ℕ) → low_hex d ≡ Some a → (t : List ℕ) → text_from (Low a) (c ∷ cs) ≡ Some t → Parts (92 ∷ 120 ∷ d ∷ c ∷ cs) t
low_more c cs rest d a is t e =
    elim (low_hex c) as (λ o. low_hex c ≡ o → goes cs (option_map (λ l. (Inside, Some (a * 16 + l))) o) ≡ Some t → Parts (92 ∷ 120 ∷ d ∷ c ∷ cs) t) [
      | None ↦ λ h f. absurd (cc)
      | Some l ↦ λ h f. emit (92 ∷ 120 ∷ d ∷ c ∷ []) (a * 16 + l) cs t (λ i. option_and_then (λ x. option_map (λ y. x * 16 + y) (h i)) (is i)) f rest.inside
    ] refl e

-- what is read behind an opening quote is a run of pieces and a closing quote
sound : (cs : List ℕ) → Sound cs
sound [] = record { inside = λ t e. absurd (cc); escaped = λ t e. absurd (cc); high = λ t e. absurd (cc); low = λ d h _ t e. absurd (cc) }
sound (c ∷ cs) = let rest = sound cs in record { inside = inside_more c cs rest; escaped = escaped_more c cs rest; high = high_more c cs rest; low = low_more c cs rest }

-- what is read is a quoted text
from_text_of : (word text : List ℕ) → text_of word ≡ Some text → IsQuoted word text
from_text_of [] text e = absurd (cc)
from_text_of (c ∷ cs) text e =
    elim (c == 34) as (λ q. (c == 34) ≡ q → cond q (text_from Inside cs) None ≡ Some text → IsQuoted (c ∷ cs) text) [
      | true ↦ λ h f.
          let parts = (sound cs).inside text f in
          record { pieces = parts.pieces; between = λ i. eqb-true c 34 h i ∷ parts.between i; stand = parts.stand }
      | false ↦ λ h f. absurd (cc)
    ] refl e

-- the pieces of text that are read as the byte
abbrev Reads : ℕ → List ℕ → List ℕ → Type 0
Reads b rest piece = text_from Inside (piece ++ rest) ≡ with_byte b (text_from Inside rest)

-- a plain byte is neither a quote nor a backslash
pub plain_not : (b : ℕ) → is_plain b ≡ true → ((b == 34) ≡ false) × ((b == 92) ≡ false)
plain_not b h = (grind (arith, nat_tests), grind (arith, nat_tests))

-- each kind of piece is read as the byte that it stands for
read_plain : (c b : ℕ) (rest : List ℕ) → cond (is_plain c) (Some c) None ≡ Some b → Reads b rest (c ∷ [])
read_plain c b rest e =
    elim (is_plain c) as (λ q. is_plain c ≡ q → cond q (Some c) None ≡ Some b → Reads b rest (c ∷ [])) [
      | true ↦ λ p f.
          let away = plain_not c p in
          let same : c ≡ b = cc in
          ap (goes rest)
          (ap (λ (q : Bool). cond q (Some (Done, None)) (cond (c == 92) (Some (Escaped, None)) (cond (is_plain c) (Some (Inside, Some c)) None))) away.0
          ∙ ap (λ (q : Bool). cond q (Some (Escaped, None)) (cond (is_plain c) (Some (Inside, Some c)) None)) away.1
          ∙ ap (λ (q : Bool). cond q (Some (Inside, Some c)) None) p)
          ∙ ap (λ (x : ℕ). with_byte x (text_from Inside rest)) same
      | false ↦ λ p f. absurd (cc)
    ] refl e

-- no letter of an escape is the x of `\xHH`
not_x : (c b : ℕ) → escape c ≡ Some b → (c == 120) ≡ false
not_x c b e =
    elim (c == 120) as (λ q. (c == 120) ≡ q → q ≡ false) [
      | true ↦ λ h. let none : escape c ≡ None = ap escape (eqb-true c 120 h) in absurd (cc)
      | false ↦ λ h. refl
    ] refl

read_escape : (c b : ℕ) (rest : List ℕ) → escape c ≡ Some b → Reads b rest (92 ∷ c ∷ [])
read_escape c b rest e =
    map_nothing (text_from Escaped (c ∷ rest))
    ∙ ap (λ (q : Bool). goes rest (cond q (Some (High, None)) (option_map (λ x. (Inside, Some x)) (escape c)))) (not_x c b e)
    ∙ ap (λ (o : Option ℕ). goes rest (option_map (λ x. (Inside, Some x)) o)) e

read_hex : (h l a b : ℕ) (rest : List ℕ) → low_hex h ≡ Some a → low_hex l ≡ Some b → Reads (a * 16 + b) rest (92 ∷ 120 ∷ h ∷ l ∷ [])
read_hex h l a b rest p q =
    map_nothing (text_from Escaped (120 ∷ h ∷ l ∷ rest))
    ∙ map_nothing (text_from High (h ∷ l ∷ rest))
    ∙ ap (λ (o : Option ℕ). goes (l ∷ rest) (option_map (λ x. (Low x, None)) o)) p
    ∙ map_nothing (text_from (Low a) (l ∷ rest))
    ∙ ap (λ (o : Option ℕ). goes rest (option_map (λ x. (Inside, Some (a * 16 + x))) o)) q

read_two : (h l b : ℕ) (rest : List ℕ) → option_and_then (λ a. option_map (λ b. a * 16 + b) (low_hex l)) (low_hex h) ≡ Some b → Reads b rest (92 ∷ 120 ∷ h ∷ l ∷ [])
read_two h l b rest e =
    elim (low_hex h) as (λ o. low_hex h ≡ o → option_and_then (λ a. option_map (λ b. a * 16 + b) (low_hex l)) o ≡ Some b → Reads b rest (92 ∷ 120 ∷ h ∷ l ∷ [])) [
      | None ↦ λ p f. absurd (cc)
      | Some a ↦ λ p f. elim (low_hex l) as (λ o. low_hex l ≡ o → option_map (λ b. a * 16 + b) o ≡ Some b → Reads b rest (92 ∷ 120 ∷ h ∷ l ∷ [])) [
        | None ↦ λ q g. absurd (cc)
        | Some d ↦ λ q g. let same : a * 16 + d ≡ b = cc in subst (λ (x : ℕ). Reads x rest (92 ∷ 120 ∷ h ∷ l ∷ [])) same (read_hex h l a d rest p q)
      ] refl f
    ] refl e

-- what a piece of four bytes stands for, by the tests of its first two
abbrev stands_as : Bool → Bool → ℕ → ℕ → Option ℕ
stands_as p q h l = cond (p && q) (option_and_then (λ a. option_map (λ b. a * 16 + b) (low_hex l)) (low_hex h)) None

read_piece : (piece : List ℕ) (b : ℕ) (rest : List ℕ) → stands_for piece ≡ Some b → Reads b rest piece
read_piece [] b rest e = absurd (cc)
read_piece (c ∷ []) b rest e = read_plain c b rest e
read_piece (s ∷ c ∷ []) b rest e =
    elim (s == 92) as (λ q. (s == 92) ≡ q → cond q (escape c) None ≡ Some b → Reads b rest (s ∷ c ∷ [])) [
      | true ↦ λ h f. subst (λ (x : ℕ). Reads b rest (x ∷ c ∷ [])) (sym (eqb-true s 92 h)) (read_escape c b rest f)
      | false ↦ λ h f. absurd (cc)
    ] refl e
read_piece (s ∷ x ∷ h ∷ []) b rest e = absurd (cc)
read_piece (s ∷ x ∷ h ∷ l ∷ []) b rest e =
    elim (s == 92) as (λ q. (s == 92) ≡ q → stands_as q (x == 120) h l ≡ Some b → Reads b rest (s ∷ x ∷ h ∷ l ∷ [])) [
      | true ↦ λ p f. elim (x == 120) as (λ q. (x == 120) ≡ q → stands_as true q h l ≡ Some b → Reads b rest (s ∷ x ∷ h ∷ l ∷ [])) [
        | true ↦ λ r g. subst (λ (y : ℕ). Reads b rest (y ∷ x ∷ h ∷ l ∷ [])) (sym (eqb-true s 92 p)) (subst (λ (y : ℕ). Reads b rest (92 ∷ y ∷ h ∷ l ∷ [])) (sym (eqb-true x 120 r)) (read_two h l b rest g))
        | false ↦ λ r g. absurd (cc)
      ] refl f
      | false ↦ λ p f. absurd (cc)
    ] refl e
read_piece (s ∷ x ∷ h ∷ l ∷ m ∷ ms) b rest e = absurd (cc)

-- a run of pieces and a closing quote are read as the bytes that the pieces stand for
read_pieces : (pieces : List (List ℕ)) (text : List ℕ) → map stands_for pieces ≡ map Some text → text_from Inside (concat pieces ++ 34 ∷ []) ≡ Some text
read_pieces [] [] e = refl
read_pieces [] (b ∷ bs) e = absurd (cc)
read_pieces (p ∷ ps) [] e = absurd (cc)
read_pieces (p ∷ ps) (b ∷ bs) e =
    let first : stands_for p ≡ Some b = cc in
    let others : map stands_for ps ≡ map Some bs = cc in
    ap (text_from Inside) (append_assoc p (concat ps) (34 ∷ []))
    ∙ read_piece p b (concat ps ++ 34 ∷ []) first
    ∙ ap (with_byte b) (read_pieces ps bs others)

-- a word is read as a text exactly where it is its quoted text
pub text_of-is : (word text : List ℕ) → (text_of word ≡ Some text → IsQuoted word text) × (IsQuoted word text → text_of word ≡ Some text)
text_of-is word text = (from_text_of word text, λ q. ap text_of q.between ∙ read_pieces q.pieces text q.stand)

-- a lower-case digit is read back
pub hex_back : (d : ℕ) → d < 16 → low_hex (digit_char d) ≡ Some d
hex_back d l = grind (arith, nat_tests)

-- what a byte spells stands for it
stands_for-spelled : (b : ℕ) → b < 256 → stands_for (spelled b) ≡ Some b
stands_for-spelled b l =
    cond_both (is_plain b) _ _ (λ s. stands_for s ≡ Some b) (λ p. ap (λ (q : Bool). cond q (Some b) None) p) (λ _.
    cond_both (b == 34) _ _ (λ s. stands_for s ≡ Some b) (λ h. ap Some (sym (eqb-true b 34 h))) (λ _.
    cond_both (b == 92) _ _ (λ s. stands_for s ≡ Some b) (λ h. ap Some (sym (eqb-true b 92 h))) (λ _.
    cond_both (b == 10) _ _ (λ s. stands_for s ≡ Some b) (λ h. ap Some (sym (eqb-true b 10 h))) (λ _.
    cond_both (b == 9) _ _ (λ s. stands_for s ≡ Some b) (λ h. ap Some (sym (eqb-true b 9 h))) (λ _.
    (λ i. option_and_then (λ a. option_map (λ d. a * 16 + d) (hex_back (b % 16) (omega arith) i)) (hex_back (b / 16) (omega arith) i)) ∙ ap Some (omega arith))))))

-- the bytes of a text, one by one
pub by_recursion : (text : List ℕ) → All (λ b. b < 256) text → AllByRecursion (λ b. b < 256) text
by_recursion [] h = tt
by_recursion (b ∷ bs) h = (h 0 0 (omega arith), by_recursion bs (λ k d l. h (suc k) d (omega arith)))

-- what a text spells stands for it
stand_all : (text : List ℕ) → AllByRecursion (λ b. b < 256) text → map stands_for (map spelled text) ≡ map Some text
stand_all [] h = refl
stand_all (b ∷ bs) h = λ i. stands_for-spelled b h.0 i ∷ stand_all bs h.1 i

-- the pieces of a text are its spelling
concat-map : (text : List ℕ) → concat (map spelled text) ≡ flat_map spelled text
concat-map [] = refl
concat-map (b ∷ bs) = ap (λ (t : List ℕ). spelled b ++ t) (concat-map bs)

-- the canonical spelling of a text is its quoted text, and is read back
pub quoted-is : (text : List ℕ) → All (λ b. b < 256) text → IsQuoted (quoted text) text
quoted-is text h = record { pieces = map spelled text; between = ap (λ (t : List ℕ). 34 ∷ t ++ 34 ∷ []) (sym (concat-map text)); stand = stand_all text (by_recursion text h) }

pub text_of-quoted : (text : List ℕ) → All (λ b. b < 256) text → text_of (quoted text) ≡ Some text
text_of-quoted text h = (text_of-is (quoted text) text).1 (quoted-is text h)

pub quoted-unique : (s t : List ℕ) → All (λ b. b < 256) s → All (λ b. b < 256) t → quoted s ≡ quoted t → s ≡ t
quoted-unique s t h k e = let same : Some s ≡ Some t = sym (text_of-quoted s h) ∙ ap text_of e ∙ text_of-quoted t k in cc

pub quoted_law : QuotedLaw
quoted_law = record { reads = text_of-is; canonical = quoted-is; back = text_of-quoted; unique = quoted-unique }
