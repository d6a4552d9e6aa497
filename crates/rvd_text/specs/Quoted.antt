-- Quoted texts: any bytes, written in printable ASCII as C writes its string literals. A quoted text stands between two
-- quotes. It is a run of pieces, each of which stands for one byte: a byte from 20 to 7e other than the quote and the
-- backslash stands for itself, `\"`, `\\`, `\n` and `\t` for the quote, the backslash, the line feed and the tab, and `\xHH`,
-- with two lower-case hexadecimal digits, for the byte of that value.
use Rattle.std.specs.Prelude.{◌≡◌, ℕ, ◌+◌, ◌-◌, ◌*◌, ◌/◌, ◌%◌, ◌<◌, Bool, ◌&&◌, ◌||◌, nat_lt, nat_le, ◌==◌, ◌↔◌, List, [], ◌∷◌, ◌++◌, map, flat_map, Option, Some, None, if◌then◌else◌}
use Rattle.std.specs.List.{All, concat}
use Rattle.std.specs.Option.{option_map, option_and_then, option_to_list}
use Rattle.std.specs.Char.{digit_char}
use Rattle.rvd_text.specs.declared.places.Place.{Place}
use Rattle.rvd_text.specs.declared.places.Place.TheVariants.{Inside, Escaped, High, Low, Done}

-- whether a byte stands for itself
abbrev pub is_plain : ℕ → Bool
is_plain b = nat_le 32 b && nat_le b 126 && (nat_lt b 34 || nat_lt 34 b) && (nat_lt b 92 || nat_lt 92 b)

-- the byte that a backslash and a letter stand for
abbrev pub escape : ℕ → Option ℕ
escape c =
    if c == 34 then Some 34
    else (if c == 92 then Some 92
    else (if c == 110 then Some 10
    else (if c == 116 then Some 9 else None)))

-- the value of a lower-case hexadecimal digit
abbrev pub low_hex : ℕ → Option ℕ
low_hex c = if nat_le 48 c && nat_le c 57 then Some (c - 48) else (if nat_le 97 c && nat_le c 102 then Some (c - 87) else None)

-- the byte that a piece stands for
abbrev pub stands_for : List ℕ → Option ℕ
stands_for (c ∷ []) = if is_plain c then Some c else None
stands_for (s ∷ c ∷ []) = if s == 92 then escape c else None
stands_for (s ∷ x ∷ h ∷ l ∷ []) = if s == 92 && x == 120 then option_and_then (λ a. option_map (λ b. a * 16 + b) (low_hex l)) (low_hex h) else None
stands_for p = None

-- what it means that a word is the quoted text of these bytes
pub record IsQuoted (word text : List ℕ) : Type 0 where
  pub pieces : List (List ℕ)
  pub between : word ≡ 34 ∷ concat pieces ++ 34 ∷ []
  pub stand : map stands_for pieces ≡ map Some text

-- the canonical spelling of a byte: itself where it may, else one of four escapes where it can, else \xHH
abbrev pub spelled : ℕ → List ℕ
spelled b =
    if is_plain b then b ∷ []
    else (if b == 34 then 92 ∷ 34 ∷ []
    else (if b == 92 then 92 ∷ 92 ∷ []
    else (if b == 10 then 92 ∷ 110 ∷ []
    else (if b == 9 then 92 ∷ 116 ∷ []
    else 92 ∷ 120 ∷ digit_char (b / 16) ∷ digit_char (b % 16) ∷ []))))

-- the canonical quoted spelling of a text
abbrev pub quoted : List ℕ → List ℕ
quoted text = 34 ∷ flat_map spelled text ++ 34 ∷ []

-- where a reader stands behind a byte, and the byte that it has read by then; None where the byte can't stand there
abbrev pub step : Place → ℕ → Option (Place × Option ℕ)
step Inside c = if c == 34 then Some (Done, None) else (if c == 92 then Some (Escaped, None) else (if is_plain c then Some (Inside, Some c) else None))
step Escaped c = if c == 120 then Some (High, None) else option_map (λ b. (Inside, Some b)) (escape c)
step High c = option_map (λ h. (Low h, None)) (low_hex c)
step (Low h) c = option_map (λ l. (Inside, Some (h * 16 + l))) (low_hex c)
step Done c = None

-- the text of the bytes from a place on, where they end a quoted text
abbrev pub text_from : Place → List ℕ → Option (List ℕ)
text_from Done [] = Some []
text_from p [] = None
text_from p (c ∷ cs) = option_and_then (λ (s : Place × Option ℕ). option_map (λ t. option_to_list s.1 ++ t) (text_from s.0 cs)) (step p c)

-- the text that a word stands for, where it is a quoted text
abbrev pub text_of : List ℕ → Option (List ℕ)
text_of [] = None
text_of (c ∷ cs) = if c == 34 then text_from Inside cs else None

-- a place whose digit is one
abbrev pub IsPlace : Place → Type 0
IsPlace (Low h) = h < 16
IsPlace p = Unit {0}

-- a word is read as the text whose quoted text it is, and the canonical spelling is one of them, so that it is read back
-- and no two texts have the same
pub record QuotedLaw : Type 0 where
  pub reads : (word text : List ℕ) → (text_of word ≡ Some text) ↔ IsQuoted word text
  pub canonical : (text : List ℕ) → All (λ b. b < 256) text → IsQuoted (quoted text) text
  pub back : (text : List ℕ) → All (λ b. b < 256) text → text_of (quoted text) ≡ Some text
  pub unique : (s t : List ℕ) → All (λ b. b < 256) s → All (λ b. b < 256) t → quoted s ≡ quoted t → s ≡ t
