-- What `{:08x}` and its kin write: the last digits of a number, with zeros before them (`padded_hex`).
use Rattle.std.proofs.Common.{◌≡◌, ℕ, zero, suc, ◌+◌, ◌-◌, ◌/◌, ◌%◌, ◌^◌, ◌<◌, ◌≤◌, Bool, true, false, cond, List, [], ◌∷◌, ◌++◌, length, refl, sym, ap, ◌∙◌, arith, append-nil}
use Rattle.std.specs.Prelude.{replicate, ◌==◌}
use Rattle.std.specs.Fmt.{digits, digits_onto, digit_glyph, padded_integral, char_count, format_spec}
use Rattle.std.proofs.lemmas.Bool.{eqb-true, eq-eqb}
use Rattle.rvd_decode.specs.Text.{hex, hex_onto}

-- n zeros before one more
zeros_more : (n : ℕ) (xs : List ℕ) → replicate n 48 ++ (48 ∷ xs) ≡ replicate (suc n) 48 ++ xs
zeros_more zero xs = refl
zeros_more (suc n) xs = ap (λ ys. 48 ∷ ys) (zeros_more n xs)

-- the digits of 0 are zeros
hex_onto-zero : (k : ℕ) (xs : List ℕ) → hex_onto k 0 xs ≡ replicate k 48 ++ xs
hex_onto-zero zero xs = refl
hex_onto-zero (suc k) xs = hex_onto-zero k (48 ∷ xs) ∙ zeros_more k xs

-- std's digits, of at most f digits, with zeros before them up to k digits
abbrev padded_onto : ℕ → ℕ → ℕ → List ℕ → List ℕ
padded_onto k f n xs = replicate (k + length xs - length (digits_onto f 16 false n xs)) 48 ++ digits_onto f 16 false n xs

-- a number has at most k digits
abbrev IsShort : ℕ → ℕ → Type 0
IsShort zero n = n ≡ 0
IsShort (suc k) n = IsShort k (n / 16)

-- the last digit, before the rest
abbrev with_last : ℕ → List ℕ → List ℕ
with_last n xs = digit_glyph false (n % 16) ∷ xs

-- one step of the digits, by whether the last digit is the only one
abbrev step : ℕ → ℕ → ℕ → List ℕ → Bool → List ℕ
step k f n xs b =
    let shown = cond b (with_last n xs) (digits_onto f 16 false (n / 16) (with_last n xs)) in
    replicate (suc k + length xs - length shown) 48 ++ shown

step_last : (k f n : ℕ) (xs : List ℕ) → n / 16 ≡ 0 → step k f n xs true ≡ hex_onto k (n / 16) (with_last n xs)
step_last k f n xs e =
    let zeros : suc k + length xs - suc (length xs) ≡ k = omega arith in
    ap (λ m. replicate m 48 ++ with_last n xs) zeros
    ∙ sym (hex_onto-zero k (with_last n xs))
    ∙ ap (λ m. hex_onto k m (with_last n xs)) (sym e)

padded_onto_is : (k f n : ℕ) (xs : List ℕ) → k ≤ f → IsShort (suc k) n → padded_onto (suc k) (suc f) n xs ≡ hex_onto (suc k) n xs
padded_onto_is zero f n xs l h = ap (step zero f n xs) (eq-eqb (n / 16) 0 h) ∙ step_last zero f n xs h
padded_onto_is (suc k) zero n xs l h = absurd (omega arith)
padded_onto_is (suc k) (suc f) n xs l h =
    elim (n / 16 == 0) as (λ b. (n / 16 == 0) ≡ b → step (suc k) (suc f) n xs b ≡ hex_onto (suc k) (n / 16) (with_last n xs)) [
      | true ↦ λ e. step_last (suc k) (suc f) n xs (eqb-true (n / 16) 0 e)
      | false ↦ λ e.
          let width : suc (suc k) + length xs ≡ suc k + suc (length xs) = omega arith in
          let rest = digits_onto (suc f) 16 false (n / 16) (with_last n xs) in
          ap (λ m. replicate (m - length rest) 48 ++ rest) width ∙ padded_onto_is k f (n / 16) (with_last n xs) (omega arith) h
    ] refl

-- what a width with zeros writes
padded-zeros : (width : ℕ) (shown : List ℕ) → padded_integral (format_spec 32 0 4 width (2 ^ 64 - 1)) false [] shown ≡ replicate (width - length shown) 48 ++ shown
unfolding padded_integral char_count
padded-zeros width shown =
    let same : width - length shown - 0 - 0 ≡ width - length shown = omega arith in
    ap (λ m. replicate m 48 ++ (shown ++ [])) same ∙ ap (λ xs. replicate (width - length shown) 48 ++ xs) (append-nil shown)

padded-hex : (k n : ℕ) → k ≤ 63 → IsShort (suc k) n → padded_integral (format_spec 32 0 4 (suc k) (2 ^ 64 - 1)) false [] (digits 16 false n) ≡ hex (suc k) n
unfolding digits hex
padded-hex k n l h =
    let shown = digits_onto 64 16 false n [] in
    let width : suc k ≡ suc k + 0 = omega arith in
    padded-zeros (suc k) shown ∙ ap (λ m. replicate (m - length shown) 48 ++ shown) width ∙ padded_onto_is k 63 n [] l h

-- what `{:08x}` writes of a word
pub padded_hex_8 : (n : ℕ) → n < 2 ^ 32 → padded_integral (format_spec 32 0 4 8 (2 ^ 64 - 1)) false [] (digits 16 false n) ≡ hex 8 n
padded_hex_8 n h = padded-hex 7 n (omega arith) (omega arith)

-- what `{:05x}` writes of twenty bits
pub padded_hex_5 : (n : ℕ) → n < 2 ^ 20 → padded_integral (format_spec 32 0 4 5 (2 ^ 64 - 1)) false [] (digits 16 false n) ≡ hex 5 n
padded_hex_5 n h = padded-hex 4 n (omega arith) (omega arith)
