-- Bytes of text before a zero, asked for one by one. Use `text_len-before` and `byte_asks-listed` to see the definitions as
-- recursions over the first bytes of a block alone, and `before-more` with the lemmas beside it for the steps of a loop.
use Rattle.std.proofs.Common.{◌≡◌, ℕ, zero, suc, ◌+◌, ◌<◌, ◌≤◌, Bool, true, false, cond, List, [], ◌∷◌, ◌++◌, length, get_or, take, drop, Option, Some, None, refl, sym, ap, ◌∙◌, zero-add, arith}
use Rattle.std.specs.Prelude.{◌==◌}
use Rattle.std.specs.Option.{option_map}
use Rattle.std.proofs.lemmas.Bool.{cond_both}
use Rattle.std.proofs.lemmas.List.{at_drop_all, at_drop_more}
use Rattle.rvd_ask.specs.declared.asks.Ask.{Ask}
use Rattle.rvd_ask.specs.declared.asks.Ask.TheVariants as ask
use Rattle.rvd_ask.specs.Answers.{only_if}
use Rattle.rvd_ask.specs.Strings.{byte_asks, is_text_byte, text_len}

-- how many bytes of text a list begins with before a zero; nothing where something else comes, or no zero
abbrev pub text_before : List ℕ → Option ℕ
text_before [] = None
text_before (b ∷ bs) = cond (b == 0) (Some 0) (cond (is_text_byte b) (option_map (λ len. len + 1) (text_before bs)) None)

-- the bytes of a list that stand from t on, one by one, up to the first that is no text
abbrev pub listed_asks : ℕ → List ℕ → List Ask
listed_asks t [] = []
listed_asks t (b ∷ bs) = ask.Bytes t 1 ∷ only_if (is_text_byte b) (listed_asks (t + 1) bs)

-- ---- the definitions look at one byte more than n
pub text_len-before : (n : ℕ) (bs : List ℕ) → text_len n bs ≡ text_before (take (suc n) bs)
text_len-before n [] = refl
text_len-before zero (b ∷ bs) = ap (cond (b == 0) (Some 0)) (cond_both (is_text_byte b) None None (λ o. None ≡ o) (λ h. refl) (λ h. refl))
text_len-before (suc n) (b ∷ bs) = ap (λ o. cond (b == 0) (Some 0) (cond (is_text_byte b) (option_map (λ len. len + 1) o) None)) (text_len-before n bs)

none_behind : (b : Bool) → only_if b [] ≡ []
none_behind true = refl
none_behind false = refl

pub byte_asks-listed : (t n : ℕ) (bs : List ℕ) → byte_asks t n bs ≡ listed_asks t (take (suc n) bs)
byte_asks-listed t n [] = refl
byte_asks-listed t zero (b ∷ bs) = ap (λ qs. ask.Bytes t 1 ∷ qs) (sym (none_behind (is_text_byte b)))
byte_asks-listed t (suc n) (b ∷ bs) = ap (λ qs. ask.Bytes t 1 ∷ only_if (is_text_byte b) qs) (byte_asks-listed (t + 1) n bs)

-- ---- how long a text may be
abbrev pub Shorter : ℕ → Option ℕ → Type 0
Shorter n None = Unit {0}
Shorter n (Some len) = len < n

shorter_more : (n : ℕ) (o : Option ℕ) → Shorter n o → Shorter (suc n) (option_map (λ len. len + 1) o)
shorter_more n None h = tt
shorter_more n (Some len) h = omega (arith, h)

pub before-shorter : (bs : List ℕ) → Shorter (length bs) (text_before bs)
before-shorter [] = tt
before-shorter (b ∷ bs) =
    cond_both (b == 0) (Some 0) (cond (is_text_byte b) (option_map (λ len. len + 1) (text_before bs)) None) (Shorter (suc (length bs))) (λ h. omega arith)
    (λ h. cond_both (is_text_byte b) (option_map (λ len. len + 1) (text_before bs)) None (Shorter (suc (length bs)))
    (λ is. shorter_more (length bs) (text_before bs) (before-shorter bs)) (λ is. tt))

-- ---- the steps of a loop over the bytes xs from t on: d of them were text
further : (d : ℕ) (o : Option ℕ) → option_map (λ len. len + d) (option_map (λ len. len + 1) o) ≡ option_map (λ len. len + (d + 1)) o
further d None = refl
further d (Some len) = let same : len + 1 + d ≡ len + (d + 1) = omega arith in ap Some same

-- the length of the whole text, by what is left
abbrev pub whole : ℕ → List ℕ → Option ℕ
whole d bs = option_map (λ len. len + d) (text_before bs)

module _ (t : ℕ) (xs : List ℕ) (d : ℕ) (low : d < length xs) where
  abbrev pub next : ℕ
  next = get_or xs d 0

  next_place : t + d + 1 ≡ t + (d + 1)
  next_place = omega arith

  pub before-more : (next == 0) ≡ false → is_text_byte next ≡ true → whole d (drop d xs) ≡ whole (d + 1) (drop (d + 1) xs)
  before-more other is =
      at_drop_more (whole d) xs d 0 low
      ∙ (λ i. option_map (λ len. len + d) (cond (other i) (Some 0) (cond (is i) (option_map (λ len. len + 1) (text_before (drop (d + 1) xs))) None)))
      ∙ further d (text_before (drop (d + 1) xs))

  pub before-zero : (next == 0) ≡ true → whole d (drop d xs) ≡ Some d
  before-zero is = at_drop_more (whole d) xs d 0 low ∙ (λ i. option_map (λ len. len + d) (cond (is i) (Some 0) (cond (is_text_byte next) (option_map (λ len. len + 1) (text_before (drop (d + 1) xs))) None))) ∙ ap Some (zero-add d)

  pub before-other : (next == 0) ≡ false → is_text_byte next ≡ false → whole d (drop d xs) ≡ None
  before-other other not_text =
      at_drop_more (whole d) xs d 0 low
      ∙ (λ i. option_map (λ len. len + d) (cond (other i) (Some 0) (cond (not_text i) (option_map (λ len. len + 1) (text_before (drop (d + 1) xs))) None)))

  pub asks-more : is_text_byte next ≡ true → listed_asks (t + d) (drop d xs) ≡ (ask.Bytes (t + d) 1 ∷ []) ++ listed_asks (t + (d + 1)) (drop (d + 1) xs)
  asks-more is =
      at_drop_more (listed_asks (t + d)) xs d 0 low
      ∙ (λ i. ask.Bytes (t + d) 1 ∷ only_if (is i) (listed_asks (next_place i) (drop (d + 1) xs)))

  pub asks-end : is_text_byte next ≡ false → listed_asks (t + d) (drop d xs) ≡ ask.Bytes (t + d) 1 ∷ []
  asks-end not_text = at_drop_more (listed_asks (t + d)) xs d 0 low ∙ (λ i. ask.Bytes (t + d) 1 ∷ only_if (not_text i) (listed_asks (t + d + 1) (drop (d + 1) xs)))

pub before-all : (xs : List ℕ) (d : ℕ) → length xs ≤ d → whole d (drop d xs) ≡ None
before-all xs d h = at_drop_all (whole d) xs d h

pub asks-all : (t : ℕ) (xs : List ℕ) (d : ℕ) → length xs ≤ d → listed_asks (t + d) (drop d xs) ≡ []
asks-all t xs d h = at_drop_all (listed_asks (t + d)) xs d h

-- at the beginning
pub whole-0 : (bs : List ℕ) → whole 0 bs ≡ text_before bs
whole-0 bs = same (text_before bs)
  where
    same : (o : Option ℕ) → option_map (λ len. len + 0) o ≡ o
    same None = refl
    same (Some len) = let none : len + 0 ≡ len = omega arith in ap Some none

-- a zero is no text
pub zero_ends : (b : ℕ) → b ≡ 0 → is_text_byte b ≡ false
zero_ends b h = ap is_text_byte h
