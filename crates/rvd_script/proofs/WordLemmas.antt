-- The words of a line: the spaces in front of them are passed over, and the first word ends at the first gap behind it. Use
-- them where a reader takes one word after the other.
use Rattle.std.proofs.Common.{◌≡◌, ℕ, zero, suc, ◌-◌, ◌<◌, true, false, cond, List, [], ◌∷◌, refl, ap, ◌∙◌, arith, length, drop, take}
use Rattle.std.specs.Prelude.{◌==◌, nat_eq}
use Rattle.std.proofs.lemmas.List.{take_rest}
use Rattle.std.proofs.lemmas.Bool.Decides.{nat_tests}
use Rattle.rvd_script.specs.declared.words.Place.{Place}
use Rattle.rvd_script.specs.declared.words.Place.TheVariants.{Gap, Plain, Quoted, Escaped}
use Rattle.rvd_script.specs.Words.{is_gap, next_place, grown, words_from, words_of, is_empty, gap_len, word_len}

-- spaces in front of the words
pub words-behind_gap : (cs : List ℕ) → words_of (drop (gap_len cs) cs) ≡ words_of cs
words-behind_gap [] = refl
words-behind_gap (c ∷ cs) = elim (c == 32) as (λ q. (c == 32) ≡ q → words_of (drop (cond q (suc (gap_len cs)) 0) (c ∷ cs)) ≡ words_of (c ∷ cs)) [
  | true ↦ λ e. words-behind_gap cs ∙ rw e refl
  | false ↦ λ e. refl
] refl

-- no space is left in front
pub begins-behind_gap : (cs : List ℕ) → word_len Gap (drop (gap_len cs) cs) ≡ 0 → drop (gap_len cs) cs ≡ []
begins-behind_gap [] h = refl
begins-behind_gap (c ∷ cs) h = elim (c == 32) as (λ q. (c == 32) ≡ q → word_len Gap (drop (cond q (suc (gap_len cs)) 0) (c ∷ cs)) ≡ 0 → drop (cond q (suc (gap_len cs)) 0) (c ∷ cs) ≡ []) [
  | true ↦ λ e. begins-behind_gap cs
  | false ↦ λ e. rw e (elim (c == 34) as (λ q. cond (is_gap (cond q Quoted Plain)) 0 (suc (word_len (cond q Quoted Plain) cs)) ≡ 0 → c ∷ cs ≡ []) [ true ↦ λ h. absurd (cc) | false ↦ λ h. absurd (cc) ])
] refl h

-- a space behind a word is in no word
space : (p : Place) (c : ℕ) (cs : List ℕ) → is_gap p ≡ false → next_place p c ≡ Gap → words_of cs ≡ words_of (c ∷ cs)
space Gap c cs h e = absurd (cc)
space Plain c cs h e = elim (c == 32) as (λ q. (c == 32) ≡ q → cond q Gap Plain ≡ Gap → words_of cs ≡ words_of (c ∷ cs)) [
  | true ↦ λ s _. rw s refl
  | false ↦ λ s f. absurd (cc)
] refl e
space Quoted c cs h e = elim (c == 34) as (λ q. cond q Plain (cond (c == 92) Escaped Quoted) ≡ Gap → words_of cs ≡ words_of (c ∷ cs)) [
  | true ↦ λ f. absurd (cc)
  | false ↦ elim (c == 92) as (λ q. cond q Escaped Quoted ≡ Gap → words_of cs ≡ words_of (c ∷ cs)) [ true ↦ λ f. absurd (cc) | false ↦ λ f. absurd (cc) ]
] e
space Escaped c cs h e = absurd (cc)

ended : (p : Place) (c : ℕ) (ws : List (List ℕ)) → is_gap p ≡ false → grown Gap p c ws ≡ [] ∷ ws
ended Gap c ws h = absurd (cc)
ended Plain c ws h = refl
ended Quoted c ws h = refl
ended Escaped c ws h = refl

-- the rest of a word from a place on, and the words behind it
abbrev IsRest : Place → List ℕ → Type 0
IsRest p cs = words_from p cs ≡ take (word_len p cs) cs ∷ words_of (drop (word_len p cs) cs)

-- the same, of a byte and the place behind it
abbrev IsRestBy : Place → Place → ℕ → List ℕ → Type 0
IsRestBy p q c cs =
    let n = cond (is_gap q) 0 (suc (word_len q cs)) in
    grown q p c (words_from q cs) ≡ take n (c ∷ cs) ∷ words_of (drop n (c ∷ cs))

rest_of_word : (p : Place) (cs : List ℕ) → is_gap p ≡ false → IsRest p cs
rest_of_word Gap cs h = absurd (cc)
rest_of_word Plain [] h = refl
rest_of_word Quoted [] h = refl
rest_of_word Escaped [] h = refl
rest_of_word p (c ∷ cs) h = elim (next_place p c) as (λ q. next_place p c ≡ q → IsRestBy p q c cs) [
  | Gap ↦ λ e. ended p c (words_of cs) h ∙ ap (λ (ws : List (List ℕ)). [] ∷ ws) (space p c cs h e)
  | Plain ↦ λ e. rw (rest_of_word Plain cs refl) refl
  | Quoted ↦ λ e. rw (rest_of_word Quoted cs refl) refl
  | Escaped ↦ λ e. rw (rest_of_word Escaped cs refl) refl
] refl

-- the first word and those behind it, where a byte of it comes first
pub first_word : (cs : List ℕ) → 0 < word_len Gap cs → words_of cs ≡ take (word_len Gap cs) cs ∷ words_of (take (length cs - word_len Gap cs) (drop (word_len Gap cs) cs))
first_word [] h = absurd (omega arith)
first_word (c ∷ cs) h = rw take_rest (elim (next_place Gap c) as (λ q. 0 < cond (is_gap q) 0 (suc (word_len q cs)) → IsRestBy Gap q c cs) [
  | Gap ↦ λ e. absurd (omega arith)
  | Plain ↦ λ e. rw (rest_of_word Plain cs refl) refl
  | Quoted ↦ λ e. rw (rest_of_word Quoted cs refl) refl
  | Escaped ↦ λ e. rw (rest_of_word Escaped cs refl) refl
] h)

-- whether there is a word, by its length
pub tests_empty : (cs : List ℕ) → (word_len Gap cs ≡ 0 → cs ≡ []) → nat_eq (word_len Gap cs) 0 ≡ is_empty (words_of cs)
tests_empty cs begins = elim (word_len Gap cs) as (λ n. word_len Gap cs ≡ n → nat_eq n 0 ≡ is_empty (words_of cs)) [
  | zero ↦ λ e. rw (begins e) refl
  | suc n ↦ λ e. rw (first_word cs (omega arith)) (grind (arith, nat_tests))
] refl
