-- Words with a space between each two: the first one, and the others each with a space before it. Use `words_appended`
-- and `first_kept` where a first word and then the others are appended.
use Rattle.std.proofs.Common.{◌≡◌, ℕ, ◌-◌, ◌≤◌, List, [], ◌∷◌, ◌++◌, append_assoc, codes, drop, flat_map, get_or, length, map, take, Result, Ok, Err, OnErr, OnOk, sym, ap, subst, ◌∙◌, arith}
use Rattle.std.specs.List.{join_with_byte}
use Rattle.std.proofs.Math.Seq.{take-length}
use Rattle.std.proofs.lemmas.List.{append-nil}
use Rattle.std.proofs.lemmas.List.Folds.{flat_map-map}
use Rattle.rvd_notation.specs.Pieces.{Keeps}
use Rattle.rvd_notation.proofs.Kept.{Keeps-front}
use Rattle.rvd_query.specs.Reply.{words_text}

joined : (word : List ℕ) (words : List (List ℕ)) → join_with_byte 32 (word ∷ words) ≡ word ++ flat_map (λ w. codes " " ++ w) words
joined word [] = sym (append-nil word)
joined word (next ∷ words) = ap (λ rest. word ++ (32 ∷ rest)) (joined next words)

module _ {A : Type 0} (text : A → List ℕ) where
  -- items, each with a space before it
  abbrev spaced : List A → List ℕ
  spaced xs = flat_map (λ x. codes " " ++ text x) xs

  words_from : (x : A) (xs : List A) → words_text (map text (x ∷ xs)) ≡ text x ++ spaced xs
  words_from x xs = joined (text x) (map text xs) ∙ ap (λ rest. text x ++ rest) (flat_map-map (λ w. codes " " ++ w) text xs)

  -- the same for a list with at least one
  words_up : (xs : List A) (d : A) → 1 ≤ length xs → words_text (map text xs) ≡ text (get_or xs 0 d) ++ spaced (take (length xs - 1) (drop 1 xs))
  words_up [] d h = absurd (omega arith)
  words_up (x ∷ xs) d h =
      let less : length (x ∷ xs) - 1 ≡ length xs = omega arith in
      let all : take (length (x ∷ xs) - 1) xs ≡ xs = ap (λ n. take n xs) less ∙ take-length xs in
      words_from x xs ∙ ap (λ ys. text x ++ spaced ys) (sym all)

  pub words_appended : {E : Type 0} (r : Result (Unit {0}) E) (xs : List A) (d : A) (old mid new : List ℕ) → 1 ≤ length xs → mid ≡ old ++ text (get_or xs 0 d)
      → OnOk r (new ≡ mid ++ spaced (take (length xs - 1) (drop 1 xs))) → OnOk r (new ≡ old ++ words_text (map text xs))
  words_appended r xs d old mid new some begun done =
      let whole : mid ++ spaced (take (length xs - 1) (drop 1 xs)) ≡ old ++ words_text (map text xs) =
      ap (λ front. front ++ spaced (take (length xs - 1) (drop 1 xs))) begun
      ∙ append_assoc old (text (get_or xs 0 d)) (spaced (take (length xs - 1) (drop 1 xs)))
      ∙ ap (λ rest. old ++ rest) (sym (words_up xs d some)) in
      subst (λ all. OnOk r (new ≡ all)) whole done

-- what keeps a text and a first word keeps the text
pub first_kept : {E : Type 0} (r : Result (Unit {0}) E) (old word mid new : List ℕ) → mid ≡ old ++ word → OnErr r (Keeps mid new) → OnErr r (Keeps old new)
first_kept (Ok u) old word mid new begun kept = tt
first_kept (Err e) old word mid new begun kept = Keeps-front old word new (subst (λ front. Keeps front new) begun kept)
