-- The ranges of a body line: 1 to 64 words FIRST-LAST, in any order, which may overlap and touch. Use `ranges_of` for the set
-- of addresses that the words make.
use Rattle.std.specs.Prelude.{ℕ, ◌+◌, nat_le, nat_lt, ◌==◌, List, [], ◌∷◌, take, drop, position, min, max, Option, Some, None, Result, Ok, Err, if◌then◌else◌}
use Rattle.rvd_fact.specs.declared.causes.TextCause.{TextCause}
use Rattle.rvd_fact.specs.declared.causes.TextCause.TheVariants.{BadAddress, MissingPart, TooLong}
use Rattle.rvd_script.specs.Steps.{◌>>=◌, Step}
use Rattle.rvd_script.specs.Parts.{address_of}

-- two addresses, of which the first isn't above the last; else BadAddress
abbrev pub ordered : ℕ → ℕ → Result (ℕ × ℕ) TextCause
ordered first last = if nat_le first last then Ok (first, last) else Err BadAddress

-- the two addresses beside a dash; else BadAddress
abbrev pub around_dash : List ℕ → Option ℕ → Result (ℕ × ℕ) TextCause
around_dash w None = Err BadAddress
around_dash w (Some dash) = address_of (take dash w) >>= (λ first. address_of (drop (dash + 1) w) >>= (λ last. ordered first last))

-- FIRST-LAST, by its first dash
abbrev pub range_of : List ℕ → Result (ℕ × ℕ) TextCause
range_of w = around_dash w (position (λ c. c == 45) w)

-- a set of addresses with those from first to last: a range becomes one with those that it meets or touches
abbrev pub joined : List (ℕ × ℕ) → ℕ → ℕ → List (ℕ × ℕ)
joined [] first last = (first, last) ∷ []
joined (r ∷ set) first last =
    if nat_lt (r.1 + 1) first then r ∷ joined set first last
    else (if nat_lt (last + 1) r.0 then (first, last) ∷ r ∷ set else joined set (min first r.0) (max last r.1))

-- a set with the range of a word
abbrev pub with_range : List (ℕ × ℕ) → List ℕ → Result (List (ℕ × ℕ)) TextCause
with_range set w = range_of w >>= (λ r. Ok (joined set r.0 r.1))

-- a set of so many words with the ranges of more; the 65th is TooLong, whatever it is
abbrev pub with_ranges : ℕ → List (ℕ × ℕ) → List (List ℕ) → Step (List (ℕ × ℕ))
with_ranges n set [] = Ok (set, [])
with_ranges n set (w ∷ words) = if nat_lt n 64 then with_range set w >>= (λ more. with_ranges (n + 1) more words) else Err TooLong

-- the set of the words' ranges; no word is MissingPart
unfoldable pub ranges_of : List (List ℕ) → Step (List (ℕ × ℕ))
ranges_of [] = Err MissingPart
ranges_of (w ∷ words) = with_ranges 0 [] (w ∷ words)
