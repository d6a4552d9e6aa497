-- The words of a line. They are separated by spaces, and a word that begins with a quote has all bytes up to the next quote
-- that no backslash escapes, or up to the line's end where there is none, and those from there to the next space. Use
-- `words_of` for the words from left to right.
use Rattle.std.specs.Prelude.{◌≡◌, ℕ, suc, Bool, true, false, ◌||◌, ◌==◌, List, [], ◌∷◌, Result, Ok, Err, if◌then◌else◌}
use denote.Ref.{Bor}
use Rattle.rvd_fact.specs.declared.causes.TextCause.{TextCause}
use Rattle.rvd_fact.specs.declared.causes.TextCause.TheVariants.{MissingPart}
use Rattle.rvd_script.specs.declared.words.Place.{Place}
use Rattle.rvd_script.specs.declared.words.Place.TheVariants.{Gap, Plain, Quoted, Escaped}

-- whether a place is between words
abbrev pub is_gap : Place → Bool
is_gap Gap = true
is_gap p = false

-- the place behind a byte: in a gap between words, in a word, or within its quotes
abbrev pub next_place : Place → ℕ → Place
next_place Gap c = if c == 32 then Gap else (if c == 34 then Quoted else Plain)
next_place Plain c = if c == 32 then Gap else Plain
next_place Quoted c = if c == 34 then Plain else (if c == 92 then Escaped else Quoted)
next_place Escaped c = Quoted

-- the words from a byte on, by the places behind and before it: a gap ends the word before it, and its spaces are in no word
abbrev pub grown : Place → Place → ℕ → List (List ℕ) → List (List ℕ)
grown Gap Gap c words = words
grown Gap before c words = [] ∷ words
grown behind before c [] = (c ∷ []) ∷ []
grown behind before c (w ∷ words) = (c ∷ w) ∷ words

-- the words from a place on; within a word, the first of them is the rest of that word
abbrev pub words_from : Place → List ℕ → List (List ℕ)
words_from Gap [] = []
words_from p [] = [] ∷ []
words_from p (c ∷ cs) = grown (next_place p c) p c (words_from (next_place p c) cs)

abbrev pub words_of : List ℕ → List (List ℕ)
words_of line = words_from Gap line

-- whether there are no words
abbrev pub is_empty : List (List ℕ) → Bool
is_empty [] = true
is_empty (w ∷ words) = false

-- a line that begins with a hash sign is a comment
abbrev pub is_comment : List ℕ → Bool
is_comment [] = false
is_comment (c ∷ cs) = c == 35

-- a comment, or a line with no words
abbrev pub is_skipped : List ℕ → Bool
is_skipped line = is_comment line || is_empty (words_of line)

-- how many spaces come first
abbrev pub gap_len : List ℕ → ℕ
gap_len [] = 0
gap_len (c ∷ cs) = if c == 32 then suc (gap_len cs) else 0

-- how many bytes come before the gap behind a word, from a place in it on
abbrev pub word_len : Place → List ℕ → ℕ
word_len p [] = 0
word_len p (c ∷ cs) = if is_gap (next_place p c) then 0 else suc (word_len (next_place p c) cs)

-- the next word was taken, or there was none
abbrev pub IsWord : List (List ℕ) → List (List ℕ) → Result (Bor (List ℕ)) TextCause → Type 0
IsWord old new (Ok w) = old ≡ w.now ∷ new
IsWord old new (Err cause) = (old ≡ []) × (new ≡ []) × (cause ≡ MissingPart)
