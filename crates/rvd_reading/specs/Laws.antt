-- What is printed is read back, whatever stands behind it; behind a number, no digit may stand.
use Rattle.std.specs.Prelude.{◌≡◌, ℕ, ◌+◌, ◌^◌, ◌<◌, ◌≤◌, nat_eq, true, false, List, ◌∷◌, ◌++◌, length, Some, codes}
use Rattle.std.specs.List.{All, starts_with}
use Rattle.std.specs.Fmt.{decimal}
use Rattle.rvd_text.specs.Hex.{hex8}
use Rattle.rvd_text.specs.Quoted.{quoted}
use Rattle.rvd_fact.specs.declared.keys.Kind.{Kind}
use Rattle.rvd_fact.specs.declared.keys.Key.{Key}
use Rattle.rvd_fact.specs.declared.values.Source.{Source}
use Rattle.rvd_fact.specs.declared.cells.Cell.{Cell}
use Rattle.rvd_fact.specs.declared.values.Form.{Form}
use Rattle.rvd_fact.specs.declared.values.Perm.{Perm}
use Rattle.rvd_fact.specs.declared.values.RefClass.{RefClass}
use Rattle.rvd_fact.specs.Ranges.{is_range_set}
use Rattle.rvd_ask.specs.declared.asks.Analyzer.{Analyzer}
use Rattle.rvd_event.specs.declared.queries.Names.{Names}
use Rattle.rvd_notation.specs.Words.{bookmark_word, class_word, comment_word, form_words, key_text, kind_word, perm_word, range_text, ranges_text, source_word}
use Rattle.rvd_notation.specs.Values.{value_text}
use Rattle.rvd_notation.specs.Actors.{actor_text, analyzer_word}
use Rattle.rvd_reading.specs.Fixed.{analyzers, classes, fixed, kinds, sources}
use Rattle.rvd_reading.specs.Numbers.{begins_with_digit, hex8_of, number_of}
use Rattle.rvd_reading.specs.Quotes.{quoted_of}
use Rattle.rvd_reading.specs.Keys.{key_of}
use Rattle.rvd_reading.specs.Facts.{FitsForm, bookmark_type_of, comment_kind_of, form_of, perm_of}
use Rattle.rvd_reading.specs.Actors.{actor_of}
use Rattle.rvd_reading.specs.Lists.{range_of, ranges_of}
use Rattle.rvd_reading.specs.Values.{FitsValue, bare, cell_of}

pub record WordLaw : Type 0 where
  pub kind : (k : Kind) (rest : List ℕ) → fixed kinds (kind_word k ++ rest) ≡ Some (k, rest)
  pub source : (s : Source) (rest : List ℕ) → fixed sources (source_word s ++ rest) ≡ Some (s, rest)
  pub class : (c : RefClass) (rest : List ℕ) → fixed classes (class_word c ++ rest) ≡ Some (c, rest)
  pub analyzer : (a : Analyzer) (rest : List ℕ) → fixed analyzers (analyzer_word a ++ rest) ≡ Some (a, rest)

pub record NumberLaw : Type 0 where
  pub hexadecimal : (n : ℕ) (rest : List ℕ) → n < 2 ^ 32 → hex8_of (hex8 n ++ rest) ≡ Some (n, rest)
  pub plain : (max n : ℕ) (rest : List ℕ) → n ≤ max → n < 2 ^ 64 → begins_with_digit rest ≡ false → number_of max (decimal n ++ rest) ≡ Some (n, rest)

pub record TextLaw : Type 0 where
  pub text : (text rest : List ℕ) → All (λ b. b < 256) text → length text ≤ 1000 → quoted_of (quoted text ++ rest) ≡ Some (text, rest)
  pub key : (k : Key) (rest : List ℕ) → k.at < 2 ^ 32 → k.sub < 256 → begins_with_digit rest ≡ false → key_of (key_text k ++ rest) ≡ Some (k, rest)

pub record FactLaw : Type 0 where
  pub perm : (p : Perm) (rest : List ℕ) → perm_of (perm_word p ++ rest) ≡ Some (p, rest)
  pub form : (f : Form) (rest : List ℕ) → FitsForm f → begins_with_digit rest ≡ false → form_of (form_words f ++ rest) ≡ Some (f, rest)
  pub comment_kind : (sub : ℕ) (rest : List ℕ) → sub < 256 → begins_with_digit rest ≡ false → comment_kind_of (comment_word sub ++ rest) ≡ Some (sub, rest)
  pub bookmark_type : (sub : ℕ) (rest : List ℕ) → sub < 256 → begins_with_digit rest ≡ false → bookmark_type_of (bookmark_word sub ++ rest) ≡ Some (sub, rest)

pub record PlaceLaw : Type 0 where
  pub actor : (names : Names) (actor : ℕ) (rest : List ℕ) → 0 < actor → actor ≤ names.sessions + names.workers → actor < 2 ^ 32 → begins_with_digit rest ≡ false → actor_of names (actor_text names actor ++ rest) ≡ Some (actor, rest)
  pub range : (r : ℕ × ℕ) (rest : List ℕ) → r.0 < 2 ^ 32 → r.1 < 2 ^ 32 → range_of (range_text r ++ rest) ≡ Some (r, rest)

-- behind a cell a bracket closes. Of a block, its text tells all but the bytes
pub record CellLaw : Type 0 where
  pub ranges : (rs : List (ℕ × ℕ)) (rest : List ℕ) → is_range_set rs ≡ true → starts_with nat_eq rest (codes ",") ≡ false → ranges_of (ranges_text rs ++ rest) ≡ Some (rs, rest)
  pub cell : (k : Key) (c : Cell) (more : List ℕ) → k.sub < 256 → FitsValue c.value → cell_of (value_text k c ++ 93 ∷ more) ≡ Some (record { source = c.source; value = bare c.value }, 93 ∷ more)
