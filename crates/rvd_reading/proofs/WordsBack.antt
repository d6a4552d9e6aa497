-- Fixed words are read back. Use `word_law`.
use Rattle.std.proofs.Common.{◌≡◌, ℕ, List, ◌++◌, Some, refl}
use Rattle.rvd_fact.specs.declared.keys.Kind.{Kind}
use Rattle.rvd_fact.specs.declared.keys.Kind.TheVariants as kind
use Rattle.rvd_fact.specs.declared.values.Source.{Source}
use Rattle.rvd_fact.specs.declared.values.Source.TheVariants as source
use Rattle.rvd_fact.specs.declared.values.RefClass.{RefClass}
use Rattle.rvd_fact.specs.declared.values.RefClass.TheVariants as class
use Rattle.rvd_ask.specs.declared.asks.Analyzer.{Analyzer}
use Rattle.rvd_ask.specs.declared.asks.Analyzer.TheVariants as analyzer
use Rattle.rvd_notation.specs.Words.{class_word, kind_word, source_word}
use Rattle.rvd_notation.specs.Actors.{analyzer_word}
use Rattle.rvd_reading.specs.Fixed.{analyzers, classes, fixed, kinds, sources}
use Rattle.rvd_reading.specs.Laws.{WordLaw}

pub kind-back : (k : Kind) (rest : List ℕ) → fixed kinds (kind_word k ++ rest) ≡ Some (k, rest)
kind-back kind.Block rest = refl
kind-back kind.Mark rest = refl
kind-back kind.Func rest = refl
kind-back kind.Body rest = refl
kind-back kind.Symbol rest = refl
kind-back kind.Comment rest = refl
kind-back kind.Bookmark rest = refl
kind-back kind.Unit rest = refl
kind-back kind.Ref rest = refl

pub source-back : (s : Source) (rest : List ℕ) → fixed sources (source_word s ++ rest) ≡ Some (s, rest)
source-back source.Default rest = refl
source-back source.Analysis rest = refl
source-back source.Imported rest = refl
source-back source.UserDefined rest = refl

pub class-back : (c : RefClass) (rest : List ℕ) → fixed classes (class_word c ++ rest) ≡ Some (c, rest)
class-back class.Call rest = refl
class-back class.Jump rest = refl
class-back class.Cond rest = refl
class-back class.Datum rest = refl
class-back class.Read rest = refl
class-back class.Write rest = refl

pub analyzer-back : (a : Analyzer) (rest : List ℕ) → fixed analyzers (analyzer_word a ++ rest) ≡ Some (a, rest)
analyzer-back analyzer.Flow rest = refl
analyzer-back analyzer.Refs rest = refl
analyzer-back analyzer.Funcs rest = refl
analyzer-back analyzer.Body rest = refl
analyzer-back analyzer.Strings rest = refl

pub word_law : WordLaw
word_law = record { kind = kind-back; source = source-back; class = class-back; analyzer = analyzer-back }
