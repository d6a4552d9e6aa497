-- The parts of a line that one word gives: addresses, decimal numbers, quoted texts, and fixed words by their lists. Each
-- reader of a word gives the part or the cause for which it is none.
use Rattle.std.specs.Prelude.{◌≡◌, ℕ, ◌+◌, ◌*◌, ◌^◌, ◌≤◌, Bool, true, false, ◌&&◌, nat_lt, nat_le, ◌==◌, List, [], ◌∷◌, length, Option, Some, None, Result, Ok, Err, if◌then◌else◌, codes}
use Rattle.std.specs.List.{list_all}
use Rattle.std.specs.Str.{bytes_eq}
use Rattle.std.specs.Char.{digit_value, is_ascii_digit}
use Rattle.std.specs.Str.Parse.{digits_value}
use Rattle.rvd_text.specs.Hex.{hex_of}
use Rattle.rvd_text.specs.Quoted.{text_of}
use Rattle.rvd_fact.specs.declared.causes.TextCause.{TextCause}
use Rattle.rvd_fact.specs.declared.causes.TextCause.TheVariants.{UnknownWord, BadAddress, BadNumber, BadText, TooLong}
use Rattle.rvd_fact.specs.declared.keys.Kind.{Kind}
use Rattle.rvd_fact.specs.declared.keys.Kind.TheVariants as kind
use Rattle.rvd_fact.specs.declared.values.Perm.{Perm}
use Rattle.rvd_fact.specs.declared.values.RefClass.{RefClass}
use Rattle.rvd_fact.specs.declared.values.RefClass.TheVariants as class
use Rattle.rvd_ask.specs.declared.asks.Analyzer.{Analyzer}
use Rattle.rvd_ask.specs.declared.asks.Analyzer.TheVariants as analyzer
use Rattle.rvd_script.specs.Steps.{◌>>=◌, given}

-- an address: an optional 0x and 1 to 8 hexadecimal digits of either case; else BadAddress
abbrev pub address_of : List ℕ → Result ℕ TextCause
address_of w = given BadAddress (hex_of w)

-- the length of a block in bytes, spelled as an address and at least 1; else BadAddress
abbrev pub length_of : List ℕ → Result ℕ TextCause
length_of w = address_of w >>= (λ n. if nat_lt 0 n then Ok n else Err BadAddress)

-- the number that one or more decimal digits write
abbrev pub decimal_of : List ℕ → Option ℕ
decimal_of w = if nat_lt 0 (length w) && list_all is_ascii_digit w then Some (digits_value 10 w) else None

-- a number where it lies in a range, both ends inside
abbrev pub within : ℕ → ℕ → Option ℕ → Option ℕ
within low high None = None
within low high (Some n) = if nat_le low n && nat_le n high then Some n else None

-- a decimal number in a range; else BadNumber
abbrev pub number_of : ℕ → ℕ → List ℕ → Result ℕ TextCause
number_of low high w = given BadNumber (within low high (decimal_of w))

-- a text of at most 1,000 bytes; no text is BadText, a longer one TooLong
abbrev pub short_of : Option (List ℕ) → Result (List ℕ) TextCause
short_of None = Err BadText
short_of (Some text) = if nat_le (length text) 1000 then Ok text else Err TooLong

-- a quoted text
abbrev pub quoted_of : List ℕ → Result (List ℕ) TextCause
quoted_of w = short_of (text_of w)

-- a name: a quoted text that isn't empty; an empty one is BadText
abbrev pub name_of : List ℕ → Result (List ℕ) TextCause
name_of w = quoted_of w >>= (λ name. if nat_lt 0 (length name) then Ok name else Err BadText)

-- what a list of fixed words has at a word
abbrev pub look_up : {A : Type 0} → List (List ℕ × A) → List ℕ → Option A
look_up [] w = None
look_up (entry ∷ entries) w = if bytes_eq w entry.0 then Some entry.1 else look_up entries w

-- a fixed word of a list; else UnknownWord
abbrev pub fixed : {A : Type 0} → List (List ℕ × A) → List ℕ → Result A TextCause
fixed entries w = given UnknownWord (look_up entries w)

-- a flag of a permission: its letter, or a dash
abbrev pub flag_of : ℕ → ℕ → Result Bool TextCause
flag_of letter c = if c == letter then Ok true else (if c == 45 then Ok false else Err UnknownWord)

-- a permission of three flags: r, w and x; else UnknownWord
abbrev pub perm_of : List ℕ → Result Perm TextCause
perm_of (r ∷ w ∷ x ∷ []) =
    flag_of 114 r >>= (λ reads. flag_of 119 w >>= (λ writes. flag_of 120 x >>= (λ executes. Ok (record { r = reads; w = writes; x = executes }))))
perm_of word = Err UnknownWord

abbrev pub analyzers : List (List ℕ × Analyzer)
analyzers =
    (codes "flow", analyzer.Flow)
    ∷ (codes "refs", analyzer.Refs)
    ∷ (codes "funcs", analyzer.Funcs)
    ∷ (codes "body", analyzer.Body)
    ∷ (codes "strings", analyzer.Strings)
    ∷ []

abbrev pub classes : List (List ℕ × RefClass)
classes =
    (codes "call", class.Call)
    ∷ (codes "jump", class.Jump)
    ∷ (codes "cond", class.Cond)
    ∷ (codes "data", class.Datum)
    ∷ (codes "read", class.Read)
    ∷ (codes "write", class.Write)
    ∷ []

-- the kinds whose facts may be removed
abbrev pub removable_kinds : List (List ℕ × Kind)
removable_kinds =
    (codes "mark", kind.Mark)
    ∷ (codes "func", kind.Func)
    ∷ (codes "body", kind.Body)
    ∷ (codes "symbol", kind.Symbol)
    ∷ (codes "ref", kind.Ref)
    ∷ (codes "comment", kind.Comment)
    ∷ (codes "bookmark", kind.Bookmark)
    ∷ []

-- the kinds whose deleted facts may be released
abbrev pub releasable_kinds : List (List ℕ × Kind)
releasable_kinds = (codes "unit", kind.Unit) ∷ removable_kinds

-- the kinds of comments, each with its number
abbrev pub comment_kinds : List (List ℕ × ℕ)
comment_kinds =
    (codes "plate", 0)
    ∷ (codes "pre", 1)
    ∷ (codes "eol", 2)
    ∷ (codes "post", 3)
    ∷ (codes "repeatable", 4)
    ∷ []

-- the types of bookmarks, each with its number
abbrev pub bookmark_types : List (List ℕ × ℕ)
bookmark_types =
    (codes "note", 0)
    ∷ (codes "info", 1)
    ∷ (codes "analysis", 2)
    ∷ (codes "warning", 3)
    ∷ (codes "error", 4)
    ∷ []

-- the number that digits write, or None where it takes more than 64 bits
abbrev pub IsValue : List ℕ → Option ℕ → Type 0
IsValue digits None = 2 ^ 64 ≤ digits_value 10 digits
IsValue digits (Some n) = n ≡ digits_value 10 digits

-- a number with one more digit, or None where it takes more than 64 bits
abbrev pub IsAppended : ℕ → ℕ → Option ℕ → Type 0
IsAppended number digit None = 2 ^ 64 ≤ number * 10 + digit_value digit
IsAppended number digit (Some n) = n ≡ number * 10 + digit_value digit
