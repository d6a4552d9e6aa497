-- What a reader of texts may answer beside what it reads.
use Rattle.std.specs.Prelude.{◌≡◌, ℕ, ◌<◌, List, length, Option, None}
use Rattle.std.specs.Option.{IsSomeAnd}
use Rattle.rvd_text.specs.declared.errors.TextError.{TextError}
use Rattle.rvd_text.specs.declared.errors.TextError.TheVariants.{BadQuote, TooLong, BadHex, OutOfMemory}

-- when each refusal of a quoted text comes, by the text that the word stands for, if any
abbrev pub IsTextRefusal : ℕ → Option (List ℕ) → TextError → Type 0
IsTextRefusal limit text BadQuote = text ≡ None
IsTextRefusal limit text TooLong = IsSomeAnd text (λ t. limit < length t)
IsTextRefusal limit text BadHex = ⊥
IsTextRefusal limit text OutOfMemory = Unit {0}
