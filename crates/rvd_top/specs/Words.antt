-- The command words. A list of words is a command exactly where `command_of` tells one; `files_of` says which of the words name
-- its files.
use Rattle.std.specs.Prelude.{ℕ, ◌+◌, Bool, ◌&&◌, ◌||◌, ◌==◌, nat_lt, if◌then◌else◌, List, [], ◌∷◌, length, drop, slice_index, codes, Option, None, Some}
use Rattle.std.specs.Str.{bytes_eq}
use Rattle.rvd_top.specs.declared.words.Command.{Command}
use Rattle.rvd_top.specs.declared.words.Command.TheVariants as command

abbrev pub begins_with_dash : List ℕ → Bool
begins_with_dash word = nat_lt 0 (length word) && (slice_index word 0 == 45)

-- the commands of one further word, and those of two
abbrev pub command_of_one : List ℕ → Option Command
command_of_one word =
    if bytes_eq word (codes "show") then Some command.Show
    else (if bytes_eq word (codes "list") then Some command.List
    else (if bytes_eq word (codes "gen") then Some command.Gen
    else None))

abbrev pub command_of_two : List ℕ → Option Command
command_of_two word =
    if bytes_eq word (codes "play") then Some command.Play
    else (if bytes_eq word (codes "replay") then Some command.Replay
    else None)

-- a command and its further words, none of which begins with a dash
abbrev pub command_of : List (List ℕ) → Option Command
command_of (word ∷ first ∷ []) = if begins_with_dash first then None else command_of_one word
command_of (word ∷ first ∷ second ∷ []) = if begins_with_dash first || begins_with_dash second then None else command_of_two word
command_of words = None

-- the most bytes of a file, and of a journal
abbrev pub max_file : ℕ
max_file = 33554432

abbrev pub max_journal : ℕ
max_journal = 1073741824

-- the most bytes of the file that a word of a command names, by its place
abbrev pub limit_at : Command → ℕ → ℕ
limit_at command.Show word = max_file
limit_at command.List word = max_file
limit_at command.Play word = max_file
limit_at command.Replay word = if word == 2 then max_journal else max_file
limit_at command.Gen word = max_file

-- a file of a command: the place of the word that names it, counted from 0, the name, and the most bytes that it may have
pub record Source : Type 0 where
  pub word : ℕ
  pub name : List ℕ
  pub limit : ℕ

abbrev pub source : ℕ → List ℕ → ℕ → Source
source word name limit = record { word = word; name = name; limit = limit }

-- the files that words name, the first of which stands at a place
abbrev pub sources : Command → ℕ → List (List ℕ) → List Source
sources command word [] = []
sources command word (name ∷ names) = source word name (limit_at command word) ∷ sources command (word + 1) names

-- the names of a command's files: all words behind the first; that of `gen` is a number
abbrev pub names_in : Command → List (List ℕ) → List (List ℕ)
names_in command.Gen words = []
names_in command words = drop 1 words

-- the files of a command, in word order
abbrev pub files_of : Command → List (List ℕ) → List Source
files_of command words = sources command 1 (names_in command words)

-- how many files a command has
abbrev pub file_count : Command → ℕ
file_count command.Show = 1
file_count command.List = 1
file_count command.Play = 2
file_count command.Replay = 2
file_count command.Gen = 0
