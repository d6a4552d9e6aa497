-- The lines of sessions and of workers. Use `session_line` and `worker_line` for what the words of a line call, from the
-- word on that names the event.
use Rattle.std.specs.Prelude.{ℕ, Bool, true, false, List, [], ◌∷◌, Option, Some, None, Result, Ok, if◌then◌else◌, codes}
use Rattle.std.specs.Str.{bytes_eq}
use Rattle.rvd_fact.specs.declared.causes.TextCause.{TextCause}
use Rattle.rvd_event.specs.declared.events.Event.TheVariants as event
use Rattle.rvd_event.specs.declared.queries.Query.{Query}
use Rattle.rvd_event.specs.declared.queries.Query.TheVariants as query
use Rattle.rvd_script.specs.declared.script_lines.What1.{What1}
use Rattle.rvd_script.specs.declared.script_lines.What1.TheVariants.{Call, Ask, Settle}
use Rattle.rvd_script.specs.declared.event_lines.SessionWord.{SessionWord}
use Rattle.rvd_script.specs.declared.event_lines.SessionWord.TheVariants as session
use Rattle.rvd_script.specs.declared.event_lines.QueryWord.{QueryWord}
use Rattle.rvd_script.specs.declared.event_lines.QueryWord.TheVariants as asked
use Rattle.rvd_script.specs.declared.event_lines.WorkerWord.{WorkerWord}
use Rattle.rvd_script.specs.declared.event_lines.WorkerWord.TheVariants as worker
use Rattle.rvd_script.specs.Steps.{◌>>=◌, Step, finished, part}
use Rattle.rvd_script.specs.Parts.{address_of, analyzers, fixed, look_up, number_of, quoted_of}
use Rattle.rvd_script.specs.EditLines.{edit_of, edit_words}

-- the first words of a session's lines, edits aside
abbrev pub session_words : List (List ℕ × SessionWord)
session_words =
    (codes "begin", session.Begin)
    ∷ (codes "commit", session.End true)
    ∷ (codes "abort", session.End false)
    ∷ (codes "undo", session.Undo)
    ∷ (codes "redo", session.Redo)
    ∷ (codes "full", session.Full)
    ∷ (codes "cancel", session.Cancel)
    ∷ (codes "read", session.Read)
    ∷ (codes "wait", session.Wait)
    ∷ (codes "enable", session.Enable true)
    ∷ (codes "disable", session.Enable false)
    ∷ (codes "ask", session.Ask)
    ∷ []

-- or else the first word of an edit; else UnknownWord
abbrev pub or_edit : List ℕ → Option SessionWord → Result SessionWord TextCause
or_edit w None = fixed edit_words w >>= (λ first. Ok (session.Edit first))
or_edit w (Some first) = Ok first

abbrev pub session_word_of : List ℕ → Result SessionWord TextCause
session_word_of w = or_edit w (look_up session_words w)

-- the words behind ask
abbrev pub queries : List (List ℕ × QueryWord)
queries =
    (codes "unit", asked.Unit)
    ∷ (codes "name", asked.Name)
    ∷ (codes "xrefs", asked.Xrefs)
    ∷ (codes "func", asked.Func)
    ∷ (codes "count", asked.Count)
    ∷ []

-- a query of an address
abbrev pub query_at : (ℕ → Query) → List (List ℕ) → Step Query
query_at of_address words = part address_of words >>= (λ at. Ok (of_address at.0, at.1))

-- a query by its word and what is behind it
abbrev pub query_behind : QueryWord → List (List ℕ) → Step Query
query_behind asked.Unit words = query_at query.Unit words
query_behind asked.Name words = query_at query.Name words
query_behind asked.Xrefs words = query_at query.Xrefs words
query_behind asked.Func words = query_at query.Func words
query_behind asked.Count words = Ok (query.Count, words)

unfoldable pub query_of : List (List ℕ) → Step Query
query_of words = do
  first ← part (fixed queries) words
  query_behind first.0 first.1

-- what a session's line calls by its first word and what is behind it
abbrev pub call_of : SessionWord → List (List ℕ) → Step What1
call_of session.Begin words = part quoted_of words >>= (λ text. Ok (Call (event.Begin text.0), text.1))
call_of (session.End commit) words = Ok (Call (event.End commit), words)
call_of session.Undo words = Ok (Call event.Undo, words)
call_of session.Redo words = Ok (Call event.Redo, words)
call_of session.Full words = Ok (Call event.Full, words)
call_of session.Cancel words = Ok (Call event.Cancel, words)
call_of session.Read words = Ok (Call event.Read, words)
call_of session.Wait words = Ok (Call event.Wait, words)
call_of (session.Enable on) words = part (fixed analyzers) words >>= (λ a. Ok (Call (event.Enable a.0 on), a.1))
call_of session.Ask words = query_of words >>= (λ q. Ok (Ask q.0, q.1))
call_of (session.Edit first) words = edit_of first words >>= (λ e. Ok (Call (event.Edit e.0), e.1))

-- a line of a script, and of a session that isn't closed by it
unfoldable pub session_line : List (List ℕ) → Result What1 TextCause
session_line words = do
  first ← part session_word_of words
  what ← call_of first.0 first.1
  finished what.0 what.1

-- a session's line in an event file, which may also be close
abbrev pub is_close : List (List ℕ) → Bool
is_close [] = false
is_close (w ∷ words) = bytes_eq w (codes "close")

abbrev pub behind_close : List (List ℕ) → Result What1 TextCause
behind_close [] = Ok (Call event.Close)
behind_close (w ∷ words) = finished (Call event.Close) words

abbrev pub closing_line : List (List ℕ) → Result What1 TextCause
closing_line words = if is_close words then behind_close words else session_line words

abbrev pub worker_words : List (List ℕ × WorkerWord)
worker_words =
    (codes "take", worker.Take)
    ∷ (codes "offer", worker.Offer)
    ∷ (codes "settle", worker.Settle)
    ∷ []

-- what a worker's line calls by its first word and what is behind it
abbrev pub work_of : WorkerWord → List (List ℕ) → Step What1
work_of worker.Take words = part (number_of 1 64) words >>= (λ n. Ok (Call (event.Take n.0), n.1))
work_of worker.Offer words = part (number_of 0 18446744073709551615) words >>= (λ n. Ok (Call (event.Offer n.0), n.1))
work_of worker.Settle words = part (number_of 1 64) words >>= (λ n. Ok (Settle n.0, n.1))

unfoldable pub worker_line : List (List ℕ) → Result What1 TextCause
worker_line words = do
  first ← part (fixed worker_words) words
  what ← work_of first.0 first.1
  finished what.0 what.1
