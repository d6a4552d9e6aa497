-- The lines of entries, one more at a time.
use Rattle.std.proofs.Common.{◌≡◌, ℕ, ◌+◌, ◌<◌, ◌≤◌, List, [], ◌∷◌, ◌++◌, length, take, get_or, sym, ap, ◌∙◌, subst, arith}
use Rattle.std.specs.List.{enumerate_from}
use Rattle.std.proofs.lemmas.List.{take_more, take_all, flat_map_more}
use Rattle.std.proofs.lemmas.List.FromFn.{length-enumerate_from, get_or-enumerate_from}
use Rattle.rvd_event.specs.declared.queries.Names.{Names}
use Rattle.rvd_journal.specs.declared.entries.Entry.{Entry}
use Rattle.rvd_journal_text.specs.Lines.{full_line, entry_lines}

-- a text with the lines of the entries so far, and one more line
pub lines_more : (text : List ℕ) (names : Names) (entries : List Entry) (i : ℕ) (s : Entry) → i < length entries → s ≡ get_or entries i s
    → (text ++ entry_lines names (take i (enumerate_from 1 entries))) ++ full_line names (i + 1, s) ≡ text ++ entry_lines names (take (i + 1) (enumerate_from 1 entries))
lines_more text names entries i s within at =
    let numbered : i < length (enumerate_from 1 entries) = subst (λ n. i < n) (sym (length-enumerate_from 1 entries)) within in
    let place : 1 + i ≡ i + 1 = omega arith in
    let here : get_or (enumerate_from 1 entries) i (0, s) ≡ (i + 1, s) =
    get_or-enumerate_from 1 entries i (0, s) within ∙ (ap (λ n. (n, get_or entries i s)) place ∙ ap (λ x. (i + 1, x)) (sym at)) in
    let more : take (i + 1) (enumerate_from 1 entries) ≡ take i (enumerate_from 1 entries) ++ (i + 1, s) ∷ [] =
    take_more (enumerate_from 1 entries) i (0, s) numbered ∙ ap (λ e. take i (enumerate_from 1 entries) ++ e ∷ []) here in
    flat_map_more (full_line names) text (take i (enumerate_from 1 entries)) (i + 1, s) ∙ ap (λ es. text ++ entry_lines names es) (sym more)

-- the lines of all entries
pub lines_all : (names : Names) (entries : List Entry) (n : ℕ) → length entries ≤ n → entry_lines names (take n (enumerate_from 1 entries)) ≡ entry_lines names (enumerate_from 1 entries)
lines_all names entries n all = ap (entry_lines names) (take_all n (enumerate_from 1 entries) (subst (λ m. m ≤ n) (sym (length-enumerate_from 1 entries)) all))
