-- The lines of steps, one more at a time.
use Rattle.std.proofs.Common.{◌≡◌, ℕ, ◌+◌, ◌<◌, ◌≤◌, List, [], ◌∷◌, ◌++◌, length, take, get_or, sym, ap, ◌∙◌, subst, arith}
use Rattle.std.specs.List.{enumerate_from}
use Rattle.std.proofs.lemmas.List.{take_more, take_all, flat_map_more}
use Rattle.std.proofs.lemmas.List.FromFn.{length-enumerate_from, get_or-enumerate_from}
use Rattle.rvd_event.specs.declared.queries.Names.{Names}
use Rattle.rvd_event.specs.declared.steps.Step.{Step}
use Rattle.rvd_report.specs.History.{step_line, step_lines}

-- a text with the lines of the steps so far, and one more line
pub lines_more : (text : List ℕ) (names : Names) (steps : List Step) (i : ℕ) (s : Step) → i < length steps → s ≡ get_or steps i s
    → (text ++ step_lines names (take i (enumerate_from 1 steps))) ++ step_line names (i + 1, s) ≡ text ++ step_lines names (take (i + 1) (enumerate_from 1 steps))
lines_more text names steps i s within at =
    let numbered : i < length (enumerate_from 1 steps) = subst (λ n. i < n) (sym (length-enumerate_from 1 steps)) within in
    let place : 1 + i ≡ i + 1 = omega arith in
    let here : get_or (enumerate_from 1 steps) i (0, s) ≡ (i + 1, s) =
    get_or-enumerate_from 1 steps i (0, s) within ∙ (ap (λ n. (n, get_or steps i s)) place ∙ ap (λ x. (i + 1, x)) (sym at)) in
    let more : take (i + 1) (enumerate_from 1 steps) ≡ take i (enumerate_from 1 steps) ++ (i + 1, s) ∷ [] =
    take_more (enumerate_from 1 steps) i (0, s) numbered ∙ ap (λ e. take i (enumerate_from 1 steps) ++ e ∷ []) here in
    flat_map_more (step_line names) text (take i (enumerate_from 1 steps)) (i + 1, s) ∙ ap (λ es. text ++ step_lines names es) (sym more)

-- the lines of all steps
pub lines_all : (names : Names) (steps : List Step) (n : ℕ) → length steps ≤ n → step_lines names (take n (enumerate_from 1 steps)) ≡ step_lines names (enumerate_from 1 steps)
lines_all names steps n all = ap (step_lines names) (take_all n (enumerate_from 1 steps) (subst (λ m. m ≤ n) (sym (length-enumerate_from 1 steps)) all))
