-- The change of the body rule leaves nothing to change at the entry: `body_settling`. A reach doesn't read bodies.
use Rattle.std.proofs.Common.{◌≡◌, ℕ, [], ◌∷◌, List, Some, refl, ◌∙◌}
use Rattle.std.proofs.lemmas.Bool.{cond_both}
use Rattle.rvd_fact.specs.declared.cells.Change.{Change}
use Rattle.rvd_fact.specs.Program.{Program, applied_all, cell_at, placed}
use Rattle.rvd_fact.specs.Valid.{Fits, IsValid}
use Rattle.rvd_fact.proofs.Validity.{cell_at_placed}
use Rattle.rvd_ask.specs.declared.asks.Analyzer.TheVariants.{Body}
use Rattle.rvd_ask.specs.Body.{body_rule, has_body, has_open_body, set_body}
use Rattle.rvd_ask.specs.Places.{body_key}
use Rattle.rvd_ask.specs.Reach.{reach, spans}
use Rattle.rvd_ask.specs.Rules.{rule}
use Rattle.rvd_an_funcs.specs.Laws.{SettlingLaw}
use Rattle.rvd_an_funcs.proofs.Bodies.{no_change, same_ranges_itself}
use Rattle.rvd_an_funcs.proofs.BodyFitting.{body_cell, body_fits}
use Rattle.rvd_an_funcs.proofs.Steps.{reach_stays, unread}

-- after its body is set
set_settled : (S : Program) (e : ℕ) → IsValid S → IsValid (placed S (body_key e) (Some (body_cell (spans (reach S e))))) → body_rule (placed S (body_key e) (Some (body_cell (spans (reach S e))))) e ≡ []
set_settled S e valid valid_after =
    let rs = spans (reach S e) in
    let T = placed S (body_key e) (Some (body_cell rs)) in
    let same : reach T e ≡ reach S e = reach_stays S (body_key e) (Some (body_cell rs)) e valid valid_after (unread S T (body_key e) e refl) in
    no_change T e (λ opened. (λ i. has_body (spans (same i)) (cell_at_placed S (body_key e) (Some (body_cell rs)) i)) ∙ same_ranges_itself rs)

-- what the rule leaves, from what its changes are and that they fit
abbrev Settles : Program → ℕ → List Change → Type 0
Settles S e cs = body_rule S e ≡ cs → Fits S cs → body_rule (applied_all S cs) e ≡ []

settles : (S : Program) (e : ℕ) → IsValid S → Settles S e (body_rule S e)
unfolding body_rule
settles S e valid =
    let old = cell_at S (body_key e) in
    let rs = spans (reach S e) in
    cond_both (has_open_body S e) (set_body e old rs) [] (Settles S e)
    (λ opened. cond_both (has_body rs old) [] (record { key = body_key e; before = old; after = Some (body_cell rs) } ∷ []) (Settles S e)
    (λ has is fits. is)
    (λ lacks is fits. set_settled S e valid fits.1))
    (λ shut is fits. is)

pub body_settling : SettlingLaw Body
unfolding rule
body_settling S e valid = settles S e valid refl (body_fits S e valid)
