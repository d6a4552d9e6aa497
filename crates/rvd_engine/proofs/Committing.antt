-- The changes that lead from the committed program to the working one. Use `committed` for their commit, and `leads_on` for
-- more of them.
use Rattle.std.proofs.Common.{◌≡◌, List, ◌++◌, sym, ap, ◌∙◌, subst}
use Rattle.rvd_fact.specs.declared.cells.Change.{Change}
use Rattle.rvd_fact.specs.Program.{Program, applied_all}
use Rattle.rvd_fact.specs.Valid.{Fits}
use Rattle.rvd_program.proofs.Applying.{applied_all-append, fits-append}
use Rattle.rvd_undo.specs.History.{after_commit}
use Rattle.rvd_undo.specs.Records.{Records, Stands, IsCommit, history}

pub committed : (S W : Program) (old new : Records) (cs : List Change) → IsCommit old cs new → Stands S old → Fits S cs → applied_all S cs ≡ W → Stands W new × (history W new ≡ after_commit (history S old) W)
committed S W old new cs commit stands fits to = subst (λ (T : Program). Stands T new × (history T new ≡ after_commit (history S old) T)) to (commit S stands fits)

pub leads_on : (S W V : Program) (old more new : List Change) → Fits S old × (applied_all S old ≡ W) → Fits W more → new ≡ old ++ more → V ≡ applied_all W more → Fits S new × (applied_all S new ≡ V)
leads_on S W V old more new leads fits are to =
    let behind : Fits (applied_all S old) more = subst (λ (T : Program). Fits T more) (sym leads.1) fits in
    let all : applied_all S (old ++ more) ≡ V = applied_all-append S old more ∙ ap (λ (T : Program). applied_all T more) leads.1 ∙ sym to in
    subst (λ (cs : List Change). Fits S cs × (applied_all S cs ≡ V)) (sym are) (fits-append S old more leads.0 behind, all)
