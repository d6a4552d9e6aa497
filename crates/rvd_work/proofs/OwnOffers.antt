-- An offer of proposals that were made on the job's program, whatever happened since the take. Use `offer_proper`.
use Rattle.std.proofs.Common.{◌≡◌, ℕ, List, [], ◌∷◌, ◌++◌, sym, ◌∙◌, subst, inl, inr}
use Rattle.std.specs.Prelude.{◌⊎◌, Option, Some, None}
use Rattle.rvd_fact.specs.Program.{Program}
use Rattle.rvd_ask.specs.declared.asks.Item.{Item}
use Rattle.rvd_ask.specs.Promise.{Proposed}
use Rattle.rvd_event.specs.declared.events.Event.TheVariants as event
use Rattle.rvd_event.specs.declared.replies.Reply.{Reply}
use Rattle.rvd_event.specs.declared.replies.Reply.TheVariants as reply
use Rattle.rvd_journal.specs.declared.entries.Entry.{Entry}
use Rattle.rvd_wake.specs.Made.{AreMadeOn}
use Rattle.rvd_machine.specs.Exact.{IsExactReply}
use Rattle.rvd_machine.specs.Proper.{AreMadeFor, IsProperReply, MadeIsProper}
use Rattle.rvd_machine.specs.Running.{IsGiven, JobIsGiven, JobsStay, KeepsJobs}
use Rattle.rvd_machine.specs.State.{Job, job_of, work}
use Rattle.rvd_machine.specs.Steps.{Head, IsLegal, state}
use Rattle.rvd_turn.specs.Story.{IsPrefix}

-- proposals that were made for a job are made for it later too, where it is still there
made_for : (job : Job) (then_ now : Option Job) (proposals : List Proposed) → AreMadeOn job.program job.items proposals → then_ ≡ Some job → (now ≡ None) ⊎ (now ≡ then_) → AreMadeFor now proposals
made_for job then_ now proposals made there (inl none) = subst (λ (o : Option Job). AreMadeFor o proposals) (sym none) tt
made_for job then_ now proposals made there (inr same) = subst (λ (o : Option Job). AreMadeFor o proposals) (sym (same ∙ there)) made

-- the offer of a job that was taken before, on a story that began with that take
pub offer_proper : JobIsGiven → JobsStay → MadeIsProper → (h : Head) (log later : List Entry) (x : Entry) (n ticket : ℕ) (items : List Item) (program : Program) (proposals : List Proposed) (r : Reply)
    → IsLegal h (log ++ x ∷ []) → x.event ≡ event.Take n → x.reply ≡ reply.Job ticket items → program ≡ work (state h log) → AreMadeOn program items proposals
    → IsLegal h later → IsPrefix (log ++ x ∷ []) later → IsExactReply (state h later) ticket proposals r → IsProperReply (job_of ticket (state h later).taken) r
offer_proper given stay law h log later x n ticket items program proposals r legal is_take is_job on made legal' begins exact =
    let job : Job = record { ticket = ticket; items = items; program = work (state h log) } in
    let g : IsGiven (state h (log ++ x ∷ [])) job = given h log x n ticket items legal is_take is_job in
    let keeps : KeepsJobs (state h (log ++ x ∷ [])) (state h later) =
    subst (λ (l : List Entry). KeepsJobs (state h (log ++ x ∷ [])) (state h l)) begins.1 (stay h (log ++ x ∷ []) begins.0 (subst (IsLegal h) (sym begins.1) legal')) in
    law (state h later) ticket proposals r
    (made_for job (job_of ticket (state h (log ++ x ∷ [])).taken) (job_of ticket (state h later).taken) proposals (subst (λ (P : Program). AreMadeOn P items proposals) on made) g.there (keeps.jobs ticket g.given))
    exact
