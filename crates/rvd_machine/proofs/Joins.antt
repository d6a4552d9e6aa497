-- What joins has the changes of its rule, and spares what is protected. Use `joined_is_sparing`.
use Rattle.std.proofs.Common.{List, [], ◌∷◌, ◌++◌, Option, subst}
use Rattle.rvd_fact.specs.Program.{Program}
use Rattle.rvd_fact.specs.Valid.{IsValid}
use Rattle.rvd_ask.specs.declared.asks.Item.{Item}
use Rattle.rvd_ask.specs.Rules.{rule}
use Rattle.rvd_event.specs.declared.events.Event.{Event}
use Rattle.rvd_event.specs.declared.events.Event.TheVariants as event
use Rattle.rvd_event.specs.declared.replies.Reply.{Reply}
use Rattle.rvd_event.specs.declared.replies.Reply.TheVariants as reply
use Rattle.rvd_event.specs.declared.verdicts.Verdict.{Verdict}
use Rattle.rvd_event.specs.declared.verdicts.Verdict.TheVariants.{Joined, Nothing, Off, Stale, Foreign}
use Rattle.rvd_journal.specs.declared.entries.Entry.{Entry}
use Rattle.rvd_wake.specs.Laws.{AnalysisLaws}
use Rattle.rvd_machine.specs.Enabled.{Enabled}
use Rattle.rvd_machine.specs.State.{State, Job}
use Rattle.rvd_machine.specs.Verdicts.{Batch, first_batch, judged, IsVerdict, AreVerdicts}
use Rattle.rvd_machine.specs.Replies.{IsReply, IsOfferReply}
use Rattle.rvd_machine.specs.Steps.{after, state_from, start_of, AreSteps, IsStep}
use Rattle.rvd_machine.specs.Sound.{JoinsSparing, AllJoinSparing, JoinedIsSparing}
use Rattle.rvd_machine.proofs.Leads.{Laws, valid_all}
use Rattle.rvd_machine.proofs.Whole.{steps_keep, start_is_sound}

-- the working program stays valid, item by item
valid_judged : AnalysisLaws → (E : Enabled) (b : Batch) (i : Item) (v : Verdict) → IsValid b.work → IsValid (judged E b i v).work
valid_judged L E b i (Joined k) valid = valid_all (rule b.work i) b.work valid (L.fits b.work i valid)
valid_judged L E b i Nothing valid = valid
valid_judged L E b i Off valid = valid
valid_judged L E b i (Stale ask was now) valid = valid
valid_judged L E b i (Foreign ask said was) valid = valid

sparing : AnalysisLaws → (E : Enabled) (P : Program) (b : Batch) (i : Item) (v : Verdict) → IsVerdict E P b i v → IsValid b.work → JoinsSparing b i v
sparing L E P b i (Joined k) ok valid = (ok.2, L.spares b.work i valid)
sparing L E P b i Nothing ok valid = tt
sparing L E P b i Off ok valid = tt
sparing L E P b i (Stale ask was now) ok valid = tt
sparing L E P b i (Foreign ask said was) ok valid = tt

all_sparing : AnalysisLaws → (E : Enabled) (P : Program) (items : List Item) (vs : List Verdict) (b : Batch) → AreVerdicts E P b items vs → IsValid b.work → AllJoinSparing E b items vs
all_sparing L E P [] vs b ok valid = tt
all_sparing L E P (i ∷ items) [] b ok valid = tt
all_sparing L E P (i ∷ items) (v ∷ vs) b ok valid = (sparing L E P b i v ok.0 valid, all_sparing L E P items vs (judged E b i v) ok.1 (valid_judged L E b i v valid))

-- the last entry of a legal journal is a step of the state before it
steps_before : (s : State) (J : List Entry) (e : Entry) → AreSteps s (J ++ e ∷ []) → AreSteps s J × IsStep (state_from s J) e
steps_before s [] e ok = (tt, ok.0)
steps_before s (x ∷ J) e ok = let rest = steps_before (after s x) J e ok.1 in ((ok.0, rest.0), rest.1)

pub joined_is_sparing : Laws → JoinedIsSparing
joined_is_sparing L h J e ticket job vs legal offers says found =
    let s = state_from (start_of h) J in
    let steps = steps_before (start_of h) J e legal.steps in
    let sound = steps_keep L J (start_of h) steps.0 (start_is_sound h legal.valid) in
    let said : IsReply s e.actor (event.Offer ticket) (reply.Verdicts vs) =
    subst (λ (r : Reply). IsReply s e.actor (event.Offer ticket) r) says (subst (λ (x : Event). IsReply s e.actor x e.reply) offers steps.1.reply) in
    all_sparing L.analysis s.enabled job.program job.items vs (first_batch s) (subst (λ (o : Option Job). IsOfferReply s ticket o (reply.Verdicts vs)) found said) sound.valid.work
