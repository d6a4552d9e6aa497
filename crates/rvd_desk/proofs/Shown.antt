-- What the reply to a call shows is the state in which it was made. Use `shows`.
use Rattle.std.proofs.Common.{◌≡◌, ℕ, length, Option, Some, None, refl}
use Rattle.std.proofs.lemmas.Option.{same_Some}
use Rattle.rvd_event.specs.declared.events.Event.{Event}
use Rattle.rvd_event.specs.declared.events.Event.TheVariants as event
use Rattle.rvd_event.specs.declared.replies.Reply.{Reply}
use Rattle.rvd_event.specs.declared.replies.Reply.TheVariants as reply
use Rattle.rvd_event.specs.declared.replies.Refusal.{Refusal}
use Rattle.rvd_machine.specs.State.{State}
use Rattle.rvd_machine.specs.Replies.{IsReply, answered, refused}
use Rattle.rvd_desk.specs.declared.snapshots.Snapshot.{Snapshot}
use Rattle.rvd_desk.specs.Shown.{Shows, shown_by}

abbrev pub ShowsSome : State → Option Snapshot → Type 0
ShowsSome s None = Unit {0}
ShowsSome s (Some x) = Shows s x

-- a read that isn't refused tells the number of steps
at_steps : (s : State) (a n : ℕ) (o : Option Refusal) → answered s a event.Read o ≡ Some (reply.At n) → n ≡ length s.steps
at_steps s a n (Some r) said = absurd (let e = same_Some (reply.Refused r) (reply.At n) said in cc)
at_steps s a n None said = let e = same_Some (reply.At (length s.steps)) (reply.At n) said in cc

read_shows : (s : State) (a : ℕ) (r : Reply) → IsReply s a event.Read r → ShowsSome s (shown_by s event.Read r)
read_shows s a (reply.At n) said = record { program = refl; steps = at_steps s a n (refused s a event.Read) said }
read_shows s a (reply.Entry n) said = tt
read_shows s a (reply.Changed n) said = tt
read_shows s a (reply.Waiting n) said = tt
read_shows s a (reply.Committed n) said = tt
read_shows s a reply.RolledBack said = tt
read_shows s a (reply.StepNo n) said = tt
read_shows s a (reply.SettledAt n) said = tt
read_shows s a reply.Voided said = tt
read_shows s a (reply.Closed n) said = tt
read_shows s a (reply.Job t items) said = tt
read_shows s a (reply.Verdicts vs) said = tt
read_shows s a (reply.Refused r) said = tt

pub shows : (s : State) (a : ℕ) (e : Event) (r : Reply) → IsReply s a e r → ShowsSome s (shown_by s e r)
shows s a (event.Begin text) r said = tt
shows s a (event.Edit edit) r said = tt
shows s a (event.End keep) r said = tt
shows s a event.Undo r said = tt
shows s a event.Redo r said = tt
shows s a event.Full r said = tt
shows s a event.Cancel r said = tt
shows s a (event.Enable z on) r said = tt
shows s a event.Read r said = read_shows s a r said
shows s a event.Wait r said = tt
shows s a event.Close r said = tt
shows s a (event.Take n) r said = tt
shows s a (event.Offer t) r said = tt
