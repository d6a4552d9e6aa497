-- What a reply tells of the event that it answers. Use `not_refused` and `job_given`.
use Rattle.std.proofs.Common.{◌≡◌, ℕ, ◌≤◌, Bool, true, false, cond, ◌||◌, ◌==◌, nat_lt, take, Option, Some, None, refl, sym, ap, ◌∙◌}
use Rattle.std.proofs.lemmas.Bool.{false≢true, or_parts, ltb-false}
use Rattle.std.proofs.lemmas.Option.{none-some, same_Some}
use Rattle.rvd_event.specs.declared.events.Event.{Event}
use Rattle.rvd_event.specs.declared.replies.Reply.{Reply}
use Rattle.rvd_event.specs.declared.replies.Reply.TheVariants as reply
use Rattle.rvd_event.specs.declared.replies.Refusal.{Refusal}
use Rattle.rvd_machine.specs.State.{State}
use Rattle.rvd_machine.specs.Replies.{answered, take_reply, takes_none, is_finished, is_idle}
use Rattle.rvd_machine.specs.Steps.{is_refused}

-- a reply that is no refusal is given where nothing is refused
pub not_refused : (s : State) (a : ℕ) (e : Event) (o : Option Refusal) (r : Reply) → answered s a e o ≡ Some r → is_refused r ≡ false → o ≡ None
not_refused s a e None r said open_one = refl
not_refused s a e (Some x) r said open_one = absurd (false≢true (sym open_one ∙ ap is_refused (sym (same_Some (reply.Refused x) r said))))

-- a job has at most 64 items
pub job_given : (s : State) (n : ℕ) (r : Reply) → take_reply s n ≡ Some r → takes_none s n ≡ false
job_given s n r said = by_test (takes_none s n) (Some (reply.Job s.next_ticket (take n s.queue))) said
  where
    by_test : (b : Bool) (o : Option Reply) → cond b None o ≡ Some r → b ≡ false
    by_test true o h = absurd (none-some r h)
    by_test false o h = refl

pub few_given : (s : State) (n : ℕ) (r : Reply) → take_reply s n ≡ Some r → n ≤ 64
few_given s n r said =
    ltb-false 64 n (or_parts (nat_lt 64 n) (is_finished s || is_idle s) (or_parts (n == 0) (nat_lt 64 n || (is_finished s || is_idle s)) (job_given s n r said)).1).0
