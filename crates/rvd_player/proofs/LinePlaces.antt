-- The line at a place of an event file. Use `line_at`; `session_of` says whose a line is that a session alone may have.
use Rattle.std.proofs.Common.{◌≡◌, ℕ, zero, suc, ◌+◌, ◌<◌, ◌≤◌, true, false, ◌&&◌, List, [], ◌∷◌, ◌++◌, length, take, get_or, refl, sym, ap, ◌∙◌, subst, inl, inr, arith}
use Rattle.std.specs.Prelude.{Option, Some, nat_lt, nat_le, slice_get}
use Rattle.std.proofs.lemmas.Bool.{and_parts, both_ways, leb-true, or_cases}
use Rattle.std.proofs.lemmas.List.{take_more}
use Rattle.std.proofs.lemmas.List.Elements.{All-get_or}
use Rattle.rvd_event.specs.declared.events.Event.{Event}
use Rattle.rvd_event.specs.declared.events.Event.TheVariants.{Read}
use Rattle.rvd_script.specs.declared.script_lines.EventLine.{EventLine}
use Rattle.rvd_script.specs.declared.script_lines.What1.{What1}
use Rattle.rvd_script.specs.declared.script_lines.What1.TheVariants.{Call, Ask, Settle}
use Rattle.rvd_script.specs.Legal.{Events, IsFile, is_line, is_of_actor, is_session_what, is_worker_what}
use Rattle.rvd_player.specs.Seen.{IsAsk}

get_at : (lines : List EventLine) (i : ℕ) (d : EventLine) → i < length lines → slice_get lines i ≡ Some (get_or lines i d)
get_at [] i d within = absurd (omega (arith, within))
get_at (x ∷ lines) zero d within = refl
get_at (x ∷ lines) (suc i) d within = get_at lines i d (omega (arith, within))

pub record IsLine (file : Events) (i : ℕ) (l : EventLine) : Type 0 where
  pub own : is_line file.sessions file.workers l ≡ true
  pub next : take (i + 1) file.lines ≡ take i file.lines ++ l ∷ []
  pub at : slice_get file.lines i ≡ Some l

pub line_at : (file : Events) (lines : List EventLine) (i : ℕ) (l : EventLine) → IsFile file → lines ≡ file.lines → i < length lines → l ≡ get_or lines i l → IsLine file i l
line_at file lines i l is same within at =
    let inside : i < length file.lines = subst (λ (ls : List EventLine). i < length ls) same within in
    let here : get_or file.lines i l ≡ l = sym (at ∙ ap (λ (ls : List EventLine). get_or ls i l) same) in
    record {
      own = subst (λ (x : EventLine). is_line file.sessions file.workers x ≡ true) here (All-get_or (λ (x : EventLine). is_line file.sessions file.workers x ≡ true) file.lines i l inside is.lines);
      next = take_more file.lines i l inside ∙ ap (λ (x : EventLine). take i file.lines ++ x ∷ []) here;
      at = get_at file.lines i l inside ∙ ap (λ (x : EventLine). let h : Option EventLine = Some x in h) here;
    }

-- whose lines these are: a worker has no such line
pub session_of : (sessions workers actor : ℕ) (what : What1) → is_worker_what what ≡ false → is_of_actor sessions workers actor what ≡ true → (1 ≤ actor) × (actor ≤ sessions)
session_of sessions workers actor what none own = elim (or_cases (nat_le 1 actor && (nat_le actor sessions && is_session_what what)) (nat_lt sessions actor && (nat_le actor (sessions + workers) && is_worker_what what)) own) [
  | inl session ↦
      let p = and_parts (nat_le 1 actor) (nat_le actor sessions && is_session_what what) session in
      let q = and_parts (nat_le actor sessions) (is_session_what what) p.1 in
      (leb-true 1 actor p.0, leb-true actor sessions q.0)
  | inr worker ↦
      let p = and_parts (nat_lt sessions actor) (nat_le actor (sessions + workers) && is_worker_what what) worker in
      let q = and_parts (nat_le actor (sessions + workers)) (is_worker_what what) p.1 in
      absurd (both_ways (is_worker_what what) none q.1)
]

no_worker_asks : (what : What1) → IsAsk what → is_worker_what what ≡ false
no_worker_asks (Call e) asks = absurd asks
no_worker_asks (Ask query) asks = refl
no_worker_asks (Settle n) asks = absurd asks

pub asker_of : (sessions workers : ℕ) (l : EventLine) → is_line sessions workers l ≡ true → IsAsk l.what → (1 ≤ l.actor) × (l.actor ≤ sessions)
asker_of sessions workers l own asks = session_of sessions workers l.actor l.what (no_worker_asks l.what asks) own

pub reader_of : (sessions workers actor : ℕ) (what : What1) (e : Event) → is_of_actor sessions workers actor what ≡ true → what ≡ Call e → e ≡ Read → (1 ≤ actor) × (actor ≤ sessions)
reader_of sessions workers actor what e own is read =
    session_of sessions workers actor (Call Read) refl (subst (λ (w : What1). is_of_actor sessions workers actor w ≡ true) (is ∙ ap Call read) own)
