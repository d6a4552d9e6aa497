-- What a turn makes of a session. Use `sits_after` for what the session keeps, `called_of` for a call that was answered,
-- `uncalled_of` for one that wasn't, `fewer_never` for its latest read, and `waited_of` and `wait_before` for the looks of a wait.
use Rattle.std.proofs.Common.{◌≡◌, ℕ, ◌≤◌, true, false, List, [], ◌∷◌, ◌++◌, Option, Some, None, sym, ap, ◌∙◌, subst, arith}
use Rattle.std.specs.Prelude.{Result, Ok, Err, IfOk, IfErr, OnErr}
use Rattle.rvd_event.specs.declared.events.Event.{Event}
use Rattle.rvd_event.specs.declared.events.Event.TheVariants as event
use Rattle.rvd_event.specs.declared.replies.Reply.{Reply}
use Rattle.rvd_journal.specs.declared.entries.Entry.{Entry}
use Rattle.rvd_machine.specs.Running.{StepsStay}
use Rattle.rvd_machine.specs.Steps.{Head, IsLegal, IsStep, has_room, state}
use Rattle.rvd_turn.specs.Known.{given_by}
use Rattle.rvd_turn.specs.Story.{Continues, IsPrefix}
use Rattle.rvd_turn.proofs.Prefixes.{prefix_trans}
use Rattle.rvd_desk.specs.declared.snapshots.Snapshot.{Snapshot}
use Rattle.rvd_desk.specs.declared.answers.DeskError.{DeskError}
use Rattle.rvd_desk.specs.declared.answers.DeskError.TheVariants.{Refused, JournalFull, Stopped, OutOfMemory}
use Rattle.rvd_desk.specs.declared.answers.Halt.{Halt}
use Rattle.rvd_desk.specs.declared.answers.Halt.TheVariants.{Memory, Full}
use Rattle.rvd_desk.specs.Calls.{Did}
use Rattle.rvd_desk.specs.Shown.{latest, shown_by}
use Rattle.rvd_desk.specs.Story.{MayStop, Story, entry_of, state_of}
use Rattle.rvd_desk.specs.Turns.{Looked, NoAnswer, Passing, SameStory, TurnOf, Unmade, added, by, looked, story_of}
use Rattle.rvd_desk.proofs.Shown.{shows}
use Rattle.rvd_desk.proofs.Turned.{Taken, did_pass, goes_did, goes_same, heads, looked_of, owner, same_pass, turn_of, unmade_same}
use Rattle.rvd_session.specs.Sitting.{Called, IsReadIn, Sits, Sitting, Uncalled, WaitedIn, WaitMade}
use Rattle.rvd_session.proofs.Shown.{never_fewer, shows_after, shows_still}

-- the same session, whose pass has seen what a turn left
sits_as : (a : ℕ) (p r : Passing) (x y : Snapshot) (h : Head) → Sits a (record { pass = p; read = x }) → p.head ≡ Some h → r.head ≡ p.head → r.number ≡ p.number → r.turn ≡ p.turn → IsReadIn h r.seen y → Sits a (record { pass = r; read = y })
sits_as a p r x y h s about head number turn shows = record {
  head = h;
  about = head ∙ about;
  number = number ∙ s.number;
  idle = turn ∙ s.idle;
  session = subst (λ (k : Head). (1 ≤ a) × (a ≤ k.sessions)) (heads s.head h p.head s.about about) s.session;
  shows = shows;
}

module _ (a : ℕ) (p q w : Passing) (x y : Snapshot) (d new : Story) (e : Event) (sits : Sits a (record { pass = p; read = x })) (took : Taken p q d) (legal : IsLegal d.head d.journal) (gave : w ≡ given_by q new.journal) where
  shown : IsReadIn d.head d.journal x
  shown = shows_still d.head p.seen d.journal x took.seen (subst (λ (k : Head). IsReadIn k p.seen x) (heads sits.head d.head p.head sits.about took.head) sits.shows)

  did_is : (r : Reply) → Did d new a e r → w ≡ added p d.journal (entry_of (state_of d) p.number e r)
  did_is r did = did_pass p q w d new a e r took sits.idle sits.number gave did

  same_is : SameStory d new → w ≡ looked p d.journal
  same_is same = same_pass p q w d new took sits.idle gave same

  did_sits : (r : Reply) → Did d new a e r → y ≡ latest x (shown_by (state_of d) e r) → Sits a (record { pass = w; read = y })
  did_sits r did read =
      let is = did_is r did in
      let n = sits.number in
      let z = entry_of (state_of d) p.number e r in
      sits_as a p w x y d.head sits took.head (ap (λ (k : Passing). k.head) is) (ap (λ (k : Passing). k.number) is) (ap (λ (k : Passing). k.turn) is)
      (subst (λ (k : Passing). IsReadIn d.head k.seen y) (sym is) (subst (IsReadIn d.head (d.journal ++ z ∷ [])) (sym read) (shows_after d.head d.journal (z ∷ []) x (shown_by (state_of d) e r) (shows (state_of d) a e r did.step.reply) shown)))

  same_sits : SameStory d new → y ≡ x → Sits a (record { pass = w; read = y })
  same_sits same read =
      let is = same_is same in
      sits_as a p w x y d.head sits took.head (ap (λ (k : Passing). k.head) is) (ap (λ (k : Passing). k.number) is) (ap (λ (k : Passing). k.turn) is)
      (subst (λ (k : Passing). IsReadIn d.head k.seen y) (sym is) (subst (IsReadIn d.head d.journal) (sym read) shown))

  -- the latest read is never one of fewer steps
  pub fewer_never : StepsStay → (r : Result Reply DeskError) → IfOk r (λ v. Did d new a e v) → IfOk r (λ v. y ≡ latest x (shown_by (state_of d) e v)) → OnErr r (y ≡ x) → x.steps ≤ y.steps
  fewer_never stay (Ok v) did read kept =
      subst (λ (z : Snapshot). x.steps ≤ z.steps) (sym read) (never_fewer stay d.head d.journal x (shown_by (state_of d) e v) (shows (state_of d) a e v did.step.reply) shown)
  fewer_never stay (Err error) did read kept = subst (λ (z : Snapshot). x.steps ≤ z.steps) (sym kept) (omega arith)

  pub sits_after : (r : Result Reply DeskError) → IfOk r (λ v. Did d new a e v) → IfOk r (λ v. y ≡ latest x (shown_by (state_of d) e v)) → IfErr r (λ error. Unmade d new a e error) → OnErr r (y ≡ x) → Sits a (record { pass = w; read = y })
  sits_after (Ok v) did read not kept = did_sits v did read
  sits_after (Err error) did read not kept = same_sits (unmade_same d new a e error not) kept

  called_as : (r : Reply) → Did d new a e r → y ≡ latest x (shown_by (state_of d) e r) → Called (record { pass = p; read = x }) (record { pass = w; read = y }) e r
  called_as r did read = record {
    head = d.head;
    log = d.journal;
    turn = turn_of p q d took legal;
    step = subst (λ (n : ℕ). IsStep (state_of d) (entry_of (state_of d) n e r)) (sym sits.number) did.step;
    pass = did_is r did;
    read = read;
  }

  pub called_of : (r : Result Reply DeskError) → IfOk r (λ v. Did d new a e v) → IfOk r (λ v. y ≡ latest x (shown_by (state_of d) e v)) → IfOk r (λ v. Called (record { pass = p; read = x }) (record { pass = w; read = y }) e v)
  called_of (Ok v) did read = called_as v did read
  called_of (Err error) did read = tt

  not_as : (error : DeskError) → Unmade d new a e error → NoAnswer p w e error
  not_as (Refused r) not = not
  not_as (JournalFull n) not = (looked_of p q w d new took sits.idle legal gave not.0, not.1, subst (λ (k : ℕ). has_room (state_of d) k e ≡ false) (sym sits.number) not.2)
  not_as (Stopped halt) not = (looked_of p q w d new took sits.idle legal gave not.0, stop_same halt not.1)
    where
      stop_same : (why : Halt) → MayStop d why → MayStop (story_of d.head d.journal) why
      stop_same Memory may = tt
      stop_same (Full n) may = may
  not_as OutOfMemory not = (looked_of p q w d new took sits.idle legal gave not.0, subst (λ (k : ℕ). has_room (state_of d) k e ≡ true) (sym sits.number) not.1)

  pub uncalled_of : (r : Result Reply DeskError) → IfErr r (λ error. Unmade d new a e error) → OnErr r (y ≡ x) → IfErr r (λ error. Uncalled (record { pass = p; read = x }) (record { pass = w; read = y }) e error)
  uncalled_of (Ok v) not kept = tt
  uncalled_of (Err error) not kept = (not_as error not, kept)

  -- a wait, which is answered, isn't, or goes on
  pub waited_of : (o : Option (Result Reply DeskError)) → WaitMade d new a o → e ≡ event.Wait → y ≡ x → WaitedIn (record { pass = p; read = x }) (record { pass = w; read = y }) o
  waited_of None made is kept = (looked_of p q w d new took sits.idle legal gave (ap (λ (k : Story). k.head) made, ap (λ (k : Story). k.journal) made), kept)
  waited_of (Some (Ok r)) made is kept = subst (λ (v : Event). Called (record { pass = p; read = x }) (record { pass = w; read = y }) v r) is (called_as r (subst (λ (v : Event). Did d new a v r) (sym is) made) (kept ∙ ap (λ (v : Event). latest x (shown_by (state_of d) v r)) (sym is)))
  waited_of (Some (Err error)) made is kept = subst (λ (v : Event). Uncalled (record { pass = p; read = x }) (record { pass = w; read = y }) v error) is (not_as error (subst (λ (v : Event). Unmade d new a v error) (sym is) made), kept)

  pub waited_sits : (o : Option (Result Reply DeskError)) → WaitMade d new a o → e ≡ event.Wait → y ≡ x → Sits a (record { pass = w; read = y })
  waited_sits None made is kept = same_sits (ap (λ (k : Story). k.head) made, ap (λ (k : Story). k.journal) made) kept
  waited_sits (Some (Ok r)) made is kept = did_sits r (subst (λ (v : Event). Did d new a v r) (sym is) made) (kept ∙ ap (λ (v : Event). latest x (shown_by (state_of d) v r)) (sym is))
  waited_sits (Some (Err error)) made is kept = same_sits (unmade_same d new a event.Wait error made) kept

pub wait_head : (o : Option (Result Reply DeskError)) (old new : Story) (a : ℕ) → WaitMade old new a o → new.head ≡ old.head
wait_head None old new a made = ap (λ (k : Story). k.head) made
wait_head (Some (Ok r)) old new a made = ap (λ (k : Story). k.head) made.grown
wait_head (Some (Err error)) old new a made = (unmade_same old new a event.Wait error made).0

pub wait_continued : (o : Option (Result Reply DeskError)) (old new : Story) (a n : ℕ) (seen : List Entry) → seen ≡ old.journal → a ≡ n → WaitMade old new a o → Continues owner n seen new.journal
wait_continued None old new a n seen at is made = goes_same old new n seen at (ap (λ (k : Story). k.head) made, ap (λ (k : Story). k.journal) made)
wait_continued (Some (Ok r)) old new a n seen at is made = goes_did old new a n event.Wait r seen at is made
wait_continued (Some (Err error)) old new a n seen at is made = goes_same old new n seen at (unmade_same old new a event.Wait error made)

-- ---- turns that added nothing, and then one more
turn_before : (p q : Passing) (h : Head) (log : List Entry) → IsPrefix p.seen q.seen → q ≡ record p { seen = q.seen } → TurnOf q h log → TurnOf p h log
turn_before p q h log more same t = record {
  about = ap (λ (k : Passing). k.head) (sym same) ∙ t.about;
  begins = prefix_trans p.seen q.seen log more t.begins;
  mine = ap (λ (k : Passing). by k.number log) (sym same) ∙ t.mine ∙ ap (λ (k : Passing). k.own) same;
  legal = t.legal;
}

abbrev looked_before : (p q r : Passing) → IsPrefix p.seen q.seen → q ≡ record p { seen = q.seen } → Looked q r → Looked p r
looked_before p q r more same l = record {
  head = l.head;
  log = l.log;
  turn = turn_before p q l.head l.log more same l.turn;
  pass = l.pass ∙ ap (λ (k : Passing). looked k l.log) same;
}

none_before : (p q r : Passing) (e : Event) (error : DeskError) → IsPrefix p.seen q.seen → q ≡ record p { seen = q.seen } → NoAnswer q r e error → NoAnswer p r e error
none_before p q r e (Refused refusal) more same not = not
none_before p q r e (JournalFull n) more same not = (looked_before p q r more same not.0, not.1, ap (λ (k : Passing). has_room (state not.0.head not.0.log) k.number e) (sym same) ∙ not.2)
none_before p q r e (Stopped halt) more same not = (looked_before p q r more same not.0, not.1)
none_before p q r e OutOfMemory more same not = (looked_before p q r more same not.0, ap (λ (k : Passing). has_room (state not.0.head not.0.log) k.number e) (sym same) ∙ not.1)

pub wait_before : (p q r : Passing) (x y z : Snapshot) (o : Option (Result Reply DeskError)) → IsPrefix p.seen q.seen → q ≡ record p { seen = q.seen } → y ≡ x
    → WaitedIn (record { pass = q; read = y }) (record { pass = r; read = z }) o → WaitedIn (record { pass = p; read = x }) (record { pass = r; read = z }) o
wait_before p q r x y z None more same kept w = (looked_before p q r more same w.0, w.1 ∙ kept)
wait_before p q r x y z (Some (Ok v)) more same kept w = record {
  head = w.head;
  log = w.log;
  turn = turn_before p q w.head w.log more same w.turn;
  step = subst (λ (k : Passing). IsStep (state w.head w.log) (entry_of (state w.head w.log) k.number event.Wait v)) same w.step;
  pass = w.pass ∙ ap (λ (k : Passing). added k w.log (entry_of (state w.head w.log) k.number event.Wait v)) same;
  read = w.read ∙ kept;
}
wait_before p q r x y z (Some (Err error)) more same kept w = (none_before p q r event.Wait error more same w.0, w.1 ∙ kept)

pub uncalled_from : (r : Result Reply DeskError) (s t : Sitting) → WaitedIn s t (Some r) → IfErr r (λ error. Uncalled s t event.Wait error)
uncalled_from (Ok v) s t w = tt
uncalled_from (Err error) s t w = w
