-- ticket and look keep the rule: a ticket is drawn, and a look that finds it takes the slot. At the end, what a wait for the turn comes to.
use Rattle.std.proofs.Common.{◌≡◌, ℕ, ◌+◌, ◌%◌, ◌^◌, ◌<◌, ◌≤◌, ◌≢◌, eqb, Bool, true, false, true≢false, cond, List, [], ◌∷◌, ◌++◌, length, set, get_or, refl, sym, ap, ◌∙◌, subst, inl, inr, ⊎_elim, arith, eq-eqb, ne_eqb, Option, Some, None, length-append}
use Rattle.std.specs.Prelude.{MatchBool}
use mathlib.Core.Option.{some, none, some-injective}
use lib.ListN.{get_elem?}
use Rattle.atomic_table.specs.Table.{State, Me, Act, keeps, takes, step, stepped, Allows, Valid, carried_after}
use Rattle.atomic_table.proofs.Lists.{at_longer, at_last}
use Rattle.rvd_turn.specs.declared.view.View.{View}
use Rattle.rvd_turn.specs.Story.{IsPrefix}
use Rattle.rvd_turn.specs.Views.{ticketed, took, is_due}
use Rattle.rvd_turn.specs.Steps.{Draws, Looks, Takes, IsServed}
use Rattle.rvd_turn.specs.Rule.{TurnState, kind_of, ticket_at, Sound, Waits, IsMet, Kept}
use Rattle.rvd_turn.proofs.Lists.{Each-imp, Each-append, at_short}
use Rattle.rvd_turn.proofs.Prefixes.{prefix_refl}
use Rattle.rvd_turn.proofs.Queue.{Apart-append, Apart-short, ticket_next, ticket_first, due_is}
use Rattle.rvd_turn.proofs.Holders.{upd, upd_same, upd_other, waits_upd, seat_upd}
use Rattle.rvd_turn.proofs.Frame.{frame, each_set, held_set}
use Rattle.rvd_turn.proofs.Told.{told}

module _ {T H E : Type 0} (head_of : T → H) (entries : T → List E) (owner : E → ℕ) where
  abbrev R : State (Option T) (View H E) → Type 0
  R = Kept head_of entries owner

  -- ticket: fetch_add on `ticket`.
  pub draws : (slots id : ℕ) (m : Me (Option T) (View H E)) → m.0.live ≡ true → m.0.turn ≡ false → m.0.ticket ≡ None
      → Allows R slots id m 1 (λ n. (n + 1) % 2 ^ 64) (Draws head_of entries owner (step slots 1 1 0 none) m)
  draws slots id m live no_turn no_ticket s r _ at _ =
      let v = m.0 in let t = r.state in let f = r.each id v at live in let o = r.sound in
      let found : ℕ = get_or s.words 1 0 in
      let is : found ≡ ticket_at t (length t.queue) = ap (λ ws. get_or ws 1 0) r.words in
      let idle : t.role v.number ≡ (id, 1) = f.role ∙ ap (λ k. (id, k)) (ap (λ b. kind_of b v.ticket) no_turn ∙ ap (kind_of false) no_ticket) in
      let t' : TurnState H E = record t { queue = t.queue ++ v.number ∷ []; role = upd t.role v.number (id, 2) } in
      let else' : (n : ℕ) → n ≢ v.number → t'.role n ≡ t.role n = λ n ne. upd_other t.role v.number (id, 2) n ne in
      let other_seat : (j n : ℕ) → j ≢ id → (t.role n).0 ≡ j → n ≢ v.number = λ j n ne e k. ne (sym e ∙ ap (λ (z : ℕ). (t.role z).0) k ∙ ap (λ (z : ℕ × ℕ). z.0) idle) in
      let other_kind : (n : ℕ) → (t.role n).1 ≢ 1 → n ≢ v.number = λ n ne k. ne (ap (λ (z : ℕ). (t.role z).1) k ∙ ap (λ (z : ℕ × ℕ). z.1) idle) in
      let w : View H E = ticketed v found in (
        w,
        keeps,
        tt,
        record {
          state = t';
          sound = record {
            small = o.small;
            few = o.few;
            all_given = o.all_given;
            waiting = Each-append (Waits t') t.queue (v.number ∷ [])
                (Each-imp (Waits t) (Waits t') t.queue (λ n h. (h.0, waits_upd t.role v.number (id, 2) (omega arith) n h.1)) o.waiting)
                ((f.number, subst (λ (z : ℕ × ℕ). 2 ≤ z.1) (sym (upd_same t.role v.number (id, 2))) (omega arith)), tt);
            apart = Apart-append t.queue v.number o.apart (Each-imp (Waits t) (λ n. n ≢ v.number) t.queue (λ n h. let k = h.1 in other_kind n (λ e. omega arith)) o.waiting);
            none_later = o.none_later;
          };
          words = ap (λ ws. set ws 1 ((get_or ws 1 0 + 1) % 2 ^ 64)) r.words
              ∙ ap (λ n. t.serving ∷ n ∷ t.passes ∷ []) (ticket_next t.serving (length t.queue) ∙ ap (λ k. ticket_at t k) (sym (length-append t.queue (v.number ∷ []))));
          slot = ⊎_elim (λ x. inl x) (λ (x : (n : ℕ) × (s.homes ≡ none ∷ []) × (get_elem? t.queue 0 ≡ some n) × ((t.role n).1 ≡ 3) × (t.out ≡ true)).
              let k = x.3 in inr (x.0, x.1, at_longer t.queue (v.number ∷ []) 0 x.0 x.2, ap (λ (z : ℕ × ℕ). z.1) (else' x.0 (other_kind x.0 (λ e. omega arith))) ∙ x.3, x.4)) r.slot;
          held = held_set t t' s.views id v w at live refl (λ n. seat_upd t.role v.number (id, 2) (ap (λ (z : ℕ × ℕ). z.0) idle) n) (λ _ h. h) r.held;
          each = each_set owner t' s.views id w
              (λ j u other e lv. frame owner t t' j u record {
                head = refl;
                log = prefix_refl t.log;
                given = omega arith;
                role = λ n _ k. else' n (other_seat j n other k);
                own = λ _ _ _. refl;
                lead = λ _. (refl, refl);
                queued = λ k n _ q. (k, at_longer t.queue (v.number ∷ []) k n q, refl);
                turn = λ n _ q. (at_longer t.queue (v.number ∷ []) 0 n q, refl, refl, refl);
              } (r.each j u e lv))
              (λ _. record {
                head = f.head;
                seen = f.seen;
                before = f.before;
                number = f.number;
                role = upd_same t.role v.number (id, 2) ∙ ap (λ k. (id, k)) (sym (ap (λ b. kind_of b (Some found)) no_turn));
                own = f.own;
                met = Each-imp (IsMet owner t id) (IsMet owner t' id) v.met
                    (λ m h. (h.0, else' m.0 (other_kind m.0 (λ e. let k = ap (λ (z : ℕ × ℕ). z.1) h.1 in omega arith)) ∙ h.1, h.2))
                    f.met;
                zero = f.zero;
                lead = f.lead;
                queued = λ n e. let same : found ≡ n = cc in (length t.queue, at_last t.queue v.number (length t.queue) refl, sym same ∙ is);
                turn = λ e. absurd (true≢false (sym e ∙ no_turn));
              });
        },
        refl,
      )

  queue_short : (t : TurnState H E) → Sound owner t → length t.queue ≤ t.given
  queue_short t o = Apart-short t.queue t.given o.apart (Each-imp (Waits t) (λ n. n < t.given) t.queue (λ n h. h.0) o.waiting)

  -- What a look owes, where b says whether it gives the turn.
  abbrev Gets : State (Option T) (View H E) → ℕ → ℕ → Me (Option T) (View H E) → Bool → Type 0
  Gets s slots id m b = (w : View H E) × (a : Act (Option T)) × Valid s.homes m.1 a × R (stepped s 0 (get_or s.words 0 0) id m.1 w a)
      × MatchBool b ((x : T) × (◌≡◌ {A = Me (Option T) (View H E)} (w, carried_after m.1 a) (took m.0 (entries x), (0, Some x) ∷ m.1)) × Takes head_of entries owner m.0 x) (◌≡◌ {A = Me (Option T) (View H E)} (w, carried_after m.1 a) m)

  gets : (s : State (Option T) (View H E)) (r : R s) (slots id : ℕ) (m : Me (Option T) (View H E)) → m.0.live ≡ true → get_elem? s.views id ≡ some m.0 → (b : Bool) → is_due m.0 (get_or s.words 0 0) ≡ b → Gets s slots id m b
  gets s r slots id m live at false due =
      let v = m.0 in let t = r.state in (
        v,
        keeps,
        tt,
        record {
          state = t;
          sound = r.sound;
          words = ap (λ ws. set ws 0 (get_or ws 0 0)) r.words;
          slot = r.slot;
          held = held_set t t s.views id v v at live refl (λ _. refl) (λ _ h. h) r.held;
          each = each_set owner t s.views id v (λ j u _ e lv. r.each j u e lv) (λ lv. r.each id v at lv);
        },
        refl,
      )
  gets s r slots id m live at true due =
      let v = m.0 in let t = r.state in let f = r.each id v at live in let o = r.sound in
      let found : ℕ = get_or s.words 0 0 in
      let is : found ≡ t.serving = ap (λ ws. get_or ws 0 0) r.words in
      let d = due_is v.turn v.ticket found due in
      let q = f.queued found d.1 in
      let short = queue_short t o in let inside = at_short t.queue q.0 v.number q.1 in let few = o.few in let all = o.all_given in
      let first : get_elem? t.queue 0 ≡ some v.number = subst (λ k. get_elem? t.queue k ≡ some v.number) (ticket_first t.serving q.0 o.small (omega arith) (sym is ∙ q.2)) q.1 in
      let idle : t.role v.number ≡ (id, 2) = f.role ∙ ap (λ k. (id, k)) (ap (λ b. kind_of b v.ticket) d.0 ∙ ap (kind_of false) d.1) in
      let t' : TurnState H E = record t { role = upd t.role v.number (id, 3); out = true } in
      let else' : (n : ℕ) → n ≢ v.number → t'.role n ≡ t.role n = λ n ne. upd_other t.role v.number (id, 3) n ne in
      let other_seat : (j n : ℕ) → j ≢ id → (t.role n).0 ≡ j → n ≢ v.number = λ j n ne e k. ne (sym e ∙ ap (λ (z : ℕ). (t.role z).0) k ∙ ap (λ (z : ℕ × ℕ). z.0) idle) in
      let other_kind : (n : ℕ) → (t.role n).1 ≢ 2 → n ≢ v.number = λ n ne k. ne (ap (λ (z : ℕ). (t.role z).1) k ∙ ap (λ (z : ℕ × ℕ). z.1) idle) in
      ⊎_elim
      (λ (h : (x : T) × (s.homes ≡ some (Some x) ∷ []) × (head_of x ≡ t.head) × (entries x ≡ t.log) × (t.out ≡ false)).
      let x = h.0 in let w : View H E = took v (entries x) in (
        w,
        takes 0 (Some x),
        ap (λ hs. get_elem? hs 0) h.1,
        record {
          state = t';
          sound = record {
            small = o.small;
            few = o.few;
            all_given = o.all_given;
            waiting = Each-imp (Waits t) (Waits t') t.queue (λ n h. (h.0, waits_upd t.role v.number (id, 3) (omega arith) n h.1)) o.waiting;
            apart = o.apart;
            none_later = o.none_later;
          };
          words = ap (λ ws. set ws 0 (get_or ws 0 0)) r.words;
          slot = inr (v.number, ap (λ hs. set hs 0 none) h.1, first, ap (λ (z : ℕ × ℕ). z.1) (upd_same t.role v.number (id, 3)), refl);
          held = held_set t t' s.views id v w at live refl (λ n. seat_upd t.role v.number (id, 3) (ap (λ (z : ℕ × ℕ). z.0) idle) n) (λ _ h. h) r.held;
          each = each_set owner t' s.views id w
              (λ j u other e lv. frame owner t t' j u record {
                head = refl;
                log = prefix_refl t.log;
                given = omega arith;
                role = λ n _ k. else' n (other_seat j n other k);
                own = λ _ _ _. refl;
                lead = λ _. (refl, refl);
                queued = λ k n _ q. (k, q, refl);
                turn = λ n seat q. absurd (other_seat j n other seat (some-injective n v.number (sym q ∙ first)));
              } (r.each j u e lv))
              (λ _. record {
                head = f.head;
                seen = subst (IsPrefix (entries x)) h.3 (prefix_refl (entries x));
                before = tt;
                number = f.number;
                role = upd_same t.role v.number (id, 3);
                own = f.own;
                met = Each-imp (IsMet owner t id) (IsMet owner t' id) v.met
                    (λ m h. (h.0, else' m.0 (other_kind m.0 (λ e. let k = ap (λ (z : ℕ × ℕ). z.1) h.1 in omega arith)) ∙ h.1, h.2))
                    f.met;
                zero = f.zero;
                lead = f.lead;
                queued = f.queued;
                turn = λ _. (first, d.1 ∙ ap Some is, h.3, refl);
              });
        },
        (x, refl, told head_of entries owner t id v x f h.2 h.3),
      ))
      (λ (h : (n : ℕ) × (s.homes ≡ none ∷ []) × (get_elem? t.queue 0 ≡ some n) × ((t.role n).1 ≡ 3) × (t.out ≡ true)).
      let same : h.0 ≡ v.number = some-injective h.0 v.number (sym h.2 ∙ first) in
      let k = ap (λ (z : ℕ × ℕ). z.1) idle in let l = sym h.3 ∙ ap (λ (z : ℕ). (t.role z).1) same in absurd (omega arith))
      r.slot

  -- look: a load of `serving`, which gives the turn where it finds the ticket.
  pub looks : (slots id : ℕ) (m : Me (Option T) (View H E)) → m.0.live ≡ true → Allows R slots id m 0 (λ n. n) (Looks head_of entries owner (step slots 0 0 0 none) m)
  looks slots id m live s r _ at _ = gets s r slots id m live at (is_due m.0 (get_or s.words 0 0)) refl

  due_after : (v : View H E) (t n : ℕ) (b : Bool) → v.turn ≡ false → eqb t n ≡ b → is_due (ticketed v t) n ≡ b
  due_after v t n b no_turn e = ap (λ c. cond c false (eqb t n)) no_turn ∙ e

  -- What a look of a pass with the ticket t tells, where b says whether it gives the turn.
  abbrev Found : Me (Option T) (View H E) → Me (Option T) (View H E) → ℕ → Bool → Type 0
  Found old m' t b = MatchBool b ((x : T) × (m' ≡ (took (ticketed old.0 t) (entries x), (0, Some x) ∷ old.1)) × Takes head_of entries owner (ticketed old.0 t) x) (m' ≡ (ticketed old.0 t, old.1))

  look_at : (slots : ℕ) (old m m' : Me (Option T) (View H E)) (t n : ℕ) (b : Bool) → m ≡ (ticketed old.0 t, old.1) → old.0.turn ≡ false → eqb t n ≡ b → Looks head_of entries owner (step slots 0 0 0 none) m n m' → Found old m' t b
  look_at slots old m m' t n b is no_turn e look =
      subst (Found old m' t) (due_after old.0 t n b no_turn e) (subst (λ (k : Me (Option T) (View H E)). Looks head_of entries owner (step slots 0 0 0 none) k n m') is look)

  -- A look that finds the ticket, and one that doesn't.
  pub served : (slots : ℕ) (old m m' : Me (Option T) (View H E)) (t n : ℕ) → m ≡ (ticketed old.0 t, old.1) → old.0.turn ≡ false → n ≡ t → Looks head_of entries owner (step slots 0 0 0 none) m n m' → IsServed head_of entries owner old m'
  served slots old m m' t n is no_turn same look =
      let r : Found old m' t true = look_at slots old m m' t n true is no_turn (eq-eqb t n (sym same)) look in
      (t, r.0, r.1, record { head = r.2.head; seen = r.2.seen; own = r.2.own; met = r.2.met })

  pub unserved : (slots : ℕ) (old m m' : Me (Option T) (View H E)) (t n : ℕ) → m ≡ (ticketed old.0 t, old.1) → old.0.turn ≡ false → n ≢ t → Looks head_of entries owner (step slots 0 0 0 none) m n m' → m' ≡ (ticketed old.0 t, old.1)
  unserved slots old m m' t n is no_turn ne look = look_at slots old m m' t n false is no_turn (ne_eqb t n (λ e. ne (sym e))) look
