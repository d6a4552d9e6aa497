-- join and the look after it keep the rule: one pass takes in what another holds, and then compares what both had seen.
use Rattle.std.proofs.Common.{◌≡◌, ℕ, ◌+◌, ◌<◌, ◌≤◌, ◌≢◌, true, false, true≢false, cond, List, [], ◌∷◌, ◌++◌, set, get_or, refl, sym, ap, ◌∙◌, subst, inl, inr, ⊎_elim, arith, Option, None}
use mathlib.Core.Option.{some, none, some-injective}
use mathlib.Core.Logic.{dite}
use native.Mathlib.Decide.{ℕ_discrete}
use lib.ListN.{get_elem?}
use Rattle.atomic_table.specs.Table.{Me, keeps, step, Allows, Joins}
use Rattle.atomic_table.proofs.Lists.{at_set, set_here, set_else}
use Rattle.rvd_turn.specs.declared.view.View.{View}
use Rattle.rvd_turn.specs.Known.{IsHeld}
use Rattle.rvd_turn.specs.Views.{joined, spent, settled}
use Rattle.rvd_turn.specs.Steps.{Compares}
use Rattle.rvd_turn.specs.Rule.{TurnState, kind_of, Waits, IsMet, Fits, Held, Kept}
use Rattle.rvd_turn.proofs.Lists.{Each-imp, Each-append, at_short}
use Rattle.rvd_turn.proofs.Prefixes.{prefix_refl, longer_fits}
use Rattle.rvd_turn.proofs.Holders.{passed, passed_met, passed_main, passed_by, passed_waiting, held_still, held_other, held_before}
use Rattle.rvd_turn.proofs.Frame.{hold_of, seat_of, frame, each_set, held_set}

-- The pass v at the seat id takes in the pass w at the seat `other`, which rests.
module _ {H E : Type 0} (owner : E → ℕ) (t : TurnState H E) (id : ℕ) (v : View H E) (other : ℕ) (w : View H E) (f : Fits owner t id v) (h : Fits owner t other w)
    (apart : other ≢ id) (vdrawn : v.drawn ≡ false) (wdrawn : w.drawn ≡ false) (vturn : v.turn ≡ false) (wkind : kind_of w.turn w.ticket ≡ 1) where
  abbrev joined_state : TurnState H E
  joined_state = record t { role = λ n. passed other id (t.role n) }

  away : (j : ℕ) → j ≢ other → (n : ℕ) → (t.role n).0 ≡ j → passed other id (t.role n) ≡ t.role n
  away j ne n e = passed_by other id (t.role n) (λ k. ne (sym e ∙ k))

  free : t.role w.number ≡ (other, 1)
  free = h.role ∙ ap (λ k. (other, k)) wkind

  -- What w holds goes to the seat id.
  handed : (n : ℕ) → IsHeld w.number w.met n → passed other id (t.role n) ≡ (id, 0)
  handed n k = ⊎_elim
      (λ (e : t.role n ≡ (other, kind_of w.turn w.ticket)). ap (passed other id) (e ∙ ap (λ k. (other, k)) wkind) ∙ passed_main other id)
      (λ (e : t.role n ≡ (other, 0)). ap (passed other id) e ∙ passed_met other id)
      (hold_of owner t other w n h k)

  -- Only one pass holds number 0.
  one_lead : 0 < v.made → w.made ≡ 0
  one_lead made = dite (ℕ_discrete w.made 0) (λ e. e)
      (λ more. absurd (apart (sym (seat_of owner t other w 0 h (h.lead (omega arith)).0) ∙ seat_of owner t id v 0 f (f.lead made).0)))

  joined_lead : 0 < v.made + w.made → IsHeld v.number (v.met ++ (w.number, w.own) ∷ w.met) 0 × (v.made + w.made ≡ t.given) × (t.passes ≡ (v.made + w.made) + cond v.drawn 1 0)
  joined_lead some_made = dite (ℕ_discrete v.made 0)
      (λ none_made. let l = h.lead (omega arith) in let g : w.made ≡ t.given = l.1 in let p : t.passes ≡ w.made + 0 = l.2 ∙ ap (λ b. w.made + cond b 1 0) wdrawn in
      let q : t.passes ≡ (v.made + w.made) + 0 = omega arith in
      (held_other v.number v.met w.number w.own w.met 0 l.0, omega arith, q ∙ ap (λ b. (v.made + w.made) + cond b 1 0) (sym vdrawn)))
      (λ made. let l = f.lead (omega arith) in let g : v.made ≡ t.given = l.1 in let p : t.passes ≡ v.made + 0 = l.2 ∙ ap (λ b. v.made + cond b 1 0) vdrawn in
      let none : w.made ≡ 0 = one_lead (omega arith) in
      let q : t.passes ≡ (v.made + w.made) + 0 = omega arith in
      (held_still v.number v.met w.number w.own w.met 0 l.0, omega arith, q ∙ ap (λ b. (v.made + w.made) + cond b 1 0) (sym vdrawn)))

  joined_fits : Fits owner joined_state id (joined v w)
  joined_fits =
      let long = longer_fits v.seen w.seen t.log f.seen h.seen in
      let id_apart : id ≢ other = λ e. apart (sym e) in
      record {
        head = f.head;
        seen = long.2;
        before = (long.0, (long.1, tt));
        number = f.number;
        role = away id id_apart v.number (ap (λ (z : ℕ × ℕ). z.0) f.role) ∙ f.role;
        own = f.own;
        met = Each-append (IsMet owner joined_state id) v.met ((w.number, w.own) ∷ w.met)
            (Each-imp (IsMet owner t id) (IsMet owner joined_state id) v.met (λ m k. (k.0, away id id_apart m.0 (ap (λ (z : ℕ × ℕ). z.0) k.1) ∙ k.1, k.2)) f.met) (
              (h.number, ap (passed other id) free ∙ passed_main other id, h.own),
              Each-imp (IsMet owner t other) (IsMet owner joined_state id) w.met (λ m k. (k.0, ap (passed other id) k.1 ∙ passed_met other id, k.2)) h.met,
            );
        zero = λ k. ⊎_elim
            (λ (x : IsHeld v.number v.met 0). let y = f.zero x in omega arith)
            (λ (x : IsHeld w.number w.met 0). let y = h.zero x in omega arith)
            (held_before v.number v.met w.number w.own w.met 0 k);
        lead = joined_lead;
        queued = f.queued;
        turn = λ e. absurd (true≢false (sym e ∙ vturn));
      }

  joined_held : (views : List (View H E)) → get_elem? views id ≡ some v → get_elem? views other ≡ some w → v.live ≡ true → Held t views → Held joined_state (set (set views id (joined v w)) other spent)
  joined_held views at there live held n l =
      let x = held n l in
      let id_apart : id ≢ other = λ e. apart (sym e) in
      let after : List (View H E) = set (set views id (joined v w)) other spent in
      let staying : get_elem? after id ≡ some (joined v w) = set_else (set views id (joined v w)) other id spent id_apart ∙ set_here views id (joined v w) (at_short views id v at) in
      dite (ℕ_discrete (t.role n).0 other)
      (λ e. let same : x.0 ≡ w = some-injective x.0 w (sym x.1 ∙ ap (get_elem? views) e ∙ there) in
      let k : IsHeld w.number w.met n = subst (λ (u : View H E). IsHeld u.number u.met n) same x.3 in
      (joined v w, ap (λ (z : ℕ × ℕ). get_elem? after z.0) (handed n k) ∙ staying, live, held_other v.number v.met w.number w.own w.met n k))
      (λ ne. let stays : passed other id (t.role n) ≡ t.role n = passed_by other id (t.role n) ne in
      let y = held_set t t views id v (joined v w) at live refl (λ _. refl) (λ n k. held_still v.number v.met w.number w.own w.met n k) held n l in
      (y.0, ap (λ (z : ℕ × ℕ). get_elem? after z.0) stays ∙ set_else (set views id (joined v w)) other (t.role n).0 spent ne ∙ y.1, y.2, y.3))

module _ {T H E : Type 0} (head_of : T → H) (entries : T → List E) (owner : E → ℕ) where
  -- join: the pass at the seat id takes in the one at `other`.
  pub joins : (id : ℕ) (v : View H E) (other : ℕ) (w : View H E) → v.live ≡ true → w.live ≡ true → v.drawn ≡ false → w.drawn ≡ false → v.turn ≡ false → w.turn ≡ false → w.ticket ≡ None
      → Joins (Kept head_of entries owner) id v other w (joined v w) spent
  joins id v other w vlive wlive vdrawn wdrawn vturn wturn wticket s r at apart there =
      let t = r.state in let o = r.sound in let f = r.each id v at vlive in
      let there' : get_elem? s.views other ≡ some w = ⊎_elim (λ (x : (other ≡ id) × (joined v w ≡ w)). absurd (apart x.0)) (λ (x : (other ≢ id) × (get_elem? s.views other ≡ some w)). x.1) (at_set s.views id other (joined v w) w there) in
      let h = r.each other w there' wlive in
      let wkind : kind_of w.turn w.ticket ≡ 1 = ap (λ b. kind_of b w.ticket) wturn ∙ ap (kind_of false) wticket in
      let t' : TurnState H E = joined_state owner t id v other w f h apart vdrawn wdrawn vturn wkind in
      let mine : Fits owner t' id (joined v w) = joined_fits owner t id v other w f h apart vdrawn wdrawn vturn wkind in
      let waits : (n : ℕ) → 2 ≤ (t.role n).1 → t'.role n ≡ t.role n = λ n e. passed_waiting other id (t.role n) e in
      record {
        state = t';
        sound = record {
          small = o.small;
          few = o.few;
          all_given = o.all_given;
          waiting = Each-imp (Waits t) (Waits t') t.queue (λ n k. (k.0, subst (λ (z : ℕ × ℕ). 2 ≤ z.1) (sym (waits n k.1)) k.1)) o.waiting;
          apart = o.apart;
          none_later = o.none_later;
        };
        words = r.words;
        slot = ⊎_elim (λ x. inl x) (λ (x : (n : ℕ) × (s.homes ≡ none ∷ []) × (get_elem? t.queue 0 ≡ some n) × ((t.role n).1 ≡ 3) × (t.out ≡ true)).
            let k = x.3 in inr (x.0, x.1, x.2, ap (λ (z : ℕ × ℕ). z.1) (waits x.0 (omega arith)) ∙ x.3, x.4)) r.slot;
        held = joined_held owner t id v other w f h apart vdrawn wdrawn vturn wkind s.views at there' vlive r.held;
        each = each_set owner t' (set s.views id (joined v w)) other spent
            (λ j u elsewhere e lv. ⊎_elim
            (λ (x : (j ≡ id) × (joined v w ≡ u)). subst (λ (z : ℕ × View H E). Fits owner t' z.0 z.1) (λ i. (sym x.0 i, x.1 i)) mine)
            (λ (x : (j ≢ id) × (get_elem? s.views j ≡ some u)). frame owner t t' j u record {
              head = refl;
              log = prefix_refl t.log;
              given = omega arith;
              role = λ n _ k. passed_by other id (t.role n) (λ e. elsewhere (sym k ∙ e));
              own = λ _ _ _. refl;
              lead = λ _. (refl, refl);
              queued = λ k n _ q. (k, q, refl);
              turn = λ n _ q. (q, refl, refl, refl);
            } (r.each j u x.1 lv))
            (at_set s.views id j (joined v w) u e))
            (λ e. absurd (true≢false (sym e)));
      }

  -- The look after a join compares what both had seen.
  pub compares : (slots id : ℕ) (m : Me (Option T) (View H E)) → m.0.live ≡ true → Allows (Kept head_of entries owner) slots id m 0 (λ n. n) (Compares head_of entries owner (step slots 0 0 0 none) m)
  compares slots id m live s r _ at _ =
      let v = m.0 in let t = r.state in let f = r.each id v at live in (
        settled v,
        keeps,
        tt,
        record {
          state = t;
          sound = r.sound;
          words = ap (λ ws. set ws 0 (get_or ws 0 0)) r.words;
          slot = r.slot;
          held = held_set t t s.views id v (settled v) at live refl (λ _. refl) (λ _ h. h) r.held;
          each = each_set owner t s.views id (settled v) (λ j u _ e lv. r.each j u e lv) (λ _. record {
            head = f.head;
            seen = f.seen;
            before = tt;
            number = f.number;
            role = f.role;
            own = f.own;
            met = f.met;
            zero = f.zero;
            lead = f.lead;
            queued = f.queued;
            turn = f.turn;
          });
        },
        (refl, f.before),
      )
