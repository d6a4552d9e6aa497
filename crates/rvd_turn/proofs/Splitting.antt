-- number and split keep the rule: a number is drawn, and goes to a new pass.
use Rattle.std.proofs.Common.{◌≡◌, ℕ, ◌+◌, ◌%◌, ◌^◌, ◌<◌, ◌≤◌, true, false, true≢false, cond, List, [], ◌∷◌, ◌++◌, length, set, get_or, refl, sym, ap, ◌∙◌, subst, inl, inr, ⊎_elim, arith, Option}
use Rattle.std.specs.Prelude.{Any}
use mathlib.Core.Option.{some, none}
use mathlib.Core.Logic.{dite}
use native.Mathlib.Decide.{ℕ_discrete}
use lib.ListN.{get_elem?}
use Rattle.atomic_table.specs.Table.{Me, keeps, step, Allows, Splits}
use Rattle.atomic_table.proofs.Lists.{at_last, at_longer}
use Rattle.rvd_turn.specs.declared.view.View.{View}
use Rattle.rvd_turn.specs.Views.{drew, giver, fresh}
use Rattle.rvd_turn.specs.Steps.{Numbers}
use Rattle.rvd_turn.specs.Rule.{TurnState, ticket_at, Waits, IsMet, Kept}
use Rattle.rvd_turn.proofs.Lists.{Each-at, Each-imp}
use Rattle.rvd_turn.proofs.Prefixes.{prefix_refl}
use Rattle.rvd_turn.proofs.Holders.{upd, upd_same, upd_other}
use Rattle.rvd_turn.proofs.Frame.{seat_of, frame, each_set, each_snoc, held_set}

module _ {T H E : Type 0} (head_of : T → H) (entries : T → List E) (owner : E → ℕ) where
  -- number: fetch_add on `passes`.
  pub numbers : (slots id : ℕ) (m : Me (Option T) (View H E)) → m.0.live ≡ true → 0 < m.0.made → m.0.drawn ≡ false → m.0.made < 2 ^ 63
      → Allows (Kept head_of entries owner) slots id m 2 (λ n. (n + 1) % 2 ^ 64) (Numbers head_of entries owner (step slots 2 1 0 none) m)
  numbers slots id m live leads undrawn few s r _ at _ =
      let v = m.0 in let t = r.state in let f = r.each id v at live in let l = f.lead leads in let o = r.sound in
      let p : t.passes ≡ v.made + 0 = l.2 ∙ ap (λ b. v.made + cond b 1 0) undrawn in
      let g : v.made ≡ t.given = l.1 in
      let mine = seat_of owner t id v 0 f l.0 in
      let t' : TurnState H E = record t { passes = t.passes + 1 } in (
        drew v,
        keeps,
        tt,
        record {
          state = t';
          sound = record { small = o.small; few = omega arith; all_given = omega arith; waiting = o.waiting; apart = o.apart; none_later = o.none_later };
          words = ap (λ ws. set ws 2 ((get_or ws 2 0 + 1) % 2 ^ 64)) r.words ∙ ap (λ n. t.serving ∷ ticket_at t (length t.queue) ∷ n ∷ []) (let e : (t.passes + 1) % 2 ^ 64 ≡ t.passes + 1 = omega arith in e);
          slot = r.slot;
          held = held_set t t' s.views id v (drew v) at live refl (λ _. refl) (λ _ h. h) r.held;
          each = each_set owner t' s.views id (drew v)
              (λ j u other e lv. frame owner t t' j u record {
                head = refl;
                log = prefix_refl t.log;
                given = omega arith;
                role = λ _ _ _. refl;
                own = λ _ _ _. refl;
                lead = λ same. absurd (other (sym same ∙ mine));
                queued = λ k n _ q. (k, q, refl);
                turn = λ n _ q. (q, refl, refl, refl);
              } (r.each j u e lv))
              (λ _. record {
                head = f.head;
                seen = f.seen;
                before = f.before;
                number = f.number;
                role = f.role;
                own = f.own;
                met = f.met;
                zero = f.zero;
                lead = λ _. (l.0, l.1, omega arith);
                queued = f.queued;
                turn = f.turn;
              });
        },
        refl,
      )

  -- split: the drawn number goes to a new pass.
  pub splits : (id : ℕ) (v : View H E) → v.live ≡ true → 0 < v.made → v.drawn ≡ true → Splits (Kept head_of entries owner) id v (giver v) (fresh v)
  splits id v live leads has s r at =
      let t = r.state in let f = r.each id v at live in let l = f.lead leads in let o = r.sound in
      let p : t.passes ≡ v.made + 1 = l.2 ∙ ap (λ b. v.made + cond b 1 0) has in
      let g : v.made ≡ t.given = l.1 in
      let mine = seat_of owner t id v 0 f l.0 in
      let views : List (View H E) = set s.views id (giver v) in
      let new : ℕ = length views in
      let t' : TurnState H E = record t { given = t.given + 1; role = upd t.role t.given (new, 1) } in
      let keep : (n : ℕ) → n < t.given → t'.role n ≡ t.role n = λ n h. upd_other t.role t.given (new, 1) n (λ e. omega arith) in
      let added : t'.role t.given ≡ (new, 1) = upd_same t.role t.given (new, 1) in
      record {
        state = t';
        sound = record {
          small = o.small;
          few = o.few;
          all_given = omega arith;
          waiting = Each-imp (Waits t) (Waits t') t.queue (λ n h. let a = h.0 in (omega arith, subst (λ (z : ℕ × ℕ). 2 ≤ z.1) (sym (keep n h.0)) h.1)) o.waiting;
          apart = o.apart;
          none_later = λ n h. o.none_later n (omega arith);
        };
        words = r.words;
        slot = ⊎_elim (λ x. inl x) (λ (x : (n : ℕ) × (s.homes ≡ none ∷ []) × (get_elem? t.queue 0 ≡ some n) × ((t.role n).1 ≡ 3) × (t.out ≡ true)).
            let w = Each-at (Waits t) t.queue 0 x.0 o.waiting x.2 in inr (x.0, x.1, x.2, ap (λ (z : ℕ × ℕ). z.1) (keep x.0 w.0) ∙ x.3, x.4)) r.slot;
        held = λ n h. dite (ℕ_discrete n t.given)
            (λ e. let seat : (t'.role n).0 ≡ new = ap (λ k. (t'.role k).0) e ∙ ap (λ (z : ℕ × ℕ). z.0) added in
            (fresh v, ap (get_elem? (views ++ fresh v ∷ [])) seat ∙ at_last views (fresh v) new refl, refl, inl (g ∙ sym e)))
            (λ ne. let k : n < t.given = omega arith in
            let x = held_set t t s.views id v (giver v) at live refl (λ _. refl) (λ _ h. h) r.held n k in
            (x.0, ap (λ (z : ℕ × ℕ). get_elem? (views ++ fresh v ∷ []) z.0) (keep n k) ∙ at_longer views (fresh v ∷ []) (t.role n).0 x.0 x.1, x.2, x.3));
        each = each_snoc owner t' views (fresh v)
            (λ j u _ e lv. each_set owner t' s.views id (giver v)
            (λ j u other e lv. frame owner t t' j u record {
              head = refl;
              log = prefix_refl t.log;
              given = omega arith;
              role = λ n h _. keep n h;
              own = λ _ _ _. refl;
              lead = λ same. absurd (other (sym same ∙ mine));
              queued = λ k n _ q. (k, q, refl);
              turn = λ n _ q. (q, refl, refl, refl);
            } (r.each j u e lv))
            (λ _. let few = f.number in record {
              head = f.head;
              seen = f.seen;
              before = f.before;
              number = omega arith;
              role = keep v.number f.number ∙ f.role;
              own = f.own;
              met = Each-imp (IsMet owner t id) (IsMet owner t' id) v.met (λ m h. let a = h.0 in (omega arith, keep m.0 h.0 ∙ h.1, h.2)) f.met;
              zero = λ _. omega arith;
              lead = λ _. (l.0, omega arith, omega arith);
              queued = f.queued;
              turn = f.turn;
            }) j u e lv)
            (λ _. record {
              head = f.head;
              seen = f.seen;
              before = tt;
              number = omega arith;
              role = ap t'.role g ∙ added;
              own = o.none_later v.made (omega arith);
              met = tt;
              zero = λ h. absurd (⊎_elim (λ (e : v.made ≡ 0). omega arith) (λ (a : Any (λ (m : ℕ × List E). m.0 ≡ 0) []). let b = a.2 in omega arith) h);
              lead = λ h. absurd (omega arith);
              queued = λ n e. absurd (cc);
              turn = λ e. absurd (true≢false (sym e));
            });
      }
