-- on keeps the rule: the pass that has the turn gives the slot back, its new entries are part of the story, and the next ticket is served.
use Rattle.std.proofs.Common.{◌≡◌, ℕ, zero, suc, ◌+◌, ◌%◌, ◌^◌, ◌≤◌, ◌≢◌, true, false, true≢false, List, [], ◌∷◌, ◌++◌, length, drop, set, get_or, refl, sym, ap, ◌∙◌, subst, inl, ⊎_elim, arith, Option, Some}
use Rattle.std.specs.List.{AllByRecursion as Each}
use Rattle.std.proofs.lemmas.List.Elements.{recursion_from_All}
use Rattle.std.proofs.lemmas.Option.{same_Some}
use mathlib.Core.Option.{some, none, some-injective}
use lib.ListN.{get_elem?}
use Rattle.atomic_table.specs.Table.{Me, gives, step, Allows, rest, put_back}
use Rattle.rvd_turn.specs.declared.view.View.{View}
use Rattle.rvd_turn.specs.Story.{owned, IsPrefix, Continues}
use Rattle.rvd_turn.specs.Views.{gave}
use Rattle.rvd_turn.specs.Steps.{Serves}
use Rattle.rvd_turn.specs.Rule.{Apart, TurnState, kind_of, ticket_at, Waits, IsMet, Kept}
use Rattle.rvd_turn.proofs.Lists.{Each-imp, Each-both, at_tail, headed, drop_length, slot_value}
use Rattle.rvd_turn.proofs.Prefixes.{prefix_refl, prefix_trans}
use Rattle.rvd_turn.proofs.Owned.{owned_other, owned_same}
use Rattle.rvd_turn.proofs.Queue.{ticket_served}
use Rattle.rvd_turn.proofs.Holders.{upd, upd_same, upd_other, seat_upd}
use Rattle.rvd_turn.proofs.Frame.{frame, each_set, held_set}

module _ {T H E : Type 0} (head_of : T → H) (entries : T → List E) (owner : E → ℕ) where
  -- A number behind the first is one place further ahead, with the same ticket.
  moves_up : (t : TurnState H E) (a n k : ℕ) → get_elem? t.queue 0 ≡ some a → n ≢ a → get_elem? t.queue k ≡ some n
      → (k' : ℕ) × (get_elem? (drop 1 t.queue) k' ≡ some n) × (((t.serving + 1) % 2 ^ 64 + k') % 2 ^ 64 ≡ ticket_at t k)
  moves_up t a n zero first ne q = absurd (ne (some-injective n a (sym q ∙ first)))
  moves_up t a n (suc k) first ne q = (k, at_tail t.queue k n q, omega (arith, ticket_served t.serving k))

  -- on: fetch_add on `serving`, by the pass that has the turn, with the value x in the slot.
  pub serves : (slots id : ℕ) (m : Me (Option T) (View H E)) (x : T) → m.0.live ≡ true → m.0.turn ≡ true → m.1 ≡ (0, Some x) ∷ [] → m.0.head ≡ Some (head_of x) → Continues owner m.0.number m.0.seen (entries x)
      → Allows (Kept head_of entries owner) slots id m 0 (λ n. (n + 1) % 2 ^ 64) (Serves head_of entries owner (step slots 0 1 0 none) m)
  serves slots id m x live has holds hd more s r _ at _ =
      let v = m.0 in let t = r.state in let f = r.each id v at live in let o = r.sound in
      let turn = f.turn has in
      let new : List E = more.0 in
      let grown : entries x ≡ t.log ++ new = more.1 ∙ ap (λ l. l ++ new) turn.2 in
      let owners = recursion_from_All (λ e. owner e ≡ v.number) new more.2 in
      let mine : t.role v.number ≡ (id, 3) = f.role ∙ ap (λ k. (id, k)) (ap (λ b. kind_of b v.ticket) has) in
      let behind : List ℕ = drop 1 t.queue in
      let qs : t.queue ≡ v.number ∷ behind = headed t.queue v.number turn.0 in
      let t' : TurnState H E = record t { log = entries x; queue = behind; role = upd t.role v.number (id, 1); out = false; serving = (t.serving + 1) % 2 ^ 64 } in
      let else' : (n : ℕ) → n ≢ v.number → t'.role n ≡ t.role n = λ n ne. upd_other t.role v.number (id, 1) n ne in
      let other_seat : (j n : ℕ) → j ≢ id → (t.role n).0 ≡ j → n ≢ v.number = λ j n ne e k. ne (sym e ∙ ap (λ (z : ℕ). (t.role z).0) k ∙ ap (λ (z : ℕ × ℕ). z.0) mine) in
      let other_kind : (n : ℕ) → (t.role n).1 ≢ 3 → n ≢ v.number = λ n ne k. ne (ap (λ (z : ℕ). (t.role z).1) k ∙ ap (λ (z : ℕ × ℕ). z.1) mine) in
      let same_own : (n : ℕ) → n ≢ v.number → owned owner n (entries x) ≡ owned owner n t.log = λ n ne. owned_other owner v.number n t.log new (entries x) grown ne owners in
      let w : View H E = gave v (entries x) in
      let waiting = subst (Each (Waits t)) qs o.waiting in
      let apart = subst Apart qs o.apart in
      let number_small = f.number in
      let head : head_of x ≡ t.head = let a = f.head in cc in
      let back : set s.homes 0 (some (Some x)) ≡ some (Some x) ∷ [] = ⊎_elim
      (λ (h : (y : T) × (s.homes ≡ some (Some y) ∷ []) × (head_of y ≡ t.head) × (entries y ≡ t.log) × (t.out ≡ false)). ap (λ hs. set hs 0 (some (Some x))) h.1)
      (λ (h : (n : ℕ) × (s.homes ≡ none ∷ []) × (get_elem? t.queue 0 ≡ some n) × ((t.role n).1 ≡ 3) × (t.out ≡ true)). ap (λ hs. set hs 0 (some (Some x))) h.1)
      r.slot in (
        w,
        gives,
        tt,
        record {
          state = t';
          sound = record {
            small = omega arith;
            few = o.few;
            all_given = o.all_given;
            waiting = Each-both (Waits t) (λ n. n ≢ v.number) (Waits t') behind
                (λ n h ne. (h.0, subst (λ (z : ℕ × ℕ). 2 ≤ z.1) (sym (else' n ne)) h.1)) waiting.1 apart.0;
            apart = apart.1;
            none_later = λ n h. same_own n (λ e. omega arith) ∙ o.none_later n h;
          };
          words = ap (λ ws. set ws 0 ((get_or ws 0 0 + 1) % 2 ^ 64)) r.words
              ∙ ap (λ n. t'.serving ∷ n ∷ t.passes ∷ []) (let l = ap length qs in let e : length t.queue ≡ length behind + 1 = omega arith in ap (ticket_at t) e ∙ sym (ticket_served t.serving (length behind)));
          slot = inl (x, ap (put_back s.homes) holds ∙ back, head, refl, refl);
          held = held_set t t' s.views id v w at live refl (λ n. seat_upd t.role v.number (id, 1) (ap (λ (z : ℕ × ℕ). z.0) mine) n) (λ _ h. h) r.held;
          each = each_set owner t' s.views id w
              (λ j u other e lv. frame owner t t' j u record {
                head = refl;
                log = (new, sym grown);
                given = omega arith;
                role = λ n _ k. else' n (other_seat j n other k);
                own = λ n _ k. same_own n (other_seat j n other k);
                lead = λ _. (refl, refl);
                queued = λ k n seat q. moves_up t v.number n k turn.0 (other_seat j n other seat) q;
                turn = λ n seat q. absurd (other_seat j n other seat (some-injective n v.number (sym q ∙ turn.0)));
              } (r.each j u e lv))
              (λ _. record {
                head = f.head;
                seen = prefix_refl (entries x);
                before = Each-imp (λ b. IsPrefix b v.seen) (λ b. IsPrefix b (entries x)) v.before (λ b p. prefix_trans b v.seen (entries x) p (new, sym more.1)) f.before;
                number = f.number;
                role = upd_same t.role v.number (id, 1);
                own = owned_same owner v.number t.log new (entries x) grown owners ∙ ap (λ z. z ++ new) f.own
                    ∙ ap (λ z. v.own ++ z) (sym (drop_length v.seen new) ∙ ap (drop (length v.seen)) (sym more.1));
                met = Each-imp (IsMet owner t id) (IsMet owner t' id) v.met
                    (λ m h. let ne = other_kind m.0 (λ e. let k = ap (λ (z : ℕ × ℕ). z.1) h.1 in omega arith) in (h.0, else' m.0 ne ∙ h.1, same_own m.0 ne ∙ h.2))
                    f.met;
                zero = f.zero;
                lead = f.lead;
                queued = λ n e. absurd (cc);
                turn = λ e. absurd (true≢false (sym e));
              });
        },
        λ y e. let is : x ≡ y = same_Some x y (slot_value 0 0 (Some x) (Some y) [] [] (sym holds ∙ e)) in λ i. (gave v (entries (is i)), rest (holds i)),
      )
