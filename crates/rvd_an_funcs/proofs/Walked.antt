-- What a walk over a function's body has found and asked. Use `walk_begun` for the start and `walk_step` for one more address
-- that is met.
use Rattle.std.proofs.Common.{◌≡◌, ◌≢◌, ℕ, suc, ◌+◌, ◌<◌, ◌≤◌, Bool, true, false, cond, not, ◌&&◌, ◌||◌, List, [], ◌∷◌, ◌++◌, length, take, get_or, refl, sym, ap, ◌∙◌, subst, inl, inr, ◌⊎◌, arith, length-append}
use Rattle.std.specs.Prelude.{flat_map, Contains, ◌==◌}
use Rattle.std.proofs.lemmas.Bool.{false≢true, and_parts, and_from, cases_Bool, or_cases, or_left, or_right, eqb-true, eq-eqb}
use Rattle.std.proofs.lemmas.List.{take_more, take-append-le}
use Rattle.std.proofs.lemmas.List.Concat.{flat_map-append}
use Rattle.std.proofs.lemmas.List.Elements.{Contains-append_cases, Contains-append_left, Contains-append_right}
use Rattle.rvd_fact.specs.Program.{Program, cell_at, is_present}
use Rattle.rvd_fact.specs.Memory.{func_key, unit_key, has_instruction}
use Rattle.rvd_fact.specs.Valid.{IsValid}
use Rattle.rvd_ask.specs.declared.asks.Ask.{Ask}
use Rattle.rvd_ask.specs.declared.asks.Ask.TheVariants as ask
use Rattle.rvd_ask.specs.Answers.{only_if}
use Rattle.rvd_ask.specs.Body.{met_asks, member_asks, reach_asks}
use Rattle.rvd_ask.specs.Reach.{has, may_join, reach, ways, IsReached}
use Rattle.rvd_ask.proofs.CodeAddresses.{are_codes}
use Rattle.rvd_ask.proofs.Proposing.{append-nil}
use Rattle.rvd_ask.proofs.ReachWalks.{member}
use Rattle.rvd_an_funcs.specs.Walks.{entry_asks, new_asks, new_member, new_ways}
use Rattle.rvd_an_funcs.proofs.Lists.{contains_cases, contains_first, contains_in, contains_later, contains_none, Distinct, distinct_push, has_at, has_either, has_first, has_left, has_one, has_right, has_source}

-- the members, where they lead, and what was met, of which the first ways are a part; and what was asked
pub record IsWalked (P : Program) (e : ℕ) (ms ws met : List ℕ) (next : ℕ) (asked : List Ask) : Type 0 where
  pub leads : ws ≡ flat_map (ways P) ms
  pub sound : (z : ℕ) → has z ms ≡ true → IsReached P e z
  pub start : has_instruction P e ≡ true → has e ms ≡ true
  pub joined : (z : ℕ) → has z met ≡ true → may_join P z ≡ true → has z ms ≡ true
  pub known : (z : ℕ) → has z ms ≡ true → has z met ≡ true
  pub followed : (z : ℕ) → has z (take next ws) ≡ true → has z met ≡ true
  pub distinct : Distinct ms
  pub within : next ≤ length ws
  pub entry : Contains asked (ask.Cell (unit_key e))
  pub looked : (z : ℕ) → has z met ≡ true → z ≢ e → (q : Ask) → Contains (met_asks P z) q → Contains asked q
  pub from : (z : ℕ) → has z ms ≡ true → Contains asked (ask.From z)
  pub only : (q : Ask) → Contains asked q → Contains (reach_asks P e) q

-- what an address that is met adds
record Added (P : Program) (met : List ℕ) (w : ℕ) (ns vs : List ℕ) (qs : List Ask) : Type 0 where
  leads : vs ≡ flat_map (ways P) ns
  new : (ns ≡ []) ⊎ ((ns ≡ w ∷ []) × (has w met ≡ false) × (may_join P w ≡ true))
  joined : may_join P w ≡ true → (has w met ≡ true) ⊎ (has w ns ≡ true)
  looked : (has w met ≡ true) ⊎ ((q : Ask) → Contains (met_asks P w) q → Contains qs q)
  from : (z : ℕ) → has z ns ≡ true → Contains qs (ask.From z)
  only : (q : Ask) → Contains qs q → Contains (met_asks P w) q ⊎ ((ask.From w ≡ q) × (may_join P w ≡ true))

module _ (P : Program) (e : ℕ) (valid : IsValid P) where
  -- a reached instruction's asks are those of the reach
  pub reached_asks : (y : ℕ) → IsReached P e y → (q : Ask) → Contains (member_asks P y) q → Contains (reach_asks P e) q
  reached_asks y r q c = contains_later (ask.Cell (unit_key e)) q _ (contains_in (member_asks P) y q (reach P e) (member P e (are_codes P valid) y r) c)

  next_reached : (y z : ℕ) → IsReached P e y → has z (ways P y) ≡ true → may_join P z ≡ true → IsReached P e z
  next_reached y z r way joining = (suc r.0, (y, r.1, and_from (has z (ways P y)) (may_join P z) way joining))

  first : Contains (reach_asks P e) (ask.Cell (unit_key e))
  first = contains_first (ask.Cell (unit_key e)) (flat_map (member_asks P) (reach P e))

  from_first : (y : ℕ) → Contains (member_asks P y) (ask.From y)
  from_first y = contains_first (ask.From y) (flat_map (met_asks P) (ways P y))

  pub walk_begun : (ms ws met : List ℕ) → ((z : ℕ) → has z met ≡ (e == z)) → ms ≡ cond (has_instruction P e) (e ∷ []) [] → ws ≡ cond (has_instruction P e) (ways P e) [] → IsWalked P e ms ws met 0 (entry_asks P e)
  walk_begun ms ws met is_met members lead =
      subst (λ (xs : List ℕ). IsWalked P e xs ws met 0 (entry_asks P e)) (sym members)
      (subst (λ (vs : List ℕ). IsWalked P e (cond (has_instruction P e) (e ∷ []) []) vs met 0 (entry_asks P e)) (sym lead) (from_entry (has_instruction P e) refl))
    where
      no_others : (z : ℕ) → has z met ≡ true → z ≢ e → ⊥
      no_others z h other = other (sym (eqb-true e z (sym (is_met z) ∙ h)))

      from_entry : (b : Bool) → has_instruction P e ≡ b → IsWalked P e (cond b (e ∷ []) []) (cond b (ways P e) []) met 0 (ask.Cell (unit_key e) ∷ only_if b (ask.From e ∷ []))
      from_entry true there =
          let r : IsReached P e e = (0, (refl, there)) in
          record {
            leads = sym (append-nil (ways P e));
            sound = λ z h. subst (IsReached P e) (has_one z e h) r;
            start = λ i. has_first e [];
            joined = λ z h j. or_left (e == z) false (sym (is_met z) ∙ h);
            known = λ z h. is_met z ∙ eq-eqb e z (has_one z e h);
            followed = λ z h. absurd (false≢true h);
            distinct = (refl, tt);
            within = omega arith;
            entry = contains_first (ask.Cell (unit_key e)) (ask.From e ∷ []);
            looked = λ z h other q c. absurd (no_others z h other);
            from = λ z h. contains_later (ask.Cell (unit_key e)) (ask.From z) (ask.From e ∷ []) (subst (λ (x : ℕ). Contains (ask.From e ∷ []) (ask.From x)) (has_one z e h) (contains_first (ask.From e) []));
            only = λ q c. elim (contains_cases (ask.Cell (unit_key e)) q (ask.From e ∷ []) c) [
              | inl here ↦ subst (Contains (reach_asks P e)) here first
              | inr later ↦ elim (contains_cases (ask.From e) q [] later) [
                | inl is ↦ reached_asks e r q (subst (Contains (member_asks P e)) is (from_first e))
                | inr no_more ↦ absurd (contains_none q no_more)
              ]
            ];
          }
      from_entry false nothing = record {
        leads = refl;
        sound = λ z h. absurd (false≢true h);
        start = λ there. absurd (false≢true (sym nothing ∙ there));
        joined = λ z h j.
            let there : has_instruction P z ≡ true = (and_parts (has_instruction P z) (not (is_present (cell_at P (func_key z)))) j).0 in
            absurd (false≢true (sym nothing ∙ ap (has_instruction P) (eqb-true e z (sym (is_met z) ∙ h)) ∙ there));
        known = λ z h. absurd (false≢true h);
        followed = λ z h. absurd (false≢true h);
        distinct = tt;
        within = omega arith;
        entry = contains_first (ask.Cell (unit_key e)) [];
        looked = λ z h other q c. absurd (no_others z h other);
        from = λ z h. absurd (false≢true h);
        only = λ q c. elim (contains_cases (ask.Cell (unit_key e)) q [] c) [
          | inl here ↦ subst (Contains (reach_asks P e)) here first
          | inr no_more ↦ absurd (contains_none q no_more)
        ];
      }

  -- the address is in the ways of a member
  member_before : (ms ws met : List ℕ) (next : ℕ) (asked : List Ask) → IsWalked P e ms ws met next asked → next < length ws → (y : ℕ) × (has y ms ≡ true) × (has (get_or ws next 0) (ways P y) ≡ true)
  member_before ms ws met next asked s more = has_source (ways P) (get_or ws next 0) ms (subst (λ (vs : List ℕ). has (get_or ws next 0) vs ≡ true) s.leads (has_at ws next more))

  step : (ms ws met after : List ℕ) (next : ℕ) (asked : List Ask) → IsWalked P e ms ws met next asked → next < length ws
      → ((z : ℕ) → has z after ≡ (get_or ws next 0 == z || has z met))
      → (ns vs : List ℕ) (qs : List Ask) → Added P met (get_or ws next 0) ns vs qs → IsWalked P e (ms ++ ns) (ws ++ vs) after (next + 1) (asked ++ qs)
  step ms ws met after next asked s more is_met ns vs qs a =
      let w = get_or ws next 0 in
      let before = member_before ms ws met next asked s more in
      let is_new : (z : ℕ) → has z ns ≡ true → (w ≡ z) × (has w met ≡ false) × (may_join P w ≡ true) = λ z h. elim a.new [
        | inl none ↦ absurd (false≢true (subst (λ (xs : List ℕ). has z xs ≡ true) none h))
        | inr one ↦ (has_one z w (subst (λ (xs : List ℕ). has z xs ≡ true) one.0 h), one.1, one.2)
      ] in
      let old_met : (z : ℕ) → has z met ≡ true → has z after ≡ true = λ z h. is_met z ∙ or_right (w == z) _ h in
      let now_met : (z : ℕ) → w ≡ z → has z after ≡ true = λ z same. is_met z ∙ or_left (w == z) _ (eq-eqb w z same) in
      record {
        leads = (λ i. s.leads i ++ a.leads i) ∙ sym (flat_map-append (ways P) ms ns);
        sound = λ z h. elim (has_either z ms ns h) [
          | inl old ↦ s.sound z old
          | inr new ↦
              let facts = is_new z new in
              subst (IsReached P e) facts.0 (next_reached before.0 w (s.sound before.0 before.1) before.2 facts.2)
        ];
        start = λ there. has_left e ms ns (s.start there);
        joined = λ z h joining. elim (or_cases (w == z) (has z met) (sym (is_met z) ∙ h)) [
          | inl here ↦
              let same : w ≡ z = eqb-true w z here in
              elim (a.joined (ap (may_join P) same ∙ joining)) [
                | inl was ↦ has_left z ms ns (s.joined z (subst (λ (x : ℕ). has x met ≡ true) same was) joining)
                | inr now ↦ has_right z ms ns (subst (λ (x : ℕ). has x ns ≡ true) same now)
              ]
          | inr old ↦ has_left z ms ns (s.joined z old joining)
        ];
        known = λ z h. elim (has_either z ms ns h) [
          | inl old ↦ old_met z (s.known z old)
          | inr new ↦ now_met z (is_new z new).0
        ];
        followed = λ z h.
            let in_first : has z (take (next + 1) ws) ≡ true = subst (λ (xs : List ℕ). has z xs ≡ true) (take-append-le (next + 1) ws vs (omega arith)) h in
            elim (has_either z (take next ws) (w ∷ []) (subst (λ (xs : List ℕ). has z xs ≡ true) (take_more ws next 0 more) in_first)) [
              | inl old ↦ old_met z (s.followed z old)
              | inr new ↦ now_met z (has_one z w new)
            ];
        distinct = elim a.new [
          | inl none ↦ subst Distinct (sym (append-nil ms) ∙ ap (λ xs. ms ++ xs) (sym none)) s.distinct
          | inr one ↦ subst Distinct (ap (λ xs. ms ++ xs) (sym one.0)) (distinct_push ms w s.distinct (elim (cases_Bool (has w ms)) [ inl h ↦ absurd (false≢true (sym one.1 ∙ s.known w h)) | inr lacks ↦ lacks ]))
        ];
        within = omega (arith, length-append ws vs);
        entry = Contains-append_left asked qs _ s.entry;
        looked = λ z h other q c. elim (or_cases (w == z) (has z met) (sym (is_met z) ∙ h)) [
          | inl here ↦
              let same : w ≡ z = eqb-true w z here in
              elim a.looked [
                | inl was ↦ Contains-append_left asked qs q (s.looked z (subst (λ (x : ℕ). has x met ≡ true) same was) other q c)
                | inr now ↦ Contains-append_right asked qs q (now q (subst (λ (x : ℕ). Contains (met_asks P x) q) (sym same) c))
              ]
          | inr old ↦ Contains-append_left asked qs q (s.looked z old other q c)
        ];
        from = λ z h. elim (has_either z ms ns h) [
          | inl old ↦ Contains-append_left asked qs _ (s.from z old)
          | inr new ↦ Contains-append_right asked qs _ (a.from z new)
        ];
        only = λ q c. elim (Contains-append_cases asked qs q c) [
          | inl old ↦ s.only q old
          | inr new ↦ elim (a.only q new) [
            | inl met_one ↦ reached_asks before.0 (s.sound before.0 before.1) q (contains_later (ask.From before.0) q _ (contains_in (met_asks P) w q (ways P before.0) before.2 met_one))
            | inr from_one ↦ reached_asks w (next_reached before.0 w (s.sound before.0 before.1) before.2 from_one.1) q (subst (Contains (member_asks P w)) from_one.0 (from_first w))
          ]
        ];
      }

  -- what an address adds that is met
  adds : (met : List ℕ) (w : ℕ) → Added P met w (new_member P met w) (new_ways P met w) (new_asks P met w)
  adds met w = of_met (has w met) refl
    where
      of_joining : (j : Bool) → has w met ≡ false → may_join P w ≡ j → Added P met w (cond j (w ∷ []) []) (cond j (ways P w) []) (met_asks P w ++ only_if j (ask.From w ∷ []))
      of_joining true new joining = record {
        leads = sym (append-nil (ways P w));
        new = inr (refl, new, joining);
        joined = λ j. inr (has_first w []);
        looked = inr (λ q c. Contains-append_left (met_asks P w) (ask.From w ∷ []) q c);
        from = λ z h. subst (λ (x : ℕ). Contains (met_asks P w ++ ask.From w ∷ []) (ask.From x)) (has_one z w h) (Contains-append_right (met_asks P w) (ask.From w ∷ []) (ask.From w) (contains_first (ask.From w) []));
        only = λ q c. elim (Contains-append_cases (met_asks P w) (ask.From w ∷ []) q c) [
          | inl a ↦ inl a
          | inr b ↦ elim (contains_cases (ask.From w) q [] b) [ inl is ↦ inr (is, joining) | inr no_more ↦ absurd (contains_none q no_more) ]
        ];
      }
      of_joining false new stays = record {
        leads = refl;
        new = inl refl;
        joined = λ j. absurd (false≢true (sym stays ∙ j));
        looked = inr (λ q c. Contains-append_left (met_asks P w) [] q c);
        from = λ z h. absurd (false≢true h);
        only = λ q c. elim (Contains-append_cases (met_asks P w) [] q c) [ inl a ↦ inl a | inr no_more ↦ absurd (contains_none q no_more) ];
      }

      of_met : (m : Bool) → has w met ≡ m → Added P met w (cond (not m && may_join P w) (w ∷ []) []) (cond (not m && may_join P w) (ways P w) []) (only_if (not m) (met_asks P w ++ only_if (may_join P w) (ask.From w ∷ [])))
      of_met true was = record {
        leads = refl;
        new = inl refl;
        joined = λ j. inl was;
        looked = inl was;
        from = λ z h. absurd (false≢true h);
        only = λ q c. absurd (contains_none q c);
      }
      of_met false new = of_joining (may_join P w) new refl

  pub walk_step : (ms ws met after : List ℕ) (next : ℕ) (asked : List Ask) → IsWalked P e ms ws met next asked → next < length ws
      → ((z : ℕ) → has z after ≡ (get_or ws next 0 == z || has z met))
      → IsWalked P e (ms ++ new_member P met (get_or ws next 0)) (ws ++ new_ways P met (get_or ws next 0)) after (next + 1) (asked ++ new_asks P met (get_or ws next 0))
  walk_step ms ws met after next asked s more is_met = step ms ws met after next asked s more is_met _ _ _ (adds met (get_or ws next 0))
