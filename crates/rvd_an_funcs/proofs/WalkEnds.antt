-- How a walk over a function's body ends. Use `walk_short` for how many ways there are at most, and `walk_members` and
-- `walk_asks` for the end; `reads_begun`, `reads_stepped` and `reads_done` are the same with the reads.
use Rattle.std.proofs.Common.{◌≡◌, ℕ, zero, suc, ◌+◌, ◌<◌, ◌≤◌, Bool, true, false, cond, ◌||◌, List, [], ◌∷◌, ◌++◌, length, get_or, refl, sym, ap, ◌∙◌, subst, inl, inr, arith}
use Rattle.std.specs.Prelude.{sum_by, Contains, ◌==◌}
use Rattle.std.specs.Cmp.{both_ways}
use Rattle.std.proofs.lemmas.Bool.{and_parts, cases_eq}
use Rattle.std.proofs.lemmas.List.Concat.{length-flat_map}
use Rattle.rvd_fact.specs.Program.{Program}
use Rattle.rvd_fact.specs.Memory.{func_key, unit_key, has_instruction}
use Rattle.rvd_fact.specs.Valid.{IsValid}
use Rattle.rvd_ask.specs.declared.asks.Ask.{Ask}
use Rattle.rvd_ask.specs.declared.asks.Ask.TheVariants as ask
use Rattle.rvd_ask.specs.declared.answers.Answer.{Answer}
use Rattle.rvd_ask.specs.Answers.{only_if, told}
use Rattle.rvd_ask.specs.Body.{met_asks, member_asks, reach_asks}
use Rattle.rvd_ask.specs.Reach.{code_addresses, has, may_join, reach, ways, Walk}
use Rattle.rvd_ask.proofs.CodeAddresses.{are_codes}
use Rattle.rvd_ask.proofs.Proposing.{told-first}
use Rattle.rvd_ask.proofs.ReachWalks.{member, reached}
use Rattle.rvd_an_funcs.specs.Walks.{AddsBeside, entry_asks, new_asks, new_member, new_ways}
use Rattle.rvd_an_funcs.proofs.CodeOrder.{reach_codes}
use Rattle.rvd_an_funcs.proofs.Walked.{walk_begun, walk_step, IsWalked}
use Rattle.rvd_an_funcs.proofs.Lists.{contains_cases, contains_first, contains_later, contains_none, contains_source, has_in, has_take, pigeons}

-- what a walk has found, with the reads that were added
pub record HasWalked (P : Program) (e : ℕ) (old new : List (Ask × Answer)) (ms ws met : List ℕ) (next : ℕ) : Type 0 where
  pub asked : List Ask
  pub reads : new ≡ old ++ told P asked
  pub walked : IsWalked P e ms ws met next asked

module _ (P : Program) (e : ℕ) (valid : IsValid P) where
  -- there are no more ways than those of all instructions
  pub walk_short : (ms ws met : List ℕ) (next : ℕ) (asked : List Ask) → IsWalked P e ms ws met next asked → length ws ≤ sum_by (λ y. length (ways P y)) (code_addresses P)
  walk_short ms ws met next asked s =
      let weighed : sum_by (λ y. length (ways P y)) ms ≤ sum_by (λ y. length (ways P y)) (code_addresses P) =
      pigeons (λ y. length (ways P y)) ms (code_addresses P) s.distinct (λ z h. let r = s.sound z h in (are_codes P valid z).1 (reach_codes P e z valid (member P e (are_codes P valid) z r))) in
      omega (arith, weighed, length-flat_map (ways P) ms, ap length s.leads)

  module _ (ms ws met : List ℕ) (next : ℕ) (asked : List Ask) (s : IsWalked P e ms ws met next asked) (done : length ws ≤ next) where
    way_met : (y z : ℕ) → has y ms ≡ true → has z (ways P y) ≡ true → has z met ≡ true
    way_met y z h way = s.followed z (has_take z ws next done (subst (λ (vs : List ℕ). has z vs ≡ true) (sym s.leads) (has_in (ways P) y z ms h way)))

    all_walked : (n z : ℕ) → Walk P e z n → has z ms ≡ true
    all_walked zero z w = subst (λ (y : ℕ). has y ms ≡ true) (sym w.0) (s.start w.1)
    all_walked (suc n) z w =
        let parts = and_parts (has z (ways P w.0)) (may_join P z) w.2 in
        s.joined z (way_met w.0 z (all_walked n w.0 w.1) parts.0) parts.1

    -- at the end the members are those of the reach
    pub walk_members : (z : ℕ) → has z ms ≡ has z (reach P e)
    walk_members z = both_ways (has z ms) (has z (reach P e)) (λ h. member P e (are_codes P valid) z (s.sound z h)) (λ h. let r = reached P e (are_codes P valid) z h in all_walked r.0 z r.1)

    -- and all was asked, where the function of the entry was asked before
    pub walk_asks : (q : Ask) → Contains (reach_asks P e) q → Contains (ask.Cell (func_key e) ∷ asked) q
    walk_asks q c = elim (contains_cases (ask.Cell (unit_key e)) q _ c) [
      | inl is ↦ contains_later _ q asked (subst (Contains asked) is s.entry)
      | inr of_member ↦
          let m : (y : ℕ) × (has y (reach P e) ≡ true) × Contains (member_asks P y) q = contains_source (member_asks P) q (reach P e) of_member in
          let here : has m.0 ms ≡ true = walk_members m.0 ∙ m.1 in
          elim (contains_cases (ask.From m.0) q _ m.2) [
            | inl is ↦ contains_later _ q asked (subst (Contains asked) is (s.from m.0 here))
            | inr of_way ↦
                let v : (z : ℕ) × (has z (ways P m.0) ≡ true) × Contains (met_asks P z) q = contains_source (met_asks P) q (ways P m.0) of_way in
                elim (cases_eq v.0 e) [
                  | inl same ↦ entry_again q (subst (λ (z : ℕ). Contains (met_asks P z) q) same v.2)
                  | inr other ↦ contains_later _ q asked (s.looked v.0 (way_met m.0 v.0 here v.1) other q v.2)
                ]
          ]
    ]
      where
        entry_again : (q : Ask) → Contains (met_asks P e) q → Contains (ask.Cell (func_key e) ∷ asked) q
        entry_again q c = elim (contains_cases (ask.Cell (unit_key e)) q (only_if (has_instruction P e) (ask.Cell (func_key e) ∷ [])) c) [
          | inl is ↦ contains_later (ask.Cell (func_key e)) q asked (subst (Contains asked) is s.entry)
          | inr func ↦ only_func (has_instruction P e) func
        ]
          where
            only_func : (b : Bool) → Contains (only_if b (ask.Cell (func_key e) ∷ [])) q → Contains (ask.Cell (func_key e) ∷ asked) q
            only_func true c = elim (contains_cases (ask.Cell (func_key e)) q [] c) [
              | inl is ↦ subst (Contains (ask.Cell (func_key e) ∷ asked)) is (contains_first (ask.Cell (func_key e)) asked)
              | inr no_more ↦ absurd (contains_none q no_more)
            ]
            only_func false c = absurd (contains_none q c)

  -- ---- with the reads
  pub reads_begun : (old new : List (Ask × Answer)) (ms ws met : List ℕ) → ((z : ℕ) → has z met ≡ (e == z)) → ms ≡ cond (has_instruction P e) (e ∷ []) [] → ws ≡ cond (has_instruction P e) (ways P e) []
      → new ≡ old ++ told P (entry_asks P e) → HasWalked P e old new ms ws met 0
  reads_begun old new ms ws met is_met members lead heard = record { asked = entry_asks P e; reads = heard; walked = walk_begun P e valid ms ws met is_met members lead }

  pub reads_stepped : (old reads new : List (Ask × Answer)) (ms ws met ms_after ws_after after : List ℕ) (next w : ℕ) → HasWalked P e old reads ms ws met next → next < length ws → w ≡ get_or ws next 0
      → ((z : ℕ) → has z after ≡ (w == z || has z met)) → ms_after ≡ ms ++ new_member P met w → ws_after ≡ ws ++ new_ways P met w → new ≡ reads ++ told P (new_asks P met w)
      → HasWalked P e old new ms_after ws_after after (next + 1)
  reads_stepped old reads new ms ws met ms_after ws_after after next w s more same is_met members lead heard =
      let asked = s.asked ++ new_asks P met (get_or ws next 0) in
      let one : IsWalked P e (ms ++ new_member P met (get_or ws next 0)) (ws ++ new_ways P met (get_or ws next 0)) after (next + 1) asked =
      walk_step P e valid ms ws met after next s.asked s.walked more (λ z. is_met z ∙ ap (λ (v : ℕ). v == z || has z met) same) in
      record {
        asked = asked;
        reads = heard ∙ (λ i. s.reads i ++ told P (new_asks P met (same i))) ∙ told-first P old s.asked (new_asks P met (get_or ws next 0)) asked refl;
        walked = subst (λ (xs : List ℕ). IsWalked P e xs ws_after after (next + 1) asked) (sym (members ∙ ap (λ (v : ℕ). ms ++ new_member P met v) same))
            (subst (λ (vs : List ℕ). IsWalked P e (ms ++ new_member P met (get_or ws next 0)) vs after (next + 1) asked) (sym (lead ∙ ap (λ (v : ℕ). ws ++ new_ways P met v) same)) one);
      }

  pub reads_done : (old new : List (Ask × Answer)) (ms ws met : List ℕ) (next : ℕ) → HasWalked P e old new ms ws met next → length ws ≤ next → AddsBeside P (ask.Cell (func_key e)) old new (reach_asks P e)
  reads_done old new ms ws met next s done = record { asked = s.asked; reads = s.reads; only = s.walked.only; all = λ q c. walk_asks ms ws met next s.asked s.walked done q c }
