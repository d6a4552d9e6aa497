-- A first pass that split off one pass and met it again: it holds every number, and a log with the entries of its numbers alone has none.
-- Use it for a turn that is split once.
use Rattle.std.proofs.Common.{◌≡◌, ℕ, ◌+◌, ◌≤◌, List, [], inl, sym, ap, ◌∙◌, subst, arith, Some, All}
use Rattle.std.proofs.lemmas.List.Elements.{All-head}
use mathlib.Core.Logic.{dite}
use native.Mathlib.Decide.{ℕ_discrete}
use Rattle.atomic_table.specs.Seated.{TableId}
use Rattle.rvd_turn.specs.Story.{owned}
use Rattle.rvd_turn.specs.Known.{Known, HoldsAll, first_pass, split_off, met_by}
use Rattle.rvd_turn.proofs.Owned.{owned_nothing}
use Rattle.rvd_turn.proofs.Meetings.{holds_more}

module _ {H E : Type 0} (z : TableId) (h : H) (p one two m : Known H E) (opened : p ≡ first_pass z h) (split : one ≡ split_off p) (made : two ≡ record p { made = p.made + 1 }) (met : m ≡ met_by two one) where
  abbrev after : Known H E
  after = met_by (record (first_pass z h) { made = 2 }) (split_off (first_pass z h))

  is_after : m ≡ after
  is_after = met ∙ (λ i. met_by (made i) (split i)) ∙ ap (λ (k : Known H E). met_by (record k { made = k.made + 1 }) (split_off k)) opened

  pub once_all : HoldsAll m
  once_all = subst HoldsAll (sym is_after) (omega arith, holds_more (record (first_pass z h) { made = 2 }) (split_off (first_pass z h)) 1 (λ n l. inl (let e : 0 ≡ n = omega arith in e)) (λ _. 1))

  pub once_head : m.head ≡ Some h
  once_head = ap (λ (k : Known H E). k.head) is_after

  pub once_nothing : (owner : E → ℕ) (log : List E) → owned owner m.number log ≡ m.own → All (λ (k : ℕ × List E). owned owner k.0 log ≡ k.1) m.met → ((n : ℕ) → m.made ≤ n → owned owner n log ≡ []) → log ≡ []
  once_nothing owner log own others rest =
      let zero' : owned owner 0 log ≡ [] = subst (λ (k : Known H E). owned owner k.number log ≡ k.own) is_after own in
      let one' : owned owner 1 log ≡ [] = All-head (λ (k : ℕ × List E). owned owner k.0 log ≡ k.1) (1, []) [] (subst (λ (k : Known H E). All (λ (k : ℕ × List E). owned owner k.0 log ≡ k.1) k.met) is_after others) in
      let rest' : (n : ℕ) → 2 ≤ n → owned owner n log ≡ [] = subst (λ (k : Known H E). (n : ℕ) → k.made ≤ n → owned owner n log ≡ []) is_after rest in
      owned_nothing owner log (λ n. dite (ℕ_discrete n 0)
      (λ e. ap (λ k. owned owner k log) e ∙ zero')
      (λ ne. dite (ℕ_discrete n 1) (λ e. ap (λ k. owned owner k log) e ∙ one') (λ ne'. rest' n (omega arith))))
