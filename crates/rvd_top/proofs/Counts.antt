-- The number of facts of a kind, one more entry at a time: `one_more` and `none_more`. Use `few` for what bounds it.
use Rattle.std.proofs.Common.{◌≡◌, ℕ, ◌+◌, ◌<◌, ◌≤◌, true, false, length, take, get_or, sym, ap, ◌∙◌, arith, length-take}
use Rattle.std.proofs.lemmas.List.Sums.{count_by-le-length, count_by_more_no, count_by_more_yes}
use Rattle.rvd_fact.specs.declared.keys.Key.{Key}
use Rattle.rvd_fact.specs.declared.cells.Cell.{Cell}
use Rattle.rvd_fact.specs.Program.{Program}
use Rattle.rvd_top.specs.declared.summary.Counted.{Counted}
use Rattle.rvd_top.specs.Summary.{is_counted, number_of}

module _ (kind : Counted) (S : Program) (i : ℕ) where
  pub one_more : (e : Key × Cell) → i < length S → e ≡ get_or S i e → is_counted kind e.1.value ≡ true → number_of kind (take (i + 1) S) ≡ number_of kind (take i S) + 1
  one_more e within at passes = count_by_more_yes (λ (f : Key × Cell). is_counted kind f.1.value) S i e within (ap (λ (f : Key × Cell). is_counted kind f.1.value) (sym at) ∙ passes)

  pub none_more : (e : Key × Cell) → i < length S → e ≡ get_or S i e → is_counted kind e.1.value ≡ false → number_of kind (take (i + 1) S) ≡ number_of kind (take i S)
  none_more e within at fails = count_by_more_no (λ (f : Key × Cell). is_counted kind f.1.value) S i e within (ap (λ (f : Key × Cell). is_counted kind f.1.value) (sym at) ∙ fails)

  pub few : i ≤ length S → number_of kind (take i S) ≤ i
  few within =
      let most = count_by-le-length (λ (f : Key × Cell). is_counted kind f.1.value) (take i S) in
      let is = length-take i S in
      omega (arith, most, is)
