use Rattle.std.proofs.Common.{List, ℕ, subst, sym, ap, ◌∙◌}
use Rattle.std.proofs.lemmas.Result.{IfOk-weaker}
use Rattle.std.specs.Prelude.{filter_map}
use Rattle.rvd_fact.specs.declared.keys.Key.{Key}
use Rattle.rvd_fact.specs.declared.cells.Cell.{Cell}
use Rattle.rvd_ask.specs.Wake.{candidate_of}
use Rattle.rvd_wake.specs.Walks.{AreJust}
use Rattle.rvd_wake.specs.Picks.{candidate_place}
use Rattle.rvd_wake.proofs.Picks.{candidates_are}
use Rattle.rvd_wake.proofs.candidate.candidate_places.Goals as goal

pub returns : goal.returns
returns c =
    let S = c.args.program.now in
    let a = c.args.analyzer in
    let pick = λ (entries : List (Key × Cell)). filter_map (λ (e : Key × Cell). candidate_place a e.0 e.1.value) entries in
    IfOk-weaker c.pick_candidates.result _ _
    (λ places e. subst (λ (list : List ℕ). AreJust (candidate_of a S) list) (sym (e ∙ ap pick c.entries.ensures.entries)) (candidates_are S a c.entries.ensures.valid))
    c.pick_candidates.ensures
