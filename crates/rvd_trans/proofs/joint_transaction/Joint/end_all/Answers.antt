use Rattle.std.proofs.Common.{rules, ◌≡◌, ◌∙◌, ap, eqb, not, refl}
use Rattle.std.proofs.lemmas.Fn.{filter_same}
use Rattle.rvd_trans.specs.declared.entries.Entry.{Entry}
use Rattle.rvd_trans.specs.Entries.{count_of, without_all}
use Rattle.rvd_trans.proofs.joint_transaction.Joint.end_all.Goals as goal

pub returns-clause-value : goal.returns-clause-value
returns-clause-value c =
    let left : c.retain.new.self.items ≡ without_all c.args.actor c.self.inside.entries.items =
    filter_same _ (λ (e : Entry). not (eqb e.actor c.args.actor)) _ (λ x b f' k. search rules) _ _ c.retain.ensures.filtered in
    let count : c.count_of-count.result ≡ count_of c.args.actor c.self.inside.entries.items =
    c.count_of-count.ensures ∙ ap (count_of c.args.actor) c.deref.ensures.value in
    rw (← c.self.view_is, left, count) refl
