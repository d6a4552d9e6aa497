use Rattle.std.proofs.Common.{arith}
use Rattle.turn_story.proofs.Rounds.{done_from}
use Rattle.turn_story.proofs.together.work_all.Goals as goal

pub returns : goal.returns
returns g c =
    let a = c.in_ok-all.all.ok.0 in
    let b = c.args.tasks.ok.0 in
    let l = c.in_ok-all.ensures.len in
    done_from c.args.tasks.items c.in_ok-all.all.items (omega arith) (λ i d h. let k = (c.in_ok-all.ensures.each i d h).1 in (k.job, k.job_is, k.call.met))
