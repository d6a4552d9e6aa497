use Rattle.std.proofs.Common.{◌≡◌, true, false, Some, sym, ap, ◌∙◌, subst, inl, inr}
use Rattle.rvd_machine.specs.Steps.{Head}
use Rattle.rvd_desk.specs.declared.answers.Took.TheVariants.{Finished}
use Rattle.rvd_work.specs.Working.{DidJob, Rounds, TookIn, TookTurn, Worked}
use Rattle.rvd_work.proofs.Loops.{breaks_job, looked_finished, rounds_job, rounds_looked, rounds_none, worker_still, worker_took}
use Rattle.rvd_work.proofs.working.work_loop.Goals as goal

pub loop-init : goal.loop-init
loop-init g c = record { iterator = (tt, tt); rounds = λ h about. rounds_none h c.args.pass c.args.batch (g.P.Proposer.tickets c.args.proposer.now) }

pub take_turn-requires-clause-this_turn : goal.take_turn-requires-clause-this_turn
take_turn-requires-clause-this_turn g c = ap (λ p. p.turn_id) (c.loop.invariant.rounds c.requires.worker.head c.requires.worker.about).rest ∙ c.requires.this_turn

pub take_turn-requires-clause-worker : goal.take_turn-requires-clause-worker
take_turn-requires-clause-worker g c =
    let w = c.requires.worker in
    worker_still w.head c.args.pass c.loop.pass c.args.batch c.args.worker _ _ (c.loop.invariant.rounds w.head w.about) w

pub do_job-requires-clause-this_turn : goal.do_job-requires-clause-this_turn
do_job-requires-clause-this_turn g c =
    let w = c.requires.worker in
    let t : TookIn c.loop.pass c.take_turn.new.pass c.args.batch c.in-Ok-Job.job = (subst (TookTurn c.loop.pass c.take_turn.new.pass c.args.batch) c.in-Ok-Job.field-0-is c.in-Ok-Job.ensures.ok) in
    ap (λ p. p.turn_id) t.pass ∙ ap (λ p. p.turn_id) (c.loop.invariant.rounds w.head w.about).rest ∙ c.requires.this_turn

pub do_job-requires-clause-worker : goal.do_job-requires-clause-worker
do_job-requires-clause-worker g c =
    let w = c.requires.worker in
    worker_took c.loop.pass c.take_turn.new.pass c.args.batch c.args.worker c.in-Ok-Job.job (subst (TookTurn c.loop.pass c.take_turn.new.pass c.args.batch) c.in-Ok-Job.field-0-is c.in-Ok-Job.ensures.ok)
    (worker_still w.head c.args.pass c.loop.pass c.args.batch c.args.worker _ _ (c.loop.invariant.rounds w.head w.about) w)

pub returns-then-not-do_job : goal.returns-then-not-do_job
returns-then-not-do_job g c =
    let w = c.requires.worker in
    let r = c.loop.invariant.rounds w.head w.about in
    let did : DidJob c.take_turn.new.pass c.do_job.new.pass c.in-Ok-Job.job (g.P.Proposer.tickets c.loop.proposer) (g.P.Proposer.tickets c.do_job.new.proposer) false =
    subst (λ b. DidJob c.take_turn.new.pass c.do_job.new.pass c.in-Ok-Job.job (g.P.Proposer.tickets c.loop.proposer) (g.P.Proposer.tickets c.do_job.new.proposer) b) c.if-not-do_job.true c.do_job.ensures in
    record {
      head = w.head;
      about = w.about;
      worked = inr (breaks_job w.head c.args.pass c.loop.pass c.args.batch _ _ r w.about c.take_turn.new.pass c.in-Ok-Job.job (subst (TookTurn c.loop.pass c.take_turn.new.pass c.args.batch) c.in-Ok-Job.field-0-is c.in-Ok-Job.ensures.ok) c.do_job.new.pass (g.P.Proposer.tickets c.do_job.new.proposer) did.0 did.1);
    }

pub loop-preserved-in-Ok-Job : goal.loop-preserved-in-Ok-Job
loop-preserved-in-Ok-Job g c =
    let did : DidJob c.take_turn.new.pass c.do_job.new.pass c.in-Ok-Job.job (g.P.Proposer.tickets c.loop.proposer) (g.P.Proposer.tickets c.do_job.new.proposer) true =
    subst (λ b. DidJob c.take_turn.new.pass c.do_job.new.pass c.in-Ok-Job.job (g.P.Proposer.tickets c.loop.proposer) (g.P.Proposer.tickets c.do_job.new.proposer) b) c.if-not-do_job.false c.do_job.ensures in
    record {
      iterator = (tt, tt);
      rounds = λ h about. rounds_job h c.args.pass c.loop.pass c.args.batch _ _ (c.loop.invariant.rounds h about) about c.take_turn.new.pass c.in-Ok-Job.job (subst (TookTurn c.loop.pass c.take_turn.new.pass c.args.batch) c.in-Ok-Job.field-0-is c.in-Ok-Job.ensures.ok)
          c.jobs_stay.ensures.given c.jobs_stay.ensures.stay c.made_offers_are_proper.ensures c.do_job.new.pass (g.P.Proposer.tickets c.do_job.new.proposer) did;
    }

pub loop-preserved : goal.loop-preserved
loop-preserved g c = record {
  iterator = (tt, tt);
  rounds = λ h about. rounds_looked h c.args.pass c.loop.pass c.args.batch _ _ (c.loop.invariant.rounds h about) about c.take_turn.new.pass (subst (TookTurn c.loop.pass c.take_turn.new.pass c.args.batch) c.in-Ok-Idle.field-0-is c.in-Ok-Idle.ensures.ok);
}

pub returns-in-Ok-Finished : goal.returns-in-Ok-Finished
returns-in-Ok-Finished g c =
    let w = c.requires.worker in
    let r = c.loop.invariant.rounds w.head w.about in
    let l : TookTurn c.loop.pass c.take_turn.new.pass c.args.batch Finished = subst (TookTurn c.loop.pass c.take_turn.new.pass c.args.batch) c.in-Ok-Finished.field-0-is c.in-Ok-Finished.ensures.ok in
    record {
      head = w.head;
      about = w.about;
      worked = (
        rounds_looked w.head c.args.pass c.loop.pass c.args.batch _ _ r w.about c.take_turn.new.pass l.0,
        looked_finished w.head c.args.pass c.loop.pass c.args.batch _ _ r w.about c.take_turn.new.pass l.0 l.1,
      );
    }

pub returns-in-Err : goal.returns-in-Err
returns-in-Err g c =
    let w = c.requires.worker in
    let r = c.loop.invariant.rounds w.head w.about in
    record {
      head = w.head;
      about = w.about;
      worked = inl (rounds_looked w.head c.args.pass c.loop.pass c.args.batch _ _ r w.about c.take_turn.new.pass c.in-Err.ensures.err);
    }
