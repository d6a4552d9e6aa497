use Rattle.rvd_emul.proofs.Alike.{step_done}
use Rattle.rvd_emul.proofs.machine.Machine.step.Goals as goal

pub returns-in_ok-execute-in-None : goal.returns-in_ok-execute-in-None
returns-in_ok-execute-in-None c =
    step_done c.args.program.now c.args.self.now c.execute.new.self c.in-Ok.word c.in-Some.insn c.in-Ok.ensures.word c.in-Ok.ensures.goes_on c.in-Some.ensures.value c.in-None.ensures c.in_ok-execute-in-None.ensures
