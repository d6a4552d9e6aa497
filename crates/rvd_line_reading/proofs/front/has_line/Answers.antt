use Rattle.std.proofs.Common.{◌↔◌, ℕ, List, IsTrue, subst}
use Rattle.rvd_line_reading.specs.Front.{BeginsWith}
use Rattle.rvd_line_reading.proofs.FrontsBack.{begins}
use Rattle.rvd_line_reading.proofs.front.has_line.Goals as goal

pub returns : goal.returns
returns c =
    subst (λ (text : List ℕ). IsTrue c.starts_with.result ↔ BeginsWith text c.args.line.now) c.bytes.ensures
    (begins c.bytes.result.now c.args.line.now c.starts_with.result c.starts_with.ensures.value)
