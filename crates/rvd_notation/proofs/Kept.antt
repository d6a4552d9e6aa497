-- What keeps a longer text keeps its front. Use it where a loop has appended something before a failure.
use Rattle.std.proofs.Common.{ℕ, ◌≤◌, List, ◌++◌, length, take, sym, ap, ◌∙◌, arith, take-take, length-append}
use Rattle.std.proofs.Math.Seq.{take-append_seam}
use Rattle.rvd_notation.specs.Pieces.{Keeps}

pub Keeps-front : (front more new : List ℕ) → Keeps (front ++ more) new → Keeps front new
Keeps-front front more new kept =
    let within : length front ≤ length (front ++ more) = omega (arith, length-append front more) in
    sym (take-take (length front) (length (front ++ more)) new within)
    ∙ ap (take (length front)) kept
    ∙ take-append_seam front more
