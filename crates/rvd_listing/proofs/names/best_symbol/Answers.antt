use Rattle.std.proofs.Common.{◌∙◌, ◌<◌, ap, sym, arith, Some}
use Rattle.rvd_listing.specs.Names.{better}
use Rattle.rvd_listing.proofs.Primary.{best_below-next, best_below-rest, best_below-zero}
use Rattle.rvd_listing.proofs.names.best_symbol.Goals as goal

pub loop-slot-init : goal.loop-slot-init
loop-slot-init c = record { within = omega arith; best = best_below-zero c.args.program.now c.args.at }

pub loop-slot-preserved : goal.loop-slot-preserved
loop-slot-preserved c =
    let next = c.in-Some.ensures.some in
    record {
      within = let w : c.in-Some.found < 64 = next.within in omega arith;
      best =
          c.better-best.ensures
          ∙ ap (λ b. better b (Some c.in-Some.cell.now)) c.loop-slot.invariant.best
          ∙ sym (best_below-next c.args.program.now c.args.at c.loop-slot.slot c.in-Some.found c.in-Some.cell.now next.from next.none next.here);
    }

pub returns-in_default : goal.returns-in_default
returns-in_default c = c.loop-slot.invariant.best ∙ best_below-rest c.args.program.now c.args.at c.loop-slot.slot c.loop-slot.invariant.within c.in_default.ensures.none
