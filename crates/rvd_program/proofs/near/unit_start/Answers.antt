use Rattle.std.proofs.Common.{ℕ, ◌≡◌, ◌+◌, ◌-◌, ◌≤◌, false, ◌&&◌, ◌||◌, sym, ap, ◌∙◌, subst, arith}
use Rattle.std.specs.Prelude.{nat_lt, nat_le}
use Rattle.rvd_fact.specs.Valid.{unit_span}
use Rattle.rvd_program.proofs.Nearest.{cover_is, no_cover_at, passed_all, passed_down, passed_lower, unit_is_short}
use Rattle.rvd_program.proofs.near.unit_start.Goals as goal

pub returns-in-None : goal.returns-in-None
returns-in-None c = no_cover_at c.args.cells.now c.requires c.args.at (passed_lower (unit_span c.args.cells.now) c.requires.units_apart c.args.at c.loop-below.below _ c.loop-below.invariant.passed (omega (arith, c.loop-below-test.true)) c.in-None.ensures)

pub returns-then-has_byte : goal.returns-then-has_byte
returns-then-has_byte c =
    cover_is c.args.cells.now c.requires c.args.at c.in-Some.start
    (ap (λ (n : ℕ). nat_le c.in-Some.start c.args.at && nat_lt c.args.at (c.in-Some.start + n)) (sym c.unit_span-len.ensures) ∙ sym c.has_byte.ensures ∙ c.if-has_byte.true)

pub returns-then-hides_lower : goal.returns-then-hides_lower
returns-then-hides_lower c =
    let size : c.unit_span-len.result ≡ unit_span c.args.cells.now c.in-Some.start = c.unit_span-len.ensures in
    let missed : (nat_le c.in-Some.start c.args.at && nat_lt c.args.at (c.in-Some.start + unit_span c.args.cells.now c.in-Some.start)) ≡ false =
    ap (λ (n : ℕ). nat_le c.in-Some.start c.args.at && nat_lt c.args.at (c.in-Some.start + n)) (sym size) ∙ sym c.has_byte.ensures ∙ c.if-has_byte.false in
    no_cover_at c.args.cells.now c.requires c.args.at
    (passed_all (unit_span c.args.cells.now) c.requires.units_apart c.args.at c.in-Some.start (unit_is_short c.args.cells.now c.requires) (omega (arith, c.in-Some.ensures.0, c.loop-below.invariant.within, c.loop-below-test.true))
    (ap (λ (n : ℕ). nat_lt 0 n || nat_le 256 (c.args.at - c.in-Some.start)) (sym size) ∙ sym c.hides_lower.ensures ∙ c.if-hides_lower.true)
    (passed_down (unit_span c.args.cells.now) c.requires.units_apart c.args.at c.loop-below.below c.in-Some.start _ c.loop-below.invariant.passed (omega (arith, c.loop-below-test.true)) c.in-Some.ensures.1 missed))

pub loop-below-preserved : goal.loop-below-preserved
loop-below-preserved c =
    let size : c.unit_span-len.result ≡ unit_span c.args.cells.now c.in-Some.start = c.unit_span-len.ensures in
    let missed : (nat_le c.in-Some.start c.args.at && nat_lt c.args.at (c.in-Some.start + unit_span c.args.cells.now c.in-Some.start)) ≡ false =
    ap (λ (n : ℕ). nat_le c.in-Some.start c.args.at && nat_lt c.args.at (c.in-Some.start + n)) (sym size) ∙ sym c.has_byte.ensures ∙ c.if-has_byte.false in
    record {
      within = omega (arith, c.in-Some.ensures.0, c.loop-below.invariant.within, c.loop-below-test.true);
      passed = subst (λ (n : ℕ). (b : ℕ) → n ≤ b → b ≤ c.args.at → b + unit_span c.args.cells.now b ≤ c.args.at) (sym c.from-below-in-Some.ensures)
          (passed_down (unit_span c.args.cells.now) c.requires.units_apart c.args.at c.loop-below.below c.in-Some.start _ c.loop-below.invariant.passed (omega (arith, c.loop-below-test.true)) c.in-Some.ensures.1 missed);
    }

pub returns : goal.returns
returns c = no_cover_at c.args.cells.now c.requires c.args.at (λ b low. c.loop-below.invariant.passed b (omega (arith, c.loop-below-test.false)) low)
