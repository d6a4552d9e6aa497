use Rattle.std.proofs.Common.{ℕ, ◌≡◌, ◌+◌, ◌<◌, ◌&&◌, sym, ap, ◌∙◌, subst, arith}
use Rattle.std.specs.Prelude.{nat_lt, nat_le}
use Rattle.rvd_fact.specs.Valid.{block_span}
use Rattle.rvd_program.proofs.Nearest.{block_is, no_block_at, passed_more, passed_rest}
use Rattle.rvd_program.proofs.near.block_start.Goals as goal

pub returns-in-None : goal.returns-in-None
returns-in-None c = no_block_at c.args.cells.now c.requires c.args.at (passed_rest (block_span c.args.cells.now) c.requires.blocks_apart c.args.at c.loop-from.from _ c.loop-from.invariant (omega arith) c.in-None.ensures)

pub returns-then-has_byte : goal.returns-then-has_byte
returns-then-has_byte c =
    block_is c.args.cells.now c.requires c.args.at c.in-Some.start
    (ap (λ (n : ℕ). nat_le c.in-Some.start c.args.at && nat_lt c.args.at (c.in-Some.start + n)) (sym c.block_span-len.ensures) ∙ sym c.has_byte.ensures ∙ c.if-has_byte.true)

pub loop-from-preserved : goal.loop-from-preserved
loop-from-preserved c =
    let size : c.block_span-len.result ≡ block_span c.args.cells.now c.in-Some.start = c.block_span-len.ensures in
    passed_more (block_span c.args.cells.now) c.requires.blocks_apart c.args.at c.loop-from.from c.in-Some.start c.address_behind-from.result c.loop-from.invariant
    (λ b low high. c.in-Some.ensures.1 b (omega (arith, low)) high)
    (ap (λ (n : ℕ). nat_le c.in-Some.start c.args.at && nat_lt c.args.at (c.in-Some.start + n)) (sym size) ∙ sym c.has_byte.ensures ∙ c.if-has_byte.false)
    (λ b low high. subst (λ (n : ℕ). b < c.in-Some.start + n) size (c.address_behind-from.ensures.within b low high))

pub returns : goal.returns
returns c = no_block_at c.args.cells.now c.requires c.args.at (λ b low. c.loop-from.invariant b (omega (arith, low)) low)
