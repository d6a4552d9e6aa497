use Rattle.std.proofs.Common.{append_assoc}
use Rattle.rvd_notation.proofs.cells.push_block.Goals as goal

pub returns-clause-ok : goal.returns-clause-ok
returns-clause-ok c =
    rw (
      c.in_ok-extend_from_slice-3.ensures.items,
      c.init_word.ensures,
      c.in_ok-push-2.ensures.items,
      c.in_ok-extend_from_slice-2.ensures.items,
      c.perm_word.ensures,
      c.in_ok-push.ensures.items,
      c.in_ok-push_hex8.ensures.ok,
      c.in_ok-extend_from_slice.ensures.items,
    )
    (simp append_assoc)
