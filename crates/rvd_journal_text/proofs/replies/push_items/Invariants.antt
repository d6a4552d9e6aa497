use Rattle.std.proofs.Common.{◌≡◌, ◌++◌, take}
use Rattle.rvd_journal_text.specs.Replies.{item_words}
use Rattle.rvd_journal_text.proofs.replies.push_items.Given as goal

-- those so far
abbrev pub invariant-loop-item : goal.invariant-loop-item
invariant-loop-item l = l.out.items ≡ l.fn.out.items ++ item_words (take l.item-index l.items)
