use Rattle.std.proofs.Common.{◌≡◌, ◌++◌, codes, flat_map, take}
use Rattle.rvd_query.specs.Reply.{xref_text}
use Rattle.rvd_query.proofs.words.push_more_xrefs.Given as goal

-- the words so far
abbrev pub invariant-loop-xref : goal.invariant-loop-xref
invariant-loop-xref l = l.out.items ≡ l.fn.out.items ++ flat_map (λ x. codes " " ++ xref_text x) (take l.xref-index l.xrefs)
