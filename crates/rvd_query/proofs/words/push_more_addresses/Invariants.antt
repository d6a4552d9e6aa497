use Rattle.std.proofs.Common.{◌≡◌, ◌++◌, codes, flat_map, take}
use Rattle.rvd_text.specs.Hex.{hex8}
use Rattle.rvd_query.proofs.words.push_more_addresses.Given as goal

-- the words so far
abbrev pub invariant-loop-at : goal.invariant-loop-at
invariant-loop-at l = l.out.items ≡ l.fn.out.items ++ flat_map (λ a. codes " " ++ hex8 a) (take l.at-index l.addresses)
