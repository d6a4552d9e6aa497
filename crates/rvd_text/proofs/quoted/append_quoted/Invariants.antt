use Rattle.std.proofs.Common.{◌≡◌, ◌++◌, ◌∷◌, take}
use Rattle.std.specs.Prelude.{flat_map}
use Rattle.rvd_text.specs.Quoted.{spelled}
use Rattle.rvd_text.proofs.quoted.append_quoted.Given as goal

-- a quote, and what the bytes so far spell
abbrev pub invariant-loop-byte : goal.invariant-loop-byte
invariant-loop-byte l = l.out.items ≡ l.fn.out.items ++ (34 ∷ flat_map spelled (take l.byte-index l.text))
