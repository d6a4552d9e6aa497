-- Numbers in a file: the low byte of each comes first.
use Rattle.std.specs.Prelude.{ℕ, List, flat_map}
use Rattle.std.specs.Int.{to_le_bytes, w16, w32}

-- numbers of sixteen bits
abbrev pub halves : List ℕ → List ℕ
halves numbers = flat_map (to_le_bytes w16) numbers

-- numbers of thirty-two bits
abbrev pub words : List ℕ → List ℕ
words numbers = flat_map (to_le_bytes w32) numbers
