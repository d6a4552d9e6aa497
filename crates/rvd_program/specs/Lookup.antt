-- What a look-up by the order of keys finds in a program. Use `next_entry` for walks over a program in the order of addresses,
-- and `NoneStarts` where no block, or no unit, starts among addresses.
use Rattle.std.specs.Prelude.{◌≡◌, ℕ, ◌<◌, ◌≤◌, Option, find as first_where}
use Rattle.std.specs.Ordering.{is_le}
use Rattle.rvd_fact.specs.declared.keys.Key.{Key}
use Rattle.rvd_fact.specs.declared.cells.Cell.{Cell}
use Rattle.rvd_fact.specs.Order.{key_cmp}
use Rattle.rvd_fact.specs.Program.{Program}

-- the entry of the least key that isn't below a key
abbrev pub next_entry : Program → Key → Option (Key × Cell)
next_entry S k = first_where (λ e. is_le (key_cmp k e.0)) S

-- nothing starts at the addresses from `low` on that are below `high`, and at none from `low` on; `span` tells how many bytes
-- what starts at an address has
abbrev pub NoneStarts : (ℕ → ℕ) → ℕ → ℕ → Type 0
NoneStarts span low high = (b : ℕ) → low ≤ b → b < high → span b ≡ 0

abbrev pub NoneStartsFrom : (ℕ → ℕ) → ℕ → Type 0
NoneStartsFrom span low = (b : ℕ) → low ≤ b → span b ≡ 0
