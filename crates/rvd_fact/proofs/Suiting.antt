-- What a cell that suits its key tells: `address_there` and `address_below` of the key's address, `sub_there` of its sub, and
-- `whole_there` of the cell's value.
use Rattle.std.proofs.Common.{◌≡◌, ◌<◌, ◌≤◌, true}
use Rattle.std.specs.Prelude.{nat_le}
use Rattle.std.proofs.lemmas.Bool.{and_parts, leb-true, ltb-true}
use Rattle.rvd_fact.specs.declared.keys.Key.{Key}
use Rattle.rvd_fact.specs.declared.cells.Cell.{Cell}
use Rattle.rvd_fact.specs.Valid.{is_address, is_of, is_whole, may_stand, suits, top_sub}

-- a cell stands at an address
pub address_there : (k : Key) (c : Cell) → suits k c ≡ true → is_address k.at ≡ true
address_there k c h = (and_parts (is_address k.at) _ (and_parts (is_of k.kind c.value) _ h).1).0

pub address_below : (k : Key) (c : Cell) → suits k c ≡ true → k.at < 4294967296
address_below k c h = ltb-true k.at 4294967296 (address_there k c h)

pub sub_there : (k : Key) (c : Cell) → suits k c ≡ true → k.sub ≤ top_sub k.kind
sub_there k c h =
    let behind_address = (and_parts (is_address k.at) _ (and_parts (is_of k.kind c.value) _ h).1).1 in
    leb-true k.sub (top_sub k.kind) (and_parts (nat_le k.sub (top_sub k.kind)) _ behind_address).0

-- its value's own parts are in range there
pub whole_there : (k : Key) (c : Cell) → suits k c ≡ true → is_whole k.at c.value ≡ true
whole_there k c h =
    let behind_address = (and_parts (is_address k.at) _ (and_parts (is_of k.kind c.value) _ h).1).1 in
    let behind_sub = (and_parts (nat_le k.sub (top_sub k.kind)) _ behind_address).1 in
    (and_parts (is_whole k.at c.value) (may_stand c.source c.value) behind_sub).0
