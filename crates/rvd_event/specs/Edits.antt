-- The ranges of an edit's parts: what a line of a script can say. Use `is_edit` as the premise of whatever is
-- said of every edit.
use Rattle.std.specs.Prelude.{ℕ, Bool, true, false, ◌&&◌, nat_lt, nat_le, List, length}
use Rattle.rvd_fact.specs.declared.keys.Kind.{Kind}
use Rattle.rvd_fact.specs.declared.keys.Kind.TheVariants as kind
use Rattle.rvd_fact.specs.declared.values.Form.{Form}
use Rattle.rvd_fact.specs.declared.values.Form.TheVariants.{Byte, Half, Word, Str}
use Rattle.rvd_fact.specs.Ranges.{is_range_set}
use Rattle.rvd_fact.specs.Valid.{is_address, is_text, top_sub}
use Rattle.rvd_event.specs.declared.edits.Edit.{Edit}
use Rattle.rvd_event.specs.declared.edits.Edit.TheVariants.{Block, Mark, Func, Body, Label, Ref, Comment, Bookmark, Code, Datum, Clear, Remove, Release}

-- a body that an analyst sets has 1 to 64 ranges
abbrev pub has_body_ranges : List (ℕ × ℕ) → Bool
has_body_ranges ranges = is_range_set ranges && (nat_le 1 (length ranges) && nat_le (length ranges) 64)

-- a name isn't empty
abbrev pub is_name : List ℕ → Bool
is_name name = is_text name && nat_lt 0 (length name)

-- a string has 1 to 256 bytes
abbrev pub is_datum : Form → Bool
is_datum Byte = true
is_datum Half = true
is_datum Word = true
is_datum (Str n) = nat_le 1 n && nat_le n 256

-- blocks stay, and units are cleared
abbrev pub is_removable : Kind → Bool
is_removable kind.Block = false
is_removable kind.Unit = false
is_removable k = true

-- no block is ever Gone
abbrev pub is_releasable : Kind → Bool
is_releasable kind.Block = false
is_releasable k = true

-- whether an edit's parts are in their ranges
abbrev pub is_edit : Edit → Bool
is_edit (Block at len perm) = is_address at && (nat_lt 0 len && nat_lt len 4294967296)
is_edit (Mark at) = is_address at
is_edit (Func at) = is_address at
is_edit (Body at ranges) = is_address at && has_body_ranges ranges
is_edit (Label at name) = is_address at && is_name name
is_edit (Ref from to class) = is_address from && is_address to
is_edit (Comment at sub text) = is_address at && (nat_le sub (top_sub kind.Comment) && is_text text)
is_edit (Bookmark at sub text) = is_address at && (nat_le sub (top_sub kind.Bookmark) && is_text text)
is_edit (Code at) = is_address at
is_edit (Datum at form) = is_address at && is_datum form
is_edit (Clear at) = is_address at
is_edit (Remove k at sub) = is_address at && (is_removable k && nat_le sub (top_sub k))
is_edit (Release k at sub) = is_address at && (is_releasable k && nat_le sub (top_sub k))
