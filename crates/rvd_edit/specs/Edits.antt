-- What an analyst's edit changes, or the first of its refusals in their order. Use `edit_of` for an edit; each row has a
-- definition of its own.
use Rattle.std.specs.Prelude.{ℕ, ◌==◌, List, [], ◌∷◌, ◌-◌, if◌then◌else◌, Option, Some, None, Result, Ok, Err}
use Rattle.std.specs.Int.{from_le_bytes, w32}
use Rattle.rvd_fact.specs.declared.keys.Key.{Key}
use Rattle.rvd_fact.specs.declared.keys.Kind.{Kind}
use Rattle.rvd_fact.specs.declared.keys.Kind.TheVariants as kind
use Rattle.rvd_fact.specs.declared.cells.Change.{Change}
use Rattle.rvd_fact.specs.declared.values.Form.{Form}
use Rattle.rvd_fact.specs.declared.values.Form.TheVariants.{Half, Word, Str}
use Rattle.rvd_fact.specs.declared.values.Perm.{Perm}
use Rattle.rvd_fact.specs.declared.values.RefClass.{RefClass}
use Rattle.rvd_fact.specs.declared.values.Value.{Value}
use Rattle.rvd_fact.specs.declared.values.Value.TheVariants as value
use Rattle.rvd_fact.specs.Order.{rank}
use Rattle.rvd_fact.specs.Program.{Program}
use Rattle.rvd_fact.specs.Memory.{key_of, block_key, func_key, unit_key, form_len}
use Rattle.rvd_event.specs.declared.edits.Edit.{Edit}
use Rattle.rvd_event.specs.declared.edits.Edit.TheVariants.{Block, Mark, Func, Body, Label, Ref, Comment, Bookmark, Code, Datum, Clear, Remove, Release}
use Rattle.rvd_event.specs.declared.edits.EditRefusal.{EditRefusal}
use Rattle.rvd_event.specs.declared.edits.EditRefusal.TheVariants.{Present, SlotsFull}
use Rattle.rvd_edit.specs.Steps.{◌>>=◌, ◌>>◌}
use Rattle.rvd_edit.specs.Slots.{slots, analyzer_slots, slot_key, has_name, has_target, slot_with, free_slot}
use Rattle.rvd_edit.specs.Spaces.{aligned, in_memory, in_one_block, in_space, is_decoded, gone_there, no_block_met, no_unit_met, not_there, one_block_more, stored, there}
use Rattle.rvd_edit.specs.Changes.{set, dropped, removed, further, further_of_unit}

-- an uninitialised block
unfoldable pub block_edit : Program → ℕ → ℕ → Perm → Result (List Change) EditRefusal
block_edit S a len perm = do
  in_space a len
  no_block_met S a len
  one_block_more S
  Ok (set S (block_key a) (value.Block len perm None) ∷ [])

-- an entry point, and a function
unfoldable pub entry_edit : Program → Kind → ℕ → Value → Result (List Change) EditRefusal
entry_edit S k a v = do
  aligned a 4
  in_memory S a
  not_there S (key_of k a)
  Ok (set S (key_of k a) v ∷ [])

-- the addresses of a function, whatever they were
unfoldable pub body_edit : Program → ℕ → List (ℕ × ℕ) → Result (List Change) EditRefusal
body_edit S a ranges = do
  there S (func_key a)
  Ok (set S (key_of kind.Body a) (value.Body ranges) ∷ [])

-- a slot where the fact stands already is told, and all slots are taken where none is free
abbrev pub no_slot_has : Kind → ℕ → Option ℕ → Result (Unit {0}) EditRefusal
no_slot_has k a None = Ok tt
no_slot_has k a (Some slot) = Err (Present (slot_key k a slot))

abbrev pub slot_or_full : ℕ → Option ℕ → Result ℕ EditRefusal
slot_or_full a None = Err (SlotsFull a)
slot_or_full a (Some slot) = Ok slot

-- a name
unfoldable pub label_edit : Program → ℕ → List ℕ → Result (List Change) EditRefusal
label_edit S a name = do
  no_slot_has kind.Symbol a (slot_with S kind.Symbol a (has_name name))
  slot ← slot_or_full a (free_slot S kind.Symbol a 0 slots)
  Ok (set S (slot_key kind.Symbol a slot) (value.Symbol name) ∷ [])

-- a reference
unfoldable pub ref_edit : Program → ℕ → ℕ → RefClass → Result (List Change) EditRefusal
ref_edit S a to class = do
  in_memory S a
  no_slot_has kind.Ref a (slot_with S kind.Ref a (has_target to class))
  slot ← slot_or_full a (free_slot S kind.Ref a analyzer_slots (slots - analyzer_slots))
  Ok (set S (slot_key kind.Ref a slot) (value.Ref to class) ∷ [])

-- a comment or a bookmark, whatever was there
unfoldable pub note_edit : Program → Key → Value → Result (List Change) EditRefusal
note_edit S k v = do
  in_memory S k.at
  Ok (set S k v ∷ [])

-- an instruction: the word there
unfoldable pub code_edit : Program → ℕ → Result (List Change) EditRefusal
code_edit S a = do
  aligned a 4
  in_one_block S a 4
  four ← stored S a 4
  no_unit_met S a 4
  is_decoded (from_le_bytes w32 four)
  Ok (set S (unit_key a) (value.Code (from_le_bytes w32 four)) ∷ [])

-- of what a data unit's address is a multiple
abbrev pub form_size : Form → ℕ
form_size Half = 2
form_size Word = 4
form_size form = 1

-- a string has bytes, and other data units need none
abbrev pub has_text : Program → ℕ → Form → Result (Unit {0}) EditRefusal
has_text S a (Str n) = stored S a n >> Ok tt
has_text S a form = Ok tt

-- the bytes of a data unit lie in one block
unfoldable pub has_memory : Program → ℕ → Form → Result (Unit {0}) EditRefusal
has_memory S a form = do
  in_one_block S a (form_len form)
  has_text S a form

-- a data unit
unfoldable pub data_edit : Program → ℕ → Form → Result (List Change) EditRefusal
data_edit S a form = do
  aligned a (form_size form)
  has_memory S a form
  no_unit_met S a (form_len form)
  Ok (set S (unit_key a) (value.Plain form) ∷ [])

-- the unit goes, and of an instruction what analysis made of it
unfoldable pub clear_edit : Program → ℕ → Result (List Change) EditRefusal
clear_edit S a = do
  there S (unit_key a)
  Ok (removed S (unit_key a) ∷ further_of_unit S a)

-- the fact goes, and of a function the body that analysis made
abbrev pub further_of_fact : Program → Kind → ℕ → List Change
further_of_fact S k a = if rank k == rank kind.Func then further S (key_of kind.Body a) else []

unfoldable pub remove_edit : Program → Kind → ℕ → ℕ → Result (List Change) EditRefusal
remove_edit S k a sub = do
  there S (slot_key k a sub)
  Ok (removed S (slot_key k a sub) ∷ further_of_fact S k a)

-- what a deleted fact left behind goes
unfoldable pub release_edit : Program → Key → Result (List Change) EditRefusal
release_edit S k = do
  gone_there S k
  Ok (dropped S k ∷ [])

-- the changes of an edit, or its refusal
abbrev pub edit_of : Program → Edit → Result (List Change) EditRefusal
edit_of S (Block at len perm) = block_edit S at len perm
edit_of S (Mark at) = entry_edit S kind.Mark at value.Mark
edit_of S (Func at) = entry_edit S kind.Func at value.Func
edit_of S (Body at ranges) = body_edit S at ranges
edit_of S (Label at name) = label_edit S at name
edit_of S (Ref from to class) = ref_edit S from to class
edit_of S (Comment at sub text) = note_edit S (slot_key kind.Comment at sub) (value.Comment text)
edit_of S (Bookmark at sub text) = note_edit S (slot_key kind.Bookmark at sub) (value.Bookmark text)
edit_of S (Code at) = code_edit S at
edit_of S (Datum at form) = data_edit S at form
edit_of S (Clear at) = clear_edit S at
edit_of S (Remove k at sub) = remove_edit S k at sub
edit_of S (Release k at sub) = release_edit S (slot_key k at sub)
