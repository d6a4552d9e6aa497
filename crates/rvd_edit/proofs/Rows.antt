-- What an edit that is not refused passed, row by row, and which changes it makes. Use one of these for whatever is shown
-- of an edit's changes.
use Rattle.std.proofs.Common.{◌≡◌, ℕ, ◌-◌, List, [], ◌∷◌, Option, Some, None, Ok, ap}
use Rattle.std.specs.Int.{from_le_bytes, w32}
use Rattle.rvd_fact.specs.declared.keys.Key.{Key}
use Rattle.rvd_fact.specs.declared.keys.Kind.{Kind}
use Rattle.rvd_fact.specs.declared.keys.Kind.TheVariants as kind
use Rattle.rvd_fact.specs.declared.cells.Change.{Change}
use Rattle.rvd_fact.specs.declared.values.Form.{Form}
use Rattle.rvd_fact.specs.declared.values.Perm.{Perm}
use Rattle.rvd_fact.specs.declared.values.RefClass.{RefClass}
use Rattle.rvd_fact.specs.declared.values.Value.{Value}
use Rattle.rvd_fact.specs.declared.values.Value.TheVariants as value
use Rattle.rvd_fact.specs.Program.{Program}
use Rattle.rvd_fact.specs.Memory.{key_of, block_key, unit_key, form_len}
use Rattle.rvd_edit.specs.Slots.{slots, analyzer_slots, slot_key, free_slot, has_name, has_target, slot_with}
use Rattle.rvd_edit.specs.Spaces.{aligned, gone_there, in_memory, in_one_block, in_space, is_decoded, no_block_met, no_unit_met, not_there, one_block_more, stored, there}
use Rattle.rvd_edit.specs.Changes.{set, dropped, removed, further_of_unit}
use Rattle.rvd_edit.specs.Edits.{block_edit, body_edit, clear_edit, code_edit, data_edit, entry_edit, form_size, further_of_fact, has_memory, has_text, label_edit, no_slot_has, note_edit, ref_edit, release_edit, remove_edit, slot_or_full}
use Rattle.rvd_edit.proofs.StepLemmas.{bind_ok, passed_on, same_ok}

pub block_row : (S : Program) (a len : ℕ) (perm : Perm) (cs : List Change) → block_edit S a len perm ≡ Ok cs → (in_space a len ≡ Ok tt) × (no_block_met S a len ≡ Ok tt) × (set S (block_key a) (value.Block len perm None) ∷ [] ≡ cs)
unfolding block_edit
block_row S a len perm cs e =
    let space = passed_on (in_space a len) _ cs e in
    let alone = passed_on (no_block_met S a len) _ cs space.1 in
    let more = passed_on (one_block_more S) _ cs alone.1 in
    (space.0, alone.0, same_ok _ cs more.1)

pub entry_row : (S : Program) (k : Kind) (a : ℕ) (v : Value) (cs : List Change) → entry_edit S k a v ≡ Ok cs → set S (key_of k a) v ∷ [] ≡ cs
unfolding entry_edit
entry_row S k a v cs e =
    let even = passed_on (aligned a 4) _ cs e in
    let inside = passed_on (in_memory S a) _ cs even.1 in
    same_ok _ cs (passed_on (not_there S (key_of k a)) _ cs inside.1).1

pub body_row : (S : Program) (a : ℕ) (ranges : List (ℕ × ℕ)) (cs : List Change) → body_edit S a ranges ≡ Ok cs → set S (key_of kind.Body a) (value.Body ranges) ∷ [] ≡ cs
unfolding body_edit
body_row S a ranges cs e = same_ok _ cs (passed_on (there S (key_of kind.Func a)) _ cs e).1

slot_of : (a : ℕ) (o : Option ℕ) (slot : ℕ) → slot_or_full a o ≡ Ok slot → o ≡ Some slot
slot_of a None slot e = absurd cc
slot_of a (Some own) slot e = ap Some (same_ok own slot e)

pub label_row : (S : Program) (a : ℕ) (name : List ℕ) (cs : List Change) → label_edit S a name ≡ Ok cs → (slot : ℕ) × (free_slot S kind.Symbol a 0 slots ≡ Some slot) × (set S (slot_key kind.Symbol a slot) (value.Symbol name) ∷ [] ≡ cs)
unfolding label_edit
label_row S a name cs e =
    let new = passed_on (no_slot_has kind.Symbol a (slot_with S kind.Symbol a (has_name name))) _ cs e in
    let free = bind_ok (slot_or_full a (free_slot S kind.Symbol a 0 slots)) _ cs new.1 in
    (free.0, slot_of a (free_slot S kind.Symbol a 0 slots) free.0 free.1, same_ok _ cs free.2)

pub ref_row : (S : Program) (a to : ℕ) (class : RefClass) (cs : List Change) → ref_edit S a to class ≡ Ok cs → (slot : ℕ) × (free_slot S kind.Ref a analyzer_slots (slots - analyzer_slots) ≡ Some slot) × (set S (slot_key kind.Ref a slot) (value.Ref to class) ∷ [] ≡ cs)
unfolding ref_edit
ref_row S a to class cs e =
    let inside = passed_on (in_memory S a) _ cs e in
    let new = passed_on (no_slot_has kind.Ref a (slot_with S kind.Ref a (has_target to class))) _ cs inside.1 in
    let free = bind_ok (slot_or_full a (free_slot S kind.Ref a analyzer_slots (slots - analyzer_slots))) _ cs new.1 in
    (free.0, slot_of a (free_slot S kind.Ref a analyzer_slots (slots - analyzer_slots)) free.0 free.1, same_ok _ cs free.2)

pub note_row : (S : Program) (k : Key) (v : Value) (cs : List Change) → note_edit S k v ≡ Ok cs → set S k v ∷ [] ≡ cs
unfolding note_edit
note_row S k v cs e = same_ok _ cs (passed_on (in_memory S k.at) _ cs e).1

-- what a code's row passed: where it lies, which bytes it has, and that it is alone
pub record CodeRow (S : Program) (a : ℕ) (cs : List Change) : Type 0 where
  pub four : List ℕ
  pub inside : in_one_block S a 4 ≡ Ok tt
  pub bytes : stored S a 4 ≡ Ok four
  pub alone : no_unit_met S a 4 ≡ Ok tt
  pub changes : set S (unit_key a) (value.Code (from_le_bytes w32 four)) ∷ [] ≡ cs

pub code_row : (S : Program) (a : ℕ) (cs : List Change) → code_edit S a ≡ Ok cs → CodeRow S a cs
unfolding code_edit
code_row S a cs e =
    let even = passed_on (aligned a 4) _ cs e in
    let inside = passed_on (in_one_block S a 4) _ cs even.1 in
    let four = bind_ok (stored S a 4) _ cs inside.1 in
    let alone = passed_on (no_unit_met S a 4) _ cs four.2 in
    let known = passed_on (is_decoded (from_le_bytes w32 four.0)) _ cs alone.1 in
    record { four = four.0; inside = inside.0; bytes = four.1; alone = alone.0; changes = same_ok _ cs known.1 }

memory_row : (S : Program) (a : ℕ) (form : Form) → has_memory S a form ≡ Ok tt → in_one_block S a (form_len form) ≡ Ok tt
unfolding has_memory
memory_row S a form e = (passed_on (in_one_block S a (form_len form)) (has_text S a form) tt e).0

pub data_row : (S : Program) (a : ℕ) (form : Form) (cs : List Change) → data_edit S a form ≡ Ok cs → (in_one_block S a (form_len form) ≡ Ok tt) × (no_unit_met S a (form_len form) ≡ Ok tt) × (set S (unit_key a) (value.Plain form) ∷ [] ≡ cs)
unfolding data_edit
data_row S a form cs e =
    let even = passed_on (aligned a (form_size form)) _ cs e in
    let inside = passed_on (has_memory S a form) _ cs even.1 in
    let alone = passed_on (no_unit_met S a (form_len form)) _ cs inside.1 in
    (memory_row S a form inside.0, alone.0, same_ok _ cs alone.1)

pub clear_row : (S : Program) (a : ℕ) (cs : List Change) → clear_edit S a ≡ Ok cs → (there S (unit_key a) ≡ Ok tt) × (removed S (unit_key a) ∷ further_of_unit S a ≡ cs)
unfolding clear_edit
clear_row S a cs e =
    let present = passed_on (there S (unit_key a)) _ cs e in
    (present.0, same_ok _ cs present.1)

pub remove_row : (S : Program) (k : Kind) (a sub : ℕ) (cs : List Change) → remove_edit S k a sub ≡ Ok cs → (there S (slot_key k a sub) ≡ Ok tt) × (removed S (slot_key k a sub) ∷ further_of_fact S k a ≡ cs)
unfolding remove_edit
remove_row S k a sub cs e =
    let present = passed_on (there S (slot_key k a sub)) _ cs e in
    (present.0, same_ok _ cs present.1)

pub release_row : (S : Program) (k : Key) (cs : List Change) → release_edit S k ≡ Ok cs → dropped S k ∷ [] ≡ cs
unfolding release_edit
release_row S k cs e = same_ok _ cs (passed_on (gone_there S k) _ cs e).1
