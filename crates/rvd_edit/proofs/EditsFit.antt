-- The changes of an edit whose parts are in their ranges fit a valid program: `edits_fit`.
use Rattle.std.proofs.Common.{◌≡◌, ℕ, ◌+◌, ◌-◌, ◌%◌, ◌<◌, ◌≤◌, true, not, ◌&&◌, List, [], ◌∷◌, Option, Some, None, Ok, refl, ap, ◌∙◌, subst, arith}
use Rattle.std.specs.Prelude.{nat_lt, nat_le, ◌==◌, is_some, length}
use Rattle.std.specs.Int.{from_le_bytes, w32}
use Rattle.std.specs.Option.{option_map, ok_or}
use Rattle.std.proofs.lemmas.Bool.{and_from, and_parts, cond_both, eq-eqb, eqb-true, le-leb, leb-true, ltb-true}
use Rattle.rvd_fact.specs.declared.keys.Key.{Key}
use Rattle.rvd_fact.specs.declared.keys.Kind.{Kind}
use Rattle.rvd_fact.specs.declared.keys.Kind.TheVariants as kind
use Rattle.rvd_fact.specs.declared.cells.Cell.{Cell}
use Rattle.rvd_fact.specs.declared.cells.Change.{Change}
use Rattle.rvd_fact.specs.declared.values.Form.{Form}
use Rattle.rvd_fact.specs.declared.values.Form.TheVariants.{Byte, Half, Word, Str}
use Rattle.rvd_fact.specs.declared.values.Perm.{Perm}
use Rattle.rvd_fact.specs.declared.values.Source.{Source}
use Rattle.rvd_fact.specs.declared.values.Source.TheVariants.{Default, Analysis, Imported, UserDefined}
use Rattle.rvd_fact.specs.declared.values.Value.{Value}
use Rattle.rvd_fact.specs.declared.values.Value.TheVariants as value
use Rattle.rvd_fact.specs.Order.{rank}
use Rattle.rvd_fact.specs.Program.{Program, cell_at, applied, applied_all, placed}
use Rattle.rvd_fact.specs.Memory.{block_key, block_len, bytes, form_len, has_instruction, key_of, unit_key, unit_len, word}
use Rattle.rvd_fact.specs.Ranges.{is_range_set}
use Rattle.rvd_fact.specs.Valid.{Fits, IsValid, is_address, is_text, is_whole, span, suits, top_sub}
use Rattle.rvd_fact.proofs.Validity.{cell_at_other}
use Rattle.rvd_program.specs.Checks.{agrees, is_word, may_be}
use Rattle.rvd_program.proofs.Applying.{fits-append, fits_one, valid_all}
use Rattle.rvd_event.specs.Edits.{has_body_ranges, is_datum, is_name, is_releasable, is_removable}
use Rattle.rvd_event.specs.declared.edits.Edit.TheVariants.{Block, Mark, Func, Body, Label, Ref, Comment, Bookmark, Code, Datum, Clear, Remove, Release}
use Rattle.rvd_event.specs.declared.edits.EditRefusal.{EditRefusal}
use Rattle.rvd_event.specs.declared.edits.EditRefusal.TheVariants.{BlockOverlap, LeavesSpace, NoBytes, Overlap}
use Rattle.rvd_edit.specs.Slots.{analyzer_slots, slot_key, slots}
use Rattle.rvd_edit.specs.Spaces.{addresses, first_met}
use Rattle.rvd_edit.specs.Changes.{dropped, further, further_of_code, further_of_unit, further_refs, left_behind, left_of, of_analyst, removed, set}
use Rattle.rvd_edit.specs.Edits.{edit_of, further_of_fact}
use Rattle.rvd_edit.specs.Laws.{FitsLaw}
use Rattle.rvd_edit.proofs.FirstSlot.{first_slot-passes}
use Rattle.rvd_edit.proofs.FurtherFits.{further_fits, further_refs-fits, further_refs-others}
use Rattle.rvd_edit.proofs.NewBlocks.{valid_new_block}
use Rattle.rvd_edit.proofs.NewUnits.{valid_new_unit}
use Rattle.rvd_edit.proofs.NothingMet.{has_room, nothing_met}
use Rattle.rvd_edit.proofs.Rows.{block_row, body_row, clear_row, code_row, data_row, entry_row, label_row, note_row, ref_row, release_row, remove_row}
use Rattle.rvd_edit.proofs.StepLemmas.{required}
use Rattle.rvd_edit.proofs.WithoutLength.{suits_from, valid_without_length}

-- ---- a fact that is neither a block nor a unit

set_fits : (S : Program) (k : Key) (v : Value) → IsValid S → (rank k.kind ≡ 0 → ⊥) → block_len v ≡ 0 → unit_len v ≡ 0 → suits k (of_analyst v) ≡ true → Fits S (set S k v ∷ [])
set_fits S k v valid no_block block unit own = fits_one S (set S k v) refl (valid_without_length S k (Some (of_analyst v)) valid no_block own block unit)

entry_fits : (S : Program) (k : Kind) (a : ℕ) (v : Value) (cs : List Change) → IsValid S → (rank k ≡ 0 → ⊥) → block_len v ≡ 0 → unit_len v ≡ 0 → suits (key_of k a) (of_analyst v) ≡ true → set S (key_of k a) v ∷ [] ≡ cs → Fits S cs
entry_fits S k a v cs valid no_block block unit own is = subst (Fits S) is (set_fits S (key_of k a) v valid no_block block unit own)

body_fits : (S : Program) (a : ℕ) (ranges : List (ℕ × ℕ)) → IsValid S → (is_address a && has_body_ranges ranges) ≡ true → Fits S (set S (key_of kind.Body a) (value.Body ranges) ∷ [])
body_fits S a ranges valid legal =
    let p = and_parts (is_address a) (has_body_ranges ranges) legal in
    let ranges_are = (and_parts (is_range_set ranges) _ p.1).0 in
    set_fits S (key_of kind.Body a) (value.Body ranges) valid (λ e. omega (arith, e)) refl refl
    (suits_from (key_of kind.Body a) (of_analyst (value.Body ranges)) refl p.0 refl ranges_are refl)

label_fits : (S : Program) (a slot : ℕ) (name : List ℕ) → IsValid S → (is_address a && is_name name) ≡ true → slot < 64 → Fits S (set S (slot_key kind.Symbol a slot) (value.Symbol name) ∷ [])
label_fits S a slot name valid legal low =
    let p = and_parts (is_address a) (is_name name) legal in
    let text = (and_parts (is_text name) (nat_lt 0 (length name)) p.1).0 in
    set_fits S (slot_key kind.Symbol a slot) (value.Symbol name) valid (λ e. omega (arith, e)) refl refl
    (suits_from (slot_key kind.Symbol a slot) (of_analyst (value.Symbol name)) refl p.0 (le-leb slot 63 (omega (arith, low))) text refl)

ref_fits : (S : Program) (a slot to : ℕ) (class : _) → IsValid S → (is_address a && is_address to) ≡ true → slot < 64 → Fits S (set S (slot_key kind.Ref a slot) (value.Ref to class) ∷ [])
ref_fits S a slot to class valid legal low =
    let p = and_parts (is_address a) (is_address to) legal in
    set_fits S (slot_key kind.Ref a slot) (value.Ref to class) valid (λ e. omega (arith, e)) refl refl
    (suits_from (slot_key kind.Ref a slot) (of_analyst (value.Ref to class)) refl p.0 (le-leb slot 63 (omega (arith, low))) p.1 refl)

comment_fits : (S : Program) (a sub : ℕ) (text : List ℕ) → IsValid S → (is_address a && (nat_le sub 4 && is_text text)) ≡ true → Fits S (set S (slot_key kind.Comment a sub) (value.Comment text) ∷ [])
comment_fits S a sub text valid legal =
    let p = and_parts (is_address a) (nat_le sub 4 && is_text text) legal in
    let q = and_parts (nat_le sub 4) (is_text text) p.1 in
    set_fits S (slot_key kind.Comment a sub) (value.Comment text) valid (λ e. omega (arith, e)) refl refl
    (suits_from (slot_key kind.Comment a sub) (of_analyst (value.Comment text)) refl p.0 q.0 q.1 refl)

bookmark_fits : (S : Program) (a sub : ℕ) (text : List ℕ) → IsValid S → (is_address a && (nat_le sub 4 && is_text text)) ≡ true → Fits S (set S (slot_key kind.Bookmark a sub) (value.Bookmark text) ∷ [])
bookmark_fits S a sub text valid legal =
    let p = and_parts (is_address a) (nat_le sub 4 && is_text text) legal in
    let q = and_parts (nat_le sub 4) (is_text text) p.1 in
    set_fits S (slot_key kind.Bookmark a sub) (value.Bookmark text) valid (λ e. omega (arith, e)) refl refl
    (suits_from (slot_key kind.Bookmark a sub) (of_analyst (value.Bookmark text)) refl p.0 q.0 q.1 refl)

-- ---- blocks and units

block_fits : (S : Program) (a len : ℕ) (perm : Perm) (cs : List Change) → IsValid S → (is_address a && (nat_lt 0 len && nat_lt len 4294967296)) ≡ true → edit_of S (Block a len perm) ≡ Ok cs → Fits S cs
block_fits S a len perm cs valid legal h =
    let p = and_parts (is_address a) (nat_lt 0 len && nat_lt len 4294967296) legal in
    let q = and_parts (nat_lt 0 len) (nat_lt len 4294967296) p.1 in
    let row = block_row S a len perm cs h in
    let space = required (nat_le (a + len) addresses) (LeavesSpace a) row.0 in
    let whole : is_whole a (value.Block len perm None) ≡ true = and_from (nat_lt 0 len) _ q.0 (and_from (nat_le (a + len) 4294967296) true space refl) in
    let own = suits_from (block_key a) (of_analyst (value.Block len perm None)) refl p.0 refl whole refl in
    let none = nothing_met (first_met block_len S a len) BlockOverlap row.1 in
    subst (Fits S) row.2 (fits_one S (set S (block_key a) (value.Block len perm None)) refl (valid_new_block S a len perm valid none (ltb-true 0 len q.0) own))

same_ok_or : (o : Option (List ℕ)) (d : EditRefusal) (bs : List ℕ) → ok_or o d ≡ Ok bs → o ≡ Some bs
same_ok_or None d bs e = absurd cc
same_ok_or (Some own) d bs e = let is : own ≡ bs = cc in ap Some is

code_fits : (S : Program) (a : ℕ) (cs : List Change) → IsValid S → is_address a ≡ true → edit_of S (Code a) ≡ Ok cs → Fits S cs
code_fits S a cs valid legal h =
    let row = code_row S a cs h in
    let w = from_le_bytes w32 row.four in
    let own = suits_from (unit_key a) (of_analyst (value.Code w)) refl legal refl refl refl in
    let none = nothing_met (first_met unit_len S a 4) Overlap row.alone in
    let known : word S a ≡ Some w = ap (option_map (from_le_bytes w32)) (same_ok_or (bytes S a 4) (NoBytes a) row.four row.bytes) in
    let told : agrees (word S a) (value.Code w) ≡ true = ap (λ (o : Option ℕ). is_word o w) known ∙ eq-eqb w w refl in
    subst (Fits S) row.changes (fits_one S (set S (unit_key a) (value.Code w)) refl (valid_new_unit S a (value.Code w) valid (omega arith) refl (has_room S a 4 (omega arith) row.inside) none own told))

-- a data unit has a byte, and is whole
some_byte : (form : Form) → is_datum form ≡ true → 0 < form_len form
some_byte Byte h = omega arith
some_byte Half h = omega arith
some_byte Word h = omega arith
some_byte (Str n) h = let low : 1 ≤ n = leb-true 1 n (and_parts (nat_le 1 n) (nat_le n 256) h).0 in omega (arith, low)

whole_datum : (a : ℕ) (form : Form) → is_datum form ≡ true → is_whole a (value.Plain form) ≡ true
whole_datum a Byte h = refl
whole_datum a Half h = refl
whole_datum a Word h = refl
whole_datum a (Str n) h = h

data_fits : (S : Program) (a : ℕ) (form : Form) (cs : List Change) → IsValid S → (is_address a && is_datum form) ≡ true → edit_of S (Datum a form) ≡ Ok cs → Fits S cs
data_fits S a form cs valid legal h =
    let p = and_parts (is_address a) (is_datum form) legal in
    let row = data_row S a form cs h in
    let up = some_byte form p.1 in
    let own = suits_from (unit_key a) (of_analyst (value.Plain form)) refl p.0 refl (whole_datum a form p.1) refl in
    let none = nothing_met (first_met unit_len S a (form_len form)) Overlap row.1 in
    subst (Fits S) row.2 (fits_one S (set S (unit_key a) (value.Plain form)) refl (valid_new_unit S a (value.Plain form) valid up refl (has_room S a (form_len form) up row.0) none own refl))

-- ---- facts that go

left_may_be : (k : Key) (s : Source) → suits k (of_analyst value.Gone) ≡ true → may_be k (left_of s) ≡ true
left_may_be k Default own = own
left_may_be k Analysis own = own
left_may_be k Imported own = own
left_may_be k UserDefined own = refl

left_no_block : (s : Source) → span block_len (left_of s) ≡ 0
left_no_block Default = refl
left_no_block Analysis = refl
left_no_block Imported = refl
left_no_block UserDefined = refl

left_no_unit : (s : Source) → span unit_len (left_of s) ≡ 0
left_no_unit Default = refl
left_no_unit Analysis = refl
left_no_unit Imported = refl
left_no_unit UserDefined = refl

valid_left : (S : Program) (k : Key) (o : Option Cell) → IsValid S → (rank k.kind ≡ 0 → ⊥) → suits k (of_analyst value.Gone) ≡ true → IsValid (placed S k (left_behind o))
valid_left S k None valid no_block own = valid_without_length S k None valid no_block refl refl refl
valid_left S k (Some c) valid no_block own = valid_without_length S k (left_of c.source) valid no_block (left_may_be k c.source own) (left_no_block c.source) (left_no_unit c.source)

-- the fact goes, and then further ones
removed_fits : (S : Program) (k : Key) (cs : List Change) → IsValid S → (rank k.kind ≡ 0 → ⊥) → suits k (of_analyst value.Gone) ≡ true → (IsValid (applied S (removed S k)) → Fits (applied S (removed S k)) cs) → Fits S (removed S k ∷ cs)
removed_fits S k cs valid no_block own then =
    let next = valid_left S k (cell_at S k) valid no_block own in
    (refl, next, then next)

next_address : (a : ℕ) → a < 4294967296 → (a + 4) % 4294967296 ≡ a → ⊥
next_address a low e = omega (arith, low, e)

-- of an instruction what analysis made of it goes, where the unit's key alone has changed
code_further_fits : (S T : Program) (a : ℕ) → IsValid T → a < 4294967296 → ((x slot : ℕ) → cell_at T (slot_key kind.Ref x slot) ≡ cell_at S (slot_key kind.Ref x slot)) → Fits T (further_of_code S a)
code_further_fits S T a valid low same =
    let refs = further_refs-fits S T a slots valid (same a) in
    let last : Key = slot_key kind.Ref ((a + 4) % addresses) 1 in
    fits-append T (further_refs S a slots) (further S last) refs
    (further_fits S (applied_all T (further_refs S a slots)) last (valid_all T (further_refs S a slots) valid refs) (λ e. omega (arith, e))
    (further_refs-others S T a slots last (λ slot _ e. next_address a low (ap (λ (q : Key). q.at) e)) ∙ same ((a + 4) % addresses) 1))

unit_further_fits : (S T : Program) (a : ℕ) → IsValid T → a < 4294967296 → ((x slot : ℕ) → cell_at T (slot_key kind.Ref x slot) ≡ cell_at S (slot_key kind.Ref x slot)) → Fits T (further_of_unit S a)
unit_further_fits S T a valid low same = cond_both (has_instruction S a) (further_of_code S a) [] (Fits T) (λ _. code_further_fits S T a valid low same) (λ _. tt)

clear_fits : (S : Program) (a : ℕ) (cs : List Change) → IsValid S → is_address a ≡ true → edit_of S (Clear a) ≡ Ok cs → Fits S cs
clear_fits S a cs valid legal h =
    let row = clear_row S a cs h in
    let own = suits_from (unit_key a) (of_analyst value.Gone) refl legal refl refl refl in
    subst (Fits S) row.1 (removed_fits S (unit_key a) (further_of_unit S a) valid (λ e. omega (arith, e)) own (λ next.
    unit_further_fits S (applied S (removed S (unit_key a))) a next (ltb-true a 4294967296 legal)
    (λ x slot. cell_at_other S (unit_key a) (left_behind (cell_at S (unit_key a))) (slot_key kind.Ref x slot) (λ e.
    let r : rank kind.Ref ≡ rank kind.Unit = ap (λ (q : Key). rank q.kind) e in omega (arith, r)))))

releasable : (k : Kind) → is_releasable k ≡ true → rank k ≡ 0 → ⊥
releasable kind.Block h e = absurd cc
releasable kind.Mark h e = omega (arith, e)
releasable kind.Func h e = omega (arith, e)
releasable kind.Body h e = omega (arith, e)
releasable kind.Symbol h e = omega (arith, e)
releasable kind.Comment h e = omega (arith, e)
releasable kind.Bookmark h e = omega (arith, e)
releasable kind.Unit h e = omega (arith, e)
releasable kind.Ref h e = omega (arith, e)

removable : (k : Kind) → is_removable k ≡ true → is_releasable k ≡ true
removable kind.Block h = absurd cc
removable kind.Mark h = refl
removable kind.Func h = refl
removable kind.Body h = refl
removable kind.Symbol h = refl
removable kind.Comment h = refl
removable kind.Bookmark h = refl
removable kind.Unit h = absurd cc
removable kind.Ref h = refl

fact_further_fits : (S T : Program) (k : Kind) (a sub : ℕ) → IsValid T → ((q : Key) → (q ≡ slot_key k a sub → ⊥) → cell_at T q ≡ cell_at S q) → Fits T (further_of_fact S k a)
fact_further_fits S T k a sub valid same =
    cond_both (rank k == rank kind.Func) (further S (key_of kind.Body a)) [] (Fits T)
    (λ func. further_fits S T (key_of kind.Body a) valid (λ e. omega (arith, e)) (same (key_of kind.Body a) (λ e.
    let r : rank kind.Body ≡ rank k = ap (λ (q : Key). rank q.kind) e in
    let f : rank k ≡ rank kind.Func = eqb-true (rank k) (rank kind.Func) func in
    omega (arith, r, f))))
    (λ _. tt)

no_block_gone : (k : Kind) → is_releasable k ≡ true → not (rank k == 0) ≡ true
no_block_gone kind.Block h = absurd cc
no_block_gone kind.Mark h = refl
no_block_gone kind.Func h = refl
no_block_gone kind.Body h = refl
no_block_gone kind.Symbol h = refl
no_block_gone kind.Comment h = refl
no_block_gone kind.Bookmark h = refl
no_block_gone kind.Unit h = refl
no_block_gone kind.Ref h = refl

remove_fits : (S : Program) (k : Kind) (a sub : ℕ) (cs : List Change) → IsValid S → (is_address a && (is_removable k && nat_le sub (top_sub k))) ≡ true → edit_of S (Remove k a sub) ≡ Ok cs → Fits S cs
remove_fits S k a sub cs valid legal h =
    let p = and_parts (is_address a) (is_removable k && nat_le sub (top_sub k)) legal in
    let q = and_parts (is_removable k) (nat_le sub (top_sub k)) p.1 in
    let free = removable k q.0 in
    let row = remove_row S k a sub cs h in
    let own = suits_from (slot_key k a sub) (of_analyst value.Gone) (no_block_gone k free) p.0 q.1 refl refl in
    subst (Fits S) row.1 (removed_fits S (slot_key k a sub) (further_of_fact S k a) valid (releasable k free) own (λ next.
    fact_further_fits S (applied S (removed S (slot_key k a sub))) k a sub next (cell_at_other S (slot_key k a sub) (left_behind (cell_at S (slot_key k a sub))))))

release_fits : (S : Program) (k : Kind) (a sub : ℕ) (cs : List Change) → IsValid S → (is_address a && (is_releasable k && nat_le sub (top_sub k))) ≡ true → edit_of S (Release k a sub) ≡ Ok cs → Fits S cs
release_fits S k a sub cs valid legal h =
    let p = and_parts (is_address a) (is_releasable k && nat_le sub (top_sub k)) legal in
    let free = (and_parts (is_releasable k) (nat_le sub (top_sub k)) p.1).0 in
    subst (Fits S) (release_row S (slot_key k a sub) cs h) (fits_one S (dropped S (slot_key k a sub)) refl (valid_without_length S (slot_key k a sub) None valid (releasable k free) refl refl refl))

pub edits_fit : FitsLaw
edits_fit S (Block at len perm) cs valid legal h = block_fits S at len perm cs valid legal h
edits_fit S (Mark at) cs valid legal h = entry_fits S kind.Mark at value.Mark cs valid (λ e. omega (arith, e)) refl refl (suits_from (key_of kind.Mark at) (of_analyst value.Mark) refl legal refl refl refl) (entry_row S kind.Mark at value.Mark cs h)
edits_fit S (Func at) cs valid legal h = entry_fits S kind.Func at value.Func cs valid (λ e. omega (arith, e)) refl refl (suits_from (key_of kind.Func at) (of_analyst value.Func) refl legal refl refl refl) (entry_row S kind.Func at value.Func cs h)
edits_fit S (Body at ranges) cs valid legal h = subst (Fits S) (body_row S at ranges cs h) (body_fits S at ranges valid legal)
edits_fit S (Label at name) cs valid legal h =
    let row = label_row S at name cs h in
    let slot = first_slot-passes (λ slot. not (is_some (cell_at S (slot_key kind.Symbol at slot)))) 0 slots row.0 row.1 in
    subst (Fits S) row.2 (label_fits S at row.0 name valid legal (omega (arith, slot.1)))
edits_fit S (Ref from to class) cs valid legal h =
    let row = ref_row S from to class cs h in
    let slot = first_slot-passes (λ slot. not (is_some (cell_at S (slot_key kind.Ref from slot)))) analyzer_slots (slots - analyzer_slots) row.0 row.1 in
    subst (Fits S) row.2 (ref_fits S from row.0 to class valid legal (omega (arith, slot.1)))
edits_fit S (Comment at sub text) cs valid legal h = subst (Fits S) (note_row S (slot_key kind.Comment at sub) (value.Comment text) cs h) (comment_fits S at sub text valid legal)
edits_fit S (Bookmark at sub text) cs valid legal h = subst (Fits S) (note_row S (slot_key kind.Bookmark at sub) (value.Bookmark text) cs h) (bookmark_fits S at sub text valid legal)
edits_fit S (Code at) cs valid legal h = code_fits S at cs valid legal h
edits_fit S (Datum at form) cs valid legal h = data_fits S at form cs valid legal h
edits_fit S (Clear at) cs valid legal h = clear_fits S at cs valid legal h
edits_fit S (Remove k at sub) cs valid legal h = remove_fits S k at sub cs valid legal h
edits_fit S (Release k at sub) cs valid legal h = release_fits S k at sub cs valid legal h
