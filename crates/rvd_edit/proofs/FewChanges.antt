-- An edit makes few changes: `few_changes`.
use Rattle.std.proofs.Common.{◌≡◌, ◌≤◌, ℕ, zero, suc, ◌+◌, ◌%◌, List, [], ◌∷◌, length, Ok, sym, subst, arith}
use Rattle.std.proofs.lemmas.Bool.{cond_both}
use Rattle.std.proofs.lemmas.List.{length-append}
use Rattle.std.specs.Prelude.{◌==◌}
use Rattle.rvd_fact.specs.declared.keys.Key.{Key}
use Rattle.rvd_fact.specs.declared.keys.Kind.{Kind}
use Rattle.rvd_fact.specs.declared.keys.Kind.TheVariants as kind
use Rattle.rvd_fact.specs.declared.cells.Change.{Change}
use Rattle.rvd_fact.specs.declared.values.Value.TheVariants as value
use Rattle.rvd_fact.specs.Order.{rank}
use Rattle.rvd_fact.specs.Program.{Program, cell_at}
use Rattle.rvd_fact.specs.Memory.{has_instruction, key_of}
use Rattle.rvd_event.specs.declared.edits.Edit.{Edit}
use Rattle.rvd_event.specs.declared.edits.Edit.TheVariants.{Block, Mark, Func, Body, Label, Ref, Comment, Bookmark, Code, Datum, Clear, Remove, Release}
use Rattle.rvd_edit.specs.Slots.{slots, slot_key}
use Rattle.rvd_edit.specs.Spaces.{addresses}
use Rattle.rvd_edit.specs.Changes.{IsFew, dropped, further, further_of_code, further_of_unit, further_refs, is_found}
use Rattle.rvd_edit.specs.Edits.{edit_of, further_of_fact}
use Rattle.rvd_edit.proofs.Rows.{block_row, body_row, clear_row, code_row, data_row, entry_row, label_row, note_row, ref_row, release_row, remove_row}

further_few : (S : Program) (k : Key) → length (further S k) ≤ 1
further_few S k = cond_both (is_found (cell_at S k)) (dropped S k ∷ []) [] (λ (cs : List Change). length cs ≤ 1) (λ _. omega arith) (λ _. omega arith)

refs_few : (S : Program) (a n : ℕ) → length (further_refs S a n) ≤ n
unfolding further_refs
refs_few S a zero = omega arith
refs_few S a (suc n) = subst (λ k. k ≤ suc n) (sym (length-append (further_refs S a n) (further S (slot_key kind.Ref a n)))) (omega (arith, refs_few S a n, further_few S (slot_key kind.Ref a n)))

code_few : (S : Program) (a : ℕ) → length (further_of_code S a) ≤ 65
code_few S a =
    let behind = slot_key kind.Ref ((a + 4) % addresses) 1 in
    subst (λ k. k ≤ 65) (sym (length-append (further_refs S a slots) (further S behind))) (omega (arith, refs_few S a slots, further_few S behind))

unit_few : (S : Program) (a : ℕ) → length (further_of_unit S a) ≤ 65
unit_few S a = cond_both (has_instruction S a) (further_of_code S a) [] (λ (cs : List Change). length cs ≤ 65) (λ _. code_few S a) (λ _. omega arith)

fact_few : (S : Program) (k : Kind) (a : ℕ) → length (further_of_fact S k a) ≤ 1
fact_few S k a = cond_both (rank k == rank kind.Func) (further S (key_of kind.Body a)) [] (λ (cs : List Change). length cs ≤ 1) (λ _. further_few S (key_of kind.Body a)) (λ _. omega arith)

pub few_changes : (S : Program) (e : Edit) (cs : List Change) → edit_of S e ≡ Ok cs → IsFew cs
few_changes S (Block at len perm) cs h = subst IsFew (block_row S at len perm cs h).2 (omega arith)
few_changes S (Mark at) cs h = subst IsFew (entry_row S kind.Mark at value.Mark cs h) (omega arith)
few_changes S (Func at) cs h = subst IsFew (entry_row S kind.Func at value.Func cs h) (omega arith)
few_changes S (Body at ranges) cs h = subst IsFew (body_row S at ranges cs h) (omega arith)
few_changes S (Label at name) cs h = subst IsFew (label_row S at name cs h).2 (omega arith)
few_changes S (Ref from to class) cs h = subst IsFew (ref_row S from to class cs h).2 (omega arith)
few_changes S (Comment at sub text) cs h = subst IsFew (note_row S (slot_key kind.Comment at sub) (value.Comment text) cs h) (omega arith)
few_changes S (Bookmark at sub text) cs h = subst IsFew (note_row S (slot_key kind.Bookmark at sub) (value.Bookmark text) cs h) (omega arith)
few_changes S (Code at) cs h = subst IsFew (code_row S at cs h).changes (omega arith)
few_changes S (Datum at form) cs h = subst IsFew (data_row S at form cs h).2 (omega arith)
few_changes S (Clear at) cs h = subst IsFew (clear_row S at cs h).1 (omega (arith, unit_few S at))
few_changes S (Remove k at sub) cs h = subst IsFew (remove_row S k at sub cs h).1 (omega (arith, fact_few S k at))
few_changes S (Release k at sub) cs h = subst IsFew (release_row S (slot_key k at sub) cs h) (omega arith)
