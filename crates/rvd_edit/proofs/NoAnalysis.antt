-- The changes of an edit set only what is an analyst's: `no_analysis`.
use Rattle.std.proofs.Common.{◌≡◌, ℕ, zero, suc, ◌+◌, ◌%◌, true, List, [], ◌∷◌, ◌++◌, Option, Some, None, Ok, refl, subst}
use Rattle.std.proofs.lemmas.Bool.{cond_both}
use Rattle.std.specs.Prelude.{◌==◌}
use Rattle.rvd_fact.specs.declared.keys.Key.{Key}
use Rattle.rvd_fact.specs.declared.keys.Kind.{Kind}
use Rattle.rvd_fact.specs.declared.keys.Kind.TheVariants as kind
use Rattle.rvd_fact.specs.declared.cells.Cell.{Cell}
use Rattle.rvd_fact.specs.declared.cells.Change.{Change}
use Rattle.rvd_fact.specs.declared.values.Source.{Source}
use Rattle.rvd_fact.specs.declared.values.Source.TheVariants.{Default, Analysis, Imported, UserDefined}
use Rattle.rvd_fact.specs.declared.values.Value.TheVariants as value
use Rattle.rvd_fact.specs.Order.{rank}
use Rattle.rvd_fact.specs.Program.{Program, cell_at}
use Rattle.rvd_fact.specs.Memory.{has_instruction, key_of, unit_key}
use Rattle.rvd_event.specs.declared.edits.Edit.{Edit}
use Rattle.rvd_event.specs.declared.edits.Edit.TheVariants.{Block, Mark, Func, Body, Label, Ref, Comment, Bookmark, Code, Datum, Clear, Remove, Release}
use Rattle.rvd_edit.specs.Slots.{slots, slot_key}
use Rattle.rvd_edit.specs.Spaces.{addresses}
use Rattle.rvd_edit.specs.Changes.{SetsNoAnalysis, dropped, further, further_of_code, further_of_unit, further_refs, is_found, is_of_analyst, left_behind, left_of}
use Rattle.rvd_edit.specs.Edits.{edit_of, further_of_fact}
use Rattle.rvd_edit.proofs.Rows.{block_row, body_row, clear_row, code_row, data_row, entry_row, label_row, note_row, ref_row, release_row, remove_row}

both : (xs ys : List Change) → SetsNoAnalysis xs → SetsNoAnalysis ys → SetsNoAnalysis (xs ++ ys)
both [] ys a b = b
both (x ∷ xs) ys a b = (a.0, both xs ys a.1 b)

left_of_is : (s : Source) → is_of_analyst (left_of s) ≡ true
left_of_is Default = refl
left_of_is Analysis = refl
left_of_is Imported = refl
left_of_is UserDefined = refl

left_behind_is : (o : Option Cell) → is_of_analyst (left_behind o) ≡ true
left_behind_is None = refl
left_behind_is (Some c) = left_of_is c.source

further_is : (S : Program) (k : Key) → SetsNoAnalysis (further S k)
further_is S k = cond_both (is_found (cell_at S k)) (dropped S k ∷ []) [] SetsNoAnalysis (λ _. (refl, tt)) (λ _. tt)

refs_are : (S : Program) (a n : ℕ) → SetsNoAnalysis (further_refs S a n)
unfolding further_refs
refs_are S a zero = tt
refs_are S a (suc n) = both (further_refs S a n) (further S (slot_key kind.Ref a n)) (refs_are S a n) (further_is S (slot_key kind.Ref a n))

code_is : (S : Program) (a : ℕ) → SetsNoAnalysis (further_of_code S a)
code_is S a = both (further_refs S a slots) _ (refs_are S a slots) (further_is S (slot_key kind.Ref ((a + 4) % addresses) 1))

unit_is : (S : Program) (a : ℕ) → SetsNoAnalysis (further_of_unit S a)
unit_is S a = cond_both (has_instruction S a) (further_of_code S a) [] SetsNoAnalysis (λ _. code_is S a) (λ _. tt)

fact_is : (S : Program) (k : Kind) (a : ℕ) → SetsNoAnalysis (further_of_fact S k a)
fact_is S k a = cond_both (rank k == rank kind.Func) (further S (key_of kind.Body a)) [] SetsNoAnalysis (λ _. further_is S (key_of kind.Body a)) (λ _. tt)

pub no_analysis : (S : Program) (e : Edit) (cs : List Change) → edit_of S e ≡ Ok cs → SetsNoAnalysis cs
no_analysis S (Block at len perm) cs h = subst SetsNoAnalysis (block_row S at len perm cs h).2 (refl, tt)
no_analysis S (Mark at) cs h = subst SetsNoAnalysis (entry_row S kind.Mark at value.Mark cs h) (refl, tt)
no_analysis S (Func at) cs h = subst SetsNoAnalysis (entry_row S kind.Func at value.Func cs h) (refl, tt)
no_analysis S (Body at ranges) cs h = subst SetsNoAnalysis (body_row S at ranges cs h) (refl, tt)
no_analysis S (Label at name) cs h = subst SetsNoAnalysis (label_row S at name cs h).2 (refl, tt)
no_analysis S (Ref from to class) cs h = subst SetsNoAnalysis (ref_row S from to class cs h).2 (refl, tt)
no_analysis S (Comment at sub text) cs h = subst SetsNoAnalysis (note_row S (slot_key kind.Comment at sub) (value.Comment text) cs h) (refl, tt)
no_analysis S (Bookmark at sub text) cs h = subst SetsNoAnalysis (note_row S (slot_key kind.Bookmark at sub) (value.Bookmark text) cs h) (refl, tt)
no_analysis S (Code at) cs h = subst SetsNoAnalysis (code_row S at cs h).changes (refl, tt)
no_analysis S (Datum at form) cs h = subst SetsNoAnalysis (data_row S at form cs h).2 (refl, tt)
no_analysis S (Clear at) cs h = subst SetsNoAnalysis (clear_row S at cs h).1 (left_behind_is (cell_at S (unit_key at)), unit_is S at)
no_analysis S (Remove k at sub) cs h = subst SetsNoAnalysis (remove_row S k at sub cs h).1 (left_behind_is (cell_at S (slot_key k at sub)), fact_is S k at)
no_analysis S (Release k at sub) cs h = subst SetsNoAnalysis (release_row S (slot_key k at sub) cs h) (refl, tt)
