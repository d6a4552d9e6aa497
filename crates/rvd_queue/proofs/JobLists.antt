-- Jobs kept in a map under their tickets. Use `found_is` for a look-up, `put_is` for a new ticket, and `dropped_is` for one
-- that goes.
use Rattle.std.proofs.Common.{◌≡◌, ℕ, Bool, true, false, cond, not, ◌||◌, List, [], ◌∷◌, ◌++◌, filter, map, find, nat_eq, Option, Some, None, refl, sym, ap, ◌∙◌}
use Rattle.std.proofs.lemmas.Bool.{or_parts, eqb-true}
use Rattle.std.proofs.lemmas.Map.Keys.{IsDistinct-head, IsDistinct-tail}
use Rattle.std.specs.List.{AllByRecursion, IsDistinct, list_any}
use Rattle.std.specs.Map.{keys_of, lookup}
use Rattle.std.specs.Option.{option_map}
use Rattle.indexmap.specs.IndexMap.{insert_entry, shift_remove_entry}
use Rattle.rvd_ask.specs.declared.asks.Item.{Item}
use Rattle.rvd_queue.specs.Jobs.{Job, is_of, has_ticket, job_of, found, without_ticket, entry_job, jobs_in}

module _ {P : Type 0} where
  pub found_is : (ticket : ℕ) (entries : List (ℕ × (List Item × P))) → lookup (nat_eq ticket) entries ≡ found ticket (jobs_in entries)
  found_is ticket [] = refl
  found_is ticket (e ∷ entries) = elim (nat_eq ticket e.0) as (λ b. cond b (Some e.1) (lookup (nat_eq ticket) entries) ≡ option_map (λ (job : Job P). (job.items, job.program)) (cond b (Some (entry_job e)) (find (is_of ticket) (jobs_in entries)))) [
    | true ↦ refl
    | false ↦ found_is ticket entries
  ]

  pub put_is : (ticket : ℕ) (value : List Item × P) (entries : List (ℕ × (List Item × P))) → has_ticket ticket (jobs_in entries) ≡ false → jobs_in (insert_entry nat_eq entries ticket value) ≡ jobs_in entries ++ entry_job (ticket, value) ∷ []
  put_is ticket value [] h = refl
  put_is ticket value (e ∷ entries) h =
      let parts = or_parts (nat_eq ticket e.0) (has_ticket ticket (jobs_in entries)) h in
      ap (λ b. jobs_in (cond b ((e.0, value) ∷ entries) (e ∷ insert_entry nat_eq entries ticket value))) parts.0
      ∙ ap (λ (jobs : List (Job P)). entry_job e ∷ jobs) (put_is ticket value entries parts.1)

  others : (ticket : ℕ) (entries : List (ℕ × (List Item × P))) → AllByRecursion (λ (k : ℕ). nat_eq ticket k ≡ false) (keys_of entries) → without_ticket ticket (jobs_in entries) ≡ jobs_in entries
  others ticket [] h = refl
  others ticket (e ∷ entries) h =
      ap (λ b. cond (not b) (entry_job e ∷ without_ticket ticket (jobs_in entries)) (without_ticket ticket (jobs_in entries))) h.0
      ∙ ap (λ (jobs : List (Job P)). entry_job e ∷ jobs) (others ticket entries h.1)

  pub dropped_is : (ticket : ℕ) (entries : List (ℕ × (List Item × P))) → IsDistinct nat_eq (keys_of entries) → jobs_in (shift_remove_entry (nat_eq ticket) entries) ≡ without_ticket ticket (jobs_in entries)
  dropped_is ticket [] d = refl
  dropped_is ticket (e ∷ entries) d = elim (nat_eq ticket e.0) as (λ b. nat_eq ticket e.0 ≡ b → jobs_in (cond b entries (e ∷ shift_remove_entry (nat_eq ticket) entries)) ≡ cond (not b) (entry_job e ∷ without_ticket ticket (jobs_in entries)) (without_ticket ticket (jobs_in entries))) [
    | true ↦ λ same. sym (ap (λ k. without_ticket k (jobs_in entries)) (eqb-true ticket e.0 same) ∙ others e.0 entries (IsDistinct-head nat_eq e.0 (keys_of entries) d))
    | false ↦ λ other. ap (λ (jobs : List (Job P)). entry_job e ∷ jobs) (dropped_is ticket entries (IsDistinct-tail nat_eq e.0 (keys_of entries) d))
  ] refl
