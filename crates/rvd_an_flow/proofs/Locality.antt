-- A program that answers the same to what flow asks has the same changes of its rule: `same_rule`. So its rule
-- is `local`.
use Rattle.std.proofs.Common.{◌≡◌, ℕ, zero, suc, ◌%◌, Bool, true, false, cond, not, ◌&&◌, ◌||◌, List, [], ◌∷◌, ◌++◌, Option, Some, None, refl, sym, ap, ◌∙◌, subst}
use Rattle.std.specs.Prelude.{is_none, filter_map, find, ◌==◌}
use Rattle.std.specs.Option.{option_map}
use Rattle.std.specs.Int.{from_le_bytes, w32}
use Rattle.std.proofs.lemmas.Bool.{and_parts, cond_both}
use Rattle.std.specs.List.{cons_option}
use Rattle.rvd_decode.specs.Flow.{falls_through}
use Rattle.rvd_fact.specs.declared.cells.Cell.{Cell}
use Rattle.rvd_fact.specs.declared.cells.Change.{Change}
use Rattle.rvd_fact.specs.declared.values.Value.{Value}
use Rattle.rvd_fact.specs.declared.values.Value.TheVariants.{Block, Mark, Func, Body, Symbol, Comment, Bookmark, Code, Plain, Ref, Gone}
use Rattle.rvd_fact.specs.Program.{Program, cell_at, is_present}
use Rattle.rvd_fact.specs.Memory.{block_key, func_key, unit_key, block, bytes, has_instruction, is_instruction, refs_from, word}
use Rattle.rvd_ask.specs.declared.asks.Ask.{Ask}
use Rattle.rvd_ask.specs.declared.asks.Ask.TheVariants as ask
use Rattle.rvd_ask.specs.declared.asks.Analyzer.TheVariants.{Flow}
use Rattle.rvd_ask.specs.declared.answers.Answer.{Answer}
use Rattle.rvd_ask.specs.Answers.{Hold, only_if, plain_cell, plain_value, told}
use Rattle.rvd_ask.specs.Places.{addition, cell_instruction, error_key, mark_key, next_word}
use Rattle.rvd_ask.specs.Rules.{asks, rule}
use Rattle.rvd_ask.specs.Wake.{item}
use Rattle.rvd_ask.specs.Flow.{bad_instruction, block_asks, block_may_hold, cell_may_hold, code_addition, decides, decodes, flow_asks, flow_changes, flow_rule, flow_target, free_asks, is_executable, is_free, is_ready, may_hold, next_starts, openable, openable_asks, run, run_asks, start_asks, start_changes, starts, starts_asks, word_falls}
use Rattle.rvd_an_flow.specs.Parts.{first_asks, first_decided, place_asks}
use Rattle.rvd_ask.proofs.FreeBytes.{free_local}
use Rattle.rvd_ask.proofs.Plain.{cell_instruction-plain, is_instruction-plain, is_none-plain, is_present-plain}
use Rattle.rvd_ask.proofs.Proposing.{IsLocal}
use Rattle.rvd_ask.proofs.Told.{told-append, hold_left, hold_right, when_true, and_then, same_at, same_bytes, same_refs, same_test, or_then}

-- tests that see no block's bytes
may_hold-plain : (b t : ℕ) (v : Value) → may_hold b t (plain_value v) ≡ may_hold b t v
may_hold-plain b t (Block len perm None) = refl
may_hold-plain b t (Block len perm (Some all)) = refl
may_hold-plain b t Mark = refl
may_hold-plain b t Func = refl
may_hold-plain b t (Body ranges) = refl
may_hold-plain b t (Symbol name) = refl
may_hold-plain b t (Comment text) = refl
may_hold-plain b t (Bookmark text) = refl
may_hold-plain b t (Code w) = refl
may_hold-plain b t (Plain f) = refl
may_hold-plain b t (Ref to class) = refl
may_hold-plain b t Gone = refl

cell_may_hold-plain : (b t : ℕ) (o : Option Cell) → cell_may_hold b t (plain_cell o) ≡ cell_may_hold b t o
cell_may_hold-plain b t None = refl
cell_may_hold-plain b t (Some c) = may_hold-plain b t c.value

module _ (P S : Program) where
  -- ---- whether an instruction may be put at an address
  block_local : (t : ℕ) (o : Option ℕ) → Hold S (told P (block_asks o)) → block_may_hold P t o ≡ block_may_hold S t o
  block_local t None h = refl
  block_local t (Some b) h = same_test (cell_may_hold b t) (cell_may_hold-plain b t) (cell_at P (block_key b)) (cell_at S (block_key b)) h.0

  pub openable_local : (t : ℕ) → Hold S (told P (openable_asks P t)) → openable P t ≡ openable S t
  unfolding openable openable_asks
  openable_local t h =
      and_then (t % 4 == 0) (t % 4 == 0) _ _ refl (λ aligned.
      let asked = when_true P S (t % 4 == 0) (ask.Block t ∷ block_asks (block P t) ++ only_if (is_executable P t) (free_asks P t 4 ++ only_if (is_free P t 4) (ask.Cell (unit_key t) ∷ []))) aligned h in
      let executable : is_executable P t ≡ is_executable S t = block_local t (block P t) (hold_left P S (block_asks (block P t)) _ asked.1) ∙ ap (block_may_hold S t) (same_at (block P t) (block S t) asked.0) in
      and_then (is_executable P t) (is_executable S t) _ _ executable (λ is_so.
      let further = when_true P S (is_executable P t) (free_asks P t 4 ++ only_if (is_free P t 4) (ask.Cell (unit_key t) ∷ [])) is_so (hold_right P S (block_asks (block P t)) _ asked.1) in
      and_then (is_free P t 4) (is_free S t 4) _ _ (free_local P S 4 t (hold_left P S (free_asks P t 4) _ further)) (λ free.
      same_test is_none is_none-plain (cell_at P (unit_key t)) (cell_at S (unit_key t)) (when_true P S (is_free P t 4) (ask.Cell (unit_key t) ∷ []) free (hold_right P S (free_asks P t 4) _ further)).0)))

  word_local : (t : ℕ) (qs : List Ask) → Hold S (told P (ask.Bytes t 4 ∷ qs)) → word P t ≡ word S t
  word_local t qs h = ap (option_map (from_le_bytes w32)) (same_bytes (bytes P t 4) (bytes S t 4) h.0)

  -- ---- a run
  -- tests with the same outcome, behind which the same lists stand, choose the same
  choose : {A : Type 0} (a b : Bool) (xs ys : List A) → a ≡ b → (a ≡ true → xs ≡ ys) → cond a xs [] ≡ cond b ys []
  choose true b xs ys e same = same refl ∙ ap (λ c. cond c ys []) e
  choose false b xs ys e same = ap (λ c. cond c ys []) e

  abbrev next_asks : ℕ → ℕ → List Ask
  next_asks t n = ask.Bytes t 4 ∷ only_if (decodes (word P t)) (run_asks P t n)

  ready_local : (t n : ℕ) → Hold S (told P (openable_asks P t ++ only_if (openable P t) (next_asks t n))) → is_ready P t ≡ is_ready S t
  ready_local t n h =
      and_then (openable P t) (openable S t) (decodes (word P t)) (decodes (word S t)) (openable_local t (hold_left P S (openable_asks P t) _ h)) (λ opened.
      ap decodes (word_local t _ (when_true P S (openable P t) (next_asks t n) opened (hold_right P S (openable_asks P t) _ h))))

  none_either : (R : Program) (b : Bool) → filter_map (code_addition R) (cond b [] []) ≡ []
  none_either R b = cond_both b [] [] (λ ts. filter_map (code_addition R) ts ≡ []) (λ h. refl) (λ h. refl)

  choose_units : (a b : Bool) (ts us : List ℕ) → a ≡ b → (a ≡ true → filter_map (code_addition P) ts ≡ filter_map (code_addition S) us) → filter_map (code_addition P) (cond a ts []) ≡ filter_map (code_addition S) (cond b us [])
  choose_units true b ts us e same = same refl ∙ ap (λ c. filter_map (code_addition S) (cond c us [])) e
  choose_units false b ts us e same = ap (λ c. filter_map (code_addition S) (cond c us [])) e

  units_local : (n t : ℕ) → word P t ≡ word S t → Hold S (told P (run_asks P t n)) → filter_map (code_addition P) (run P t (suc n)) ≡ filter_map (code_addition S) (run S t (suc n))
  units_local zero t e h =
      let none : filter_map (code_addition P) (cond (word_falls (word P t) && is_ready P (next_word t)) [] []) ≡ filter_map (code_addition S) (cond (word_falls (word S t) && is_ready S (next_word t)) [] []) =
      none_either P (word_falls (word P t) && is_ready P (next_word t)) ∙ sym (none_either S (word_falls (word S t) && is_ready S (next_word t))) in
      λ i. cons_option (option_map (λ w. addition (unit_key t) (Code w)) (e i)) (none i)
  units_local (suc n) t e h =
      let next = next_word t in
      let asked = openable_asks P next ++ only_if (openable P next) (next_asks next n) in
      let falls = word_falls (word P t) in
      let rest : filter_map (code_addition P) (cond (falls && is_ready P next) (run P next (suc n)) []) ≡ filter_map (code_addition S) (cond (word_falls (word S t) && is_ready S next) (run S next (suc n)) []) =
      choose_units (falls && is_ready P next) (word_falls (word S t) && is_ready S next) (run P next (suc n)) (run S next (suc n))
      (and_then falls (word_falls (word S t)) (is_ready P next) (is_ready S next) (ap word_falls e) (λ yes_falls. ready_local next n (when_true P S falls asked yes_falls h)))
      (λ goes.
      let parts = and_parts falls (is_ready P next) goes in
      let ready = and_parts (openable P next) (decodes (word P next)) parts.1 in
      let inner = when_true P S (openable P next) (next_asks next n) ready.0 (hold_right P S (openable_asks P next) _ (when_true P S falls asked parts.0 h)) in
      units_local n next (word_local next _ inner) (when_true P S (decodes (word P next)) (run_asks P next n) ready.1 inner.1)) in
      λ i. cons_option (option_map (λ w. addition (unit_key t) (Code w)) (e i)) (rest i)

  -- ---- a start

  abbrev opened_asks : ℕ → List Ask
  opened_asks t = ask.Bytes t 4 ∷ only_if (not (decodes (word P t))) (ask.Cell (error_key t) ∷ [])

  decides_local : (t : ℕ) → Hold S (told P (start_asks P t)) → decides P t ≡ decides S t
  decides_local t h =
      let marked = ask.Cell (error_key t) ∷ [] in
      and_then (openable P t) (openable S t) _ _ (openable_local t (hold_left P S (openable_asks P t) _ h)) (λ opened.
      let asked = when_true P S (openable P t) (opened_asks t) opened (hold_right P S (openable_asks P t) _ h) in
      or_then (decodes (word P t)) (decodes (word S t)) _ _ (ap decodes (word_local t _ asked)) (λ bad.
      same_test is_none is_none-plain (cell_at P (error_key t)) (cell_at S (error_key t)) (when_true P S (not (decodes (word P t))) marked (ap not bad) asked.1).0))

  choose_else : (a b : Bool) (xs ys zs : List Change) → a ≡ b → (a ≡ true → xs ≡ ys) → cond a xs zs ≡ cond b ys zs
  choose_else true b xs ys zs e same = same refl ∙ ap (λ c. cond c ys zs) e
  choose_else false b xs ys zs e same = ap (λ c. cond c ys zs) e

  start_local : (t : ℕ) → openable P t ≡ true → Hold S (told P (start_asks P t)) → Hold S (told P (only_if (decodes (word P t)) (run_asks P t 255))) → start_changes P t ≡ start_changes S t
  start_local t opened h more =
      let same : word P t ≡ word S t = word_local t _ (when_true P S (openable P t) (opened_asks t) opened (hold_right P S (openable_asks P t) _ h)) in
      choose_else (decodes (word P t)) (decodes (word S t)) (filter_map (code_addition P) (run P t 256)) (filter_map (code_addition S) (run S t 256)) (addition (error_key t) (Bookmark bad_instruction) ∷ [])
      (ap decodes same)
      (λ good. units_local 255 t same (when_true P S (decodes (word P t)) (run_asks P t 255) good more))

  choose_start : (t : ℕ) (a b : Bool) (o p : Option ℕ) → a ≡ b → (a ≡ true → start_changes P t ≡ start_changes S t) → (a ≡ false → flow_changes P o ≡ flow_changes S p) → flow_changes P (cond a (Some t) o) ≡ flow_changes S (cond b (Some t) p)
  choose_start t true b o p e same rest = same refl ∙ ap (λ c. flow_changes S (cond c (Some t) p)) e
  choose_start t false b o p e same rest = rest refl ∙ ap (λ c. flow_changes S (cond c (Some t) p)) e

  first_local : (ts : List ℕ) → Hold S (told P (starts_asks P ts)) → flow_changes P (find (decides P) ts) ≡ flow_changes S (find (decides S) ts)
  first_local [] h = refl
  first_local (t ∷ ts) h =
      let here = hold_left P S (start_asks P t) _ h in
      let behind = hold_right P S (start_asks P t) _ h in
      let run_part = only_if (decodes (word P t)) (run_asks P t 255) in
      choose_start t (decides P t) (decides S t) (find (decides P) ts) (find (decides S) ts) (decides_local t here)
      (λ decided. start_local t (and_parts (openable P t) _ decided).0 here (subst (λ b. Hold S (told P (cond b run_part (starts_asks P ts)))) decided behind))
      (λ passed. first_local ts (subst (λ b. Hold S (told P (cond b run_part (starts_asks P ts)))) passed behind))

  -- ---- the starts
  starts_local : (x : ℕ) (qs : List Ask) → Hold S (told P (place_asks P x ++ qs)) → starts P x ≡ starts S x
  starts_local x qs h =
      let mark = same_test is_present is_present-plain (cell_at P (mark_key x)) (cell_at S (mark_key x)) h.0 in
      let func = same_test is_present is_present-plain (cell_at P (func_key x)) (cell_at S (func_key x)) h.1.0 in
      let unit = cell_at P (unit_key x) in
      let read = same_test cell_instruction cell_instruction-plain unit (cell_at S (unit_key x)) h.1.1.0 in
      let has = same_test is_instruction is_instruction-plain unit (cell_at S (unit_key x)) h.1.1.0 in
      let next : cond (has_instruction P x) (next_starts P x) [] ≡ cond (has_instruction S x) (next_starts S x) [] =
      choose (has_instruction P x) (has_instruction S x) (next_starts P x) (next_starts S x) has (λ is_so.
      let refs : refs_from P x ≡ refs_from S x = same_refs (refs_from P x) (refs_from S x) (when_true P S (has_instruction P x) (ask.From x ∷ []) is_so (hold_left P S (only_if (has_instruction P x) (ask.From x ∷ [])) qs h.1.1.1)).0 in
      λ i. cond (falls_through (read i)) (next_word x ∷ []) [] ++ filter_map flow_target (refs i)) in
      λ i. cond (mark i || func i) (x ∷ []) [] ++ next i

  pub same_rule : (x : ℕ) → Hold S (told P (flow_asks P x)) → flow_rule P x ≡ flow_rule S x
  unfolding flow_asks flow_rule
  same_rule x h =
      first_local (starts P x) (hold_right P S (place_asks P x) (starts_asks P (starts P x)) h)
      ∙ ap (λ ts. flow_changes S (find (decides S) ts)) (starts_local x (starts_asks P (starts P x)) h)

-- the reads and the changes of the parts are those of a proposal, and keep its promise
pub whole_asks : (P : Program) (x : ℕ) → told P (place_asks P x) ++ told P (first_asks P (starts P x)) ≡ told P (asks P (item Flow x))
unfolding asks flow_asks first_asks
whole_asks P x = sym (told-append P (place_asks P x) (starts_asks P (starts P x)))

pub whole_changes : (P : Program) (x : ℕ) → first_decided P (starts P x) ≡ rule P (item Flow x)
unfolding rule flow_rule first_decided
whole_changes P x = refl

pub local : (P : Program) (x : ℕ) → IsLocal P (item Flow x)
unfolding rule asks
local P x S valid h = sym (same_rule P S x h)

-- the reads of the parts are those of the whole
pub whole_reads : (P : Program) (x : ℕ) (none placed all : List (Ask × Answer)) (ts : List ℕ) → none ≡ [] → placed ≡ none ++ told P (place_asks P x) → all ≡ placed ++ told P (first_asks P ts) → ts ≡ starts P x → all ≡ told P (asks P (item Flow x))
whole_reads P x none placed all ts empty first more same =
    more ∙ (λ i. (first ∙ ap (λ rs. rs ++ told P (place_asks P x)) empty) i ++ told P (first_asks P (same i))) ∙ whole_asks P x
