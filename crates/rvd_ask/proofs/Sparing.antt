-- The rules spare protected cells: each change finds the cell that it says, which isn't protected, and sets an analyzer's.
use Rattle.std.proofs.Common.{◌≡◌, ℕ, zero, suc, Bool, true, false, cond, not, ◌&&◌, ◌||◌, List, [], ◌∷◌, ◌++◌, Option, Some, None, refl, sym, ap, ◌∙◌}
use Rattle.std.specs.Prelude.{find, filter_map, is_none, is_some}
use Rattle.std.specs.List.{list_all, cons_option}
use Rattle.std.specs.Option.{option_map, option_map_or}
use Rattle.std.proofs.lemmas.Bool.{false≢true, and_from, and_parts, both_ways, cond_both, not-true}
use Rattle.rvd_decode.specs.Instruction.{Instruction}
use Rattle.rvd_fact.specs.declared.keys.Key.{Key}
use Rattle.rvd_fact.specs.declared.cells.Cell.{Cell}
use Rattle.rvd_fact.specs.declared.cells.Change.{Change}
use Rattle.rvd_fact.specs.declared.values.RefClass.{RefClass}
use Rattle.rvd_fact.specs.declared.values.Source.{Source}
use Rattle.rvd_fact.specs.declared.values.Source.TheVariants.{Default, Analysis, Imported, UserDefined}
use Rattle.rvd_fact.specs.declared.values.Value.{Value}
use Rattle.rvd_fact.specs.declared.values.Value.TheVariants.{Block, Mark, Func, Body as BodyOf, Symbol, Comment, Bookmark, Code, Plain, Ref, Gone}
use Rattle.rvd_fact.specs.declared.values.Form.TheVariants.{Str}
use Rattle.rvd_fact.specs.Program.{Program, applied, applied_all, cell_at, is_given, is_gone, is_present, is_protected}
use Rattle.rvd_fact.specs.Memory.{block, func_key, has_instruction, unit_key, word}
use Rattle.rvd_fact.specs.Valid.{is_address, is_of, is_whole, may_stand, suits, IsValid}
use Rattle.rvd_fact.proofs.Validity.{cell_at_other}
use Rattle.rvd_ask.specs.declared.asks.Analyzer.TheVariants.{Flow, Refs, Funcs, Body, Strings}
use Rattle.rvd_ask.specs.Places.{addition, body_key, error_key, instruction_at, next_word, ref_key}
use Rattle.rvd_ask.specs.Flow.{bad_instruction, code_addition, decides, decodes, flow_changes, flow_rule, is_executable, is_free, is_ready, openable, run, start_changes, starts, word_falls}
use Rattle.rvd_ask.specs.Refs.{computed, direct, instruction_changes, refs_rule, slot_changes}
use Rattle.rvd_ask.specs.Funcs.{funcs_rule, is_new_function}
use Rattle.rvd_ask.specs.Reach.{reach, spans}
use Rattle.rvd_ask.specs.Body.{body_rule, has_body, has_open_body, is_analysis, is_open, set_body}
use Rattle.rvd_ask.specs.Strings.{is_read_at, string_changes, string_len, strings_rule}
use Rattle.rvd_ask.specs.Rules.{is_sparing, rule, Spares, SparingLaw}
use Rattle.rvd_ask.proofs.Units.{none_there}

-- each change finds its cell in the program, and is sparing
abbrev AreFound : Program → List Change → Type 0
AreFound S [] = Unit {0}
AreFound S (c ∷ cs) = (cell_at S c.key ≡ c.before) × (is_sparing c ≡ true) × AreFound S cs

all_sparing : (S : Program) (cs : List Change) → AreFound S cs → list_all is_sparing cs ≡ true
all_sparing S [] found = refl
all_sparing S (c ∷ cs) found = and_from (is_sparing c) (list_all is_sparing cs) found.1 (all_sparing S cs found.2)

-- a sparing change isn't at the key of a protected cell
elsewhere : (S : Program) (d : Change) → cell_at S d.key ≡ d.before → is_sparing d ≡ true → (k : Key) (c : Cell) → cell_at S k ≡ Some c → is_protected c ≡ true → k ≡ d.key → ⊥
elsewhere S d found spared k c here protected same =
    let before : d.before ≡ Some c = sym found ∙ (ap (cell_at S) (sym same) ∙ here) in
    let unprotected : option_map_or is_protected d.before false ≡ false = not-true (option_map_or is_protected d.before false) (and_parts (not (option_map_or is_protected d.before false)) _ spared).0 in
    both_ways (is_protected c) (ap (λ o. option_map_or is_protected o false) (sym before) ∙ unprotected) protected

stays : (S T : Program) (cs : List Change) → AreFound S cs → (k : Key) (c : Cell) → cell_at S k ≡ Some c → is_protected c ≡ true → cell_at T k ≡ Some c → cell_at (applied_all T cs) k ≡ Some c
stays S T [] found k c here protected there = there
stays S T (d ∷ ds) found k c here protected there =
    stays S (applied T d) ds found.2 k c here protected (cell_at_other T d.key d.after k (elsewhere S d found.0 found.1 k c here protected) ∙ there)

spares : (S : Program) (cs : List Change) → AreFound S cs → Spares S cs
spares S cs found = record {
  each = all_sparing S cs found;
  kept = λ k c here protected. stays S S cs found k c here protected here;
}

found-append : (S : Program) (cs ds : List Change) → AreFound S cs → AreFound S ds → AreFound S (cs ++ ds)
found-append S [] ds found more = more
found-append S (c ∷ cs) ds found more = (found.0, found.1, found-append S cs ds found.2 more)

-- an addition at a key without a cell
added : (S : Program) (k : Key) (v : Value) → is_none (cell_at S k) ≡ true → AreFound S (addition k v ∷ [])
added S k v free = (none_there (cell_at S k) free, refl, tt)

added_if : (S : Program) (b : Bool) (k : Key) (v : Value) → (b ≡ true → is_none (cell_at S k) ≡ true) → AreFound S (cond b (addition k v ∷ []) [])
added_if S b k v free = cond_both b (addition k v ∷ []) [] (AreFound S) (λ h. added S k v (free h)) (λ h. tt)

-- ---- flow
free_of_unit : (S : Program) (t : ℕ) → openable S t ≡ true → is_none (cell_at S (unit_key t)) ≡ true
unfolding openable
free_of_unit S t opened =
    let rest = and_parts (is_executable S t) _ (and_parts _ (is_executable S t && (is_free S t 4 && is_none (cell_at S (unit_key t)))) opened).1 in
    (and_parts (is_free S t 4) (is_none (cell_at S (unit_key t))) rest.1).1

next_found : (S : Program) (t : ℕ) (o : Option ℕ) (cs : List Change) → is_none (cell_at S (unit_key t)) ≡ true → AreFound S cs → AreFound S (cons_option (option_map (λ w. addition (unit_key t) (Code w)) o) cs)
next_found S t None cs free rest = rest
next_found S t (Some w) cs free rest = (none_there (cell_at S (unit_key t)) free, refl, rest)

run_found : (S : Program) (n t : ℕ) → openable S t ≡ true → AreFound S (filter_map (code_addition S) (run S t n))
run_found S zero t opened = tt
run_found S (suc n) t opened =
    let goes_on = word_falls (word S t) && is_ready S (next_word t) in
    let rest : AreFound S (filter_map (code_addition S) (cond goes_on (run S (next_word t) n) [])) =
    cond_both goes_on (run S (next_word t) n) [] (λ ts. AreFound S (filter_map (code_addition S) ts))
    (λ h. run_found S n (next_word t) (and_parts (openable S (next_word t)) (decodes (word S (next_word t))) (and_parts (word_falls (word S t)) (is_ready S (next_word t)) h).1).0)
    (λ h. tt) in
    next_found S t (word S t) (filter_map (code_addition S) (cond goes_on (run S (next_word t) n) [])) (free_of_unit S t opened) rest

unmarked : (a b : Bool) → (a || b) ≡ true → a ≡ false → b ≡ true
unmarked true b h no_word = absurd (false≢true (sym no_word))
unmarked false b h no_word = h

start_found : (S : Program) (t : ℕ) → decides S t ≡ true → AreFound S (start_changes S t)
start_found S t decided =
    let parts = and_parts (openable S t) (decodes (word S t) || is_none (cell_at S (error_key t))) decided in
    cond_both (decodes (word S t)) (filter_map (code_addition S) (run S t 256)) (addition (error_key t) (Bookmark bad_instruction) ∷ []) (AreFound S)
    (λ h. run_found S 256 t parts.0)
    (λ h. added S (error_key t) (Bookmark bad_instruction) (unmarked (decodes (word S t)) (is_none (cell_at S (error_key t))) parts.1 h))

first_found : (S : Program) (ts : List ℕ) → AreFound S (flow_changes S (find (decides S) ts))
first_found S [] = tt
first_found S (t ∷ ts) = cond_both (decides S t) (Some t) (find (decides S) ts) (λ o. AreFound S (flow_changes S o)) (start_found S t) (λ h. first_found S ts)

pub flow_spares : SparingLaw Flow
unfolding rule flow_rule
flow_spares S x valid = spares S (flow_rule S x) (first_found S (starts S x))

-- ---- references
slot_found : (S : Program) (y slot : ℕ) (o : Option (RefClass × ℕ)) → AreFound S (slot_changes S y slot o)
slot_found S y slot None = tt
slot_found S y slot (Some r) = added_if S (is_some (block S r.1) && is_none (cell_at S (ref_key y slot))) (ref_key y slot) (Ref r.1 r.0) (λ h. (and_parts (is_some (block S r.1)) (is_none (cell_at S (ref_key y slot))) h).1)

instruction_found : (S : Program) (y : ℕ) (o : Option Instruction) → AreFound S (instruction_changes S y o)
instruction_found S y None = tt
instruction_found S y (Some i) = found-append S (slot_changes S y 0 (direct y i)) (slot_changes S y 1 (computed S y i)) (slot_found S y 0 (direct y i)) (slot_found S y 1 (computed S y i))

pub refs_spares : SparingLaw Refs
unfolding rule refs_rule
refs_spares S y valid = spares S (refs_rule S y) (instruction_found S y (instruction_at S y))

-- ---- functions
pub funcs_spares : SparingLaw Funcs
unfolding rule funcs_rule
funcs_spares S t valid = spares S (funcs_rule S t) (added_if S (is_new_function S t) (func_key t) Func (λ h. (and_parts (has_instruction S t) (is_none (cell_at S (func_key t))) (and_parts _ (has_instruction S t && is_none (cell_at S (func_key t))) h).1).1))

-- ---- bodies
-- an analyzer's cell of a valid program isn't Gone
analysis_spares : (s : Source) (v : Value) → is_analysis s ≡ true → may_stand s v ≡ true → (is_given s || is_gone v) ≡ false
analysis_spares Default v h stands = absurd (false≢true h)
analysis_spares Imported v h stands = absurd (false≢true h)
analysis_spares UserDefined v h stands = absurd (false≢true h)
analysis_spares Analysis (Block len perm bytes) h stands = refl
analysis_spares Analysis Mark h stands = refl
analysis_spares Analysis Func h stands = refl
analysis_spares Analysis (BodyOf ranges) h stands = refl
analysis_spares Analysis (Symbol name) h stands = refl
analysis_spares Analysis (Comment text) h stands = refl
analysis_spares Analysis (Bookmark text) h stands = refl
analysis_spares Analysis (Code w) h stands = refl
analysis_spares Analysis (Plain f) h stands = refl
analysis_spares Analysis (Ref to class) h stands = refl
analysis_spares Analysis Gone h stands = absurd (false≢true stands)

stands_there : (k : Key) (c : Cell) → suits k c ≡ true → may_stand c.source c.value ≡ true
stands_there k c h =
    let behind_kind = (and_parts (is_of k.kind c.value) _ h).1 in
    let behind_address = (and_parts (is_address k.at) _ behind_kind).1 in
    let behind_sub = (and_parts _ (is_whole k.at c.value && may_stand c.source c.value) behind_address).1 in
    (and_parts (is_whole k.at c.value) (may_stand c.source c.value) behind_sub).1

open_unprotected : (S : Program) → IsValid S → (k : Key) (o : Option Cell) → cell_at S k ≡ o → is_open o ≡ true → option_map_or is_protected o false ≡ false
open_unprotected S valid k None here opened = refl
open_unprotected S valid k (Some c) here opened = analysis_spares c.source c.value opened (stands_there k c (valid.cells k c here))

set_found : (S : Program) → IsValid S → (e : ℕ) (rs : List (ℕ × ℕ)) → is_open (cell_at S (body_key e)) ≡ true → AreFound S (set_body e (cell_at S (body_key e)) rs)
set_found S valid e rs opened =
    cond_both (has_body rs (cell_at S (body_key e))) [] (record { key = body_key e; before = cell_at S (body_key e); after = Some (record { value = BodyOf rs; source = Analysis }) } ∷ []) (AreFound S)
    (λ h. tt)
    (λ h. (refl, ap (λ b. not b && true) (open_unprotected S valid (body_key e) (cell_at S (body_key e)) refl opened), tt))

pub body_spares : SparingLaw Body
unfolding rule body_rule
body_spares S e valid =
    let old = cell_at S (body_key e) in
    spares S (body_rule S e) (cond_both (has_open_body S e) (set_body e old (spans (reach S e))) [] (AreFound S)
    (λ h. set_found S valid e (spans (reach S e)) (and_parts (is_present (cell_at S (func_key e))) (is_open old) h).1)
    (λ h. tt))

-- ---- strings
string_found : (S : Program) (t : ℕ) (o : Option ℕ) → AreFound S (string_changes S t o)
string_found S t None = tt
string_found S t (Some len) = added_if S (is_free S t len && is_none (cell_at S (unit_key t))) (unit_key t) (Plain (Str len)) (λ h. (and_parts (is_free S t len) (is_none (cell_at S (unit_key t))) h).1)

pub strings_spares : SparingLaw Strings
unfolding rule strings_rule
strings_spares S t valid = spares S (strings_rule S t) (cond_both (is_read_at S t) (string_changes S t (string_len S t)) [] (AreFound S) (λ h. string_found S t (string_len S t)) (λ h. tt))
