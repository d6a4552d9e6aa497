-- The changes of each rule lead on where they fit: but for the rule of bodies, none sets a body. Use `leads` for an item.
use Rattle.std.proofs.Common.{◌≡◌, ℕ, Bool, true, not, ◌&&◌, List, [], ◌∷◌, Option, Some, None, refl, sym, ap, ◌∙◌}
use Rattle.std.specs.Prelude.{filter_map, find, is_none, is_some}
use Rattle.std.specs.List.{list_all, cons_option}
use Rattle.std.specs.Option.{option_map}
use Rattle.std.proofs.lemmas.Bool.{and_from, and_parts, cond_both, true≢false}
use Rattle.std.proofs.lemmas.List.Folds.{list_all-append}
use Rattle.rvd_decode.specs.Instruction.{Instruction}
use Rattle.rvd_fact.specs.declared.keys.Key.{Key}
use Rattle.rvd_fact.specs.declared.cells.Change.{Change}
use Rattle.rvd_fact.specs.declared.cells.Cell.{Cell}
use Rattle.rvd_fact.specs.declared.values.RefClass.{RefClass}
use Rattle.rvd_fact.specs.declared.values.Form.TheVariants.{Str}
use Rattle.rvd_fact.specs.declared.values.Value.TheVariants.{Bookmark, Code, Func, Plain, Ref}
use Rattle.rvd_fact.specs.Program.{Program, applied, cell_at}
use Rattle.rvd_fact.specs.Memory.{block, func_key, unit_key, word}
use Rattle.rvd_fact.specs.Valid.{Fits, IsValid}
use Rattle.rvd_ask.specs.declared.asks.Analyzer.{Analyzer}
use Rattle.rvd_ask.specs.declared.asks.Analyzer.TheVariants.{Flow, Refs, Funcs, Body, Strings}
use Rattle.rvd_ask.specs.declared.asks.Item.{Item}
use Rattle.rvd_ask.specs.Places.{addition, body_key, error_key, instruction_at, ref_key}
use Rattle.rvd_ask.specs.Flow.{bad_instruction, code_addition, decides, decodes, flow_changes, flow_rule, is_free, run, starts}
use Rattle.rvd_ask.specs.Refs.{computed, direct, instruction_changes, refs_rule, slot_changes}
use Rattle.rvd_ask.specs.Funcs.{funcs_rule, is_new_function}
use Rattle.rvd_ask.specs.Reach.{reach, spans}
use Rattle.rvd_ask.specs.Body.{body_rule, has_body, has_open_body, set_body}
use Rattle.rvd_ask.specs.Strings.{is_read_at, string_changes, string_len, strings_rule}
use Rattle.rvd_ask.specs.Rules.{rule}
use Rattle.rvd_ask.specs.Fitting.{FittingLaw}
use Rattle.rvd_ask.specs.Wake.{item}
use Rattle.rvd_wake.specs.Laws.{LeadAll}
use Rattle.rvd_wake.specs.Picks.{is_body}

-- a change of something else than a body, and changes of such alone
abbrev is_other : Change → Bool
is_other c = not (is_body c.key.kind)

abbrev AreOthers : List Change → Type 0
AreOthers cs = list_all is_other cs ≡ true

no_body : (c : Change) (e : ℕ) → is_other c ≡ true → c.key ≡ body_key e → ⊥
no_body c e other same = true≢false (sym other ∙ ap (λ (k : Key). not (is_body k.kind)) same)

lead_others : (S : Program) (cs : List Change) → IsValid S → Fits S cs → AreOthers cs → LeadAll S cs
lead_others S [] valid fits others = tt
lead_others S (c ∷ cs) valid fits others =
    let parts = and_parts (is_other c) (list_all is_other cs) others in
    (record { before = valid; here = fits.0; after = fits.1; by_rule = λ e same own. absurd (no_body c e parts.0 same) }, lead_others (applied S c) cs fits.1 fits.2 parts.1)

-- ---- flow
code_others : (S : Program) (ts : List ℕ) → AreOthers (filter_map (code_addition S) ts)
code_others S [] = refl
code_others S (t ∷ ts) = one (word S t) (code_others S ts)
  where
    one : (o : Option ℕ) → AreOthers (filter_map (code_addition S) ts) → AreOthers (cons_option (option_map (λ w. addition (unit_key t) (Code w)) o) (filter_map (code_addition S) ts))
    one None rest = rest
    one (Some w) rest = rest

start_others : (S : Program) (o : Option ℕ) → AreOthers (flow_changes S o)
start_others S None = refl
start_others S (Some t) = cond_both (decodes (word S t)) (filter_map (code_addition S) (run S t 256)) (addition (error_key t) (Bookmark bad_instruction) ∷ []) AreOthers (λ h. code_others S (run S t 256)) (λ h. refl)

flow_others : (S : Program) (x : ℕ) → AreOthers (flow_rule S x)
unfolding flow_rule
flow_others S x = start_others S (find (decides S) (starts S x))

-- ---- references
slot_others : (S : Program) (y slot : ℕ) (o : Option (RefClass × ℕ)) → AreOthers (slot_changes S y slot o)
slot_others S y slot None = refl
slot_others S y slot (Some r) = cond_both (is_some (block S r.1) && is_none (cell_at S (ref_key y slot))) (addition (ref_key y slot) (Ref r.1 r.0) ∷ []) [] AreOthers (λ h. refl) (λ h. refl)

instruction_others : (S : Program) (y : ℕ) (o : Option Instruction) → AreOthers (instruction_changes S y o)
instruction_others S y None = refl
instruction_others S y (Some i) = list_all-append is_other (slot_changes S y 0 (direct y i)) (slot_changes S y 1 (computed S y i)) ∙ and_from _ _ (slot_others S y 0 (direct y i)) (slot_others S y 1 (computed S y i))

refs_others : (S : Program) (y : ℕ) → AreOthers (refs_rule S y)
unfolding refs_rule
refs_others S y = instruction_others S y (instruction_at S y)

-- ---- functions
funcs_others : (S : Program) (t : ℕ) → AreOthers (funcs_rule S t)
unfolding funcs_rule
funcs_others S t = cond_both (is_new_function S t) (addition (func_key t) Func ∷ []) [] AreOthers (λ h. refl) (λ h. refl)

-- ---- strings
string_others : (S : Program) (t : ℕ) (o : Option ℕ) → AreOthers (string_changes S t o)
string_others S t None = refl
string_others S t (Some len) = cond_both (is_free S t len && is_none (cell_at S (unit_key t))) (addition (unit_key t) (Plain (Str len)) ∷ []) [] AreOthers (λ h. refl) (λ h. refl)

strings_others : (S : Program) (t : ℕ) → AreOthers (strings_rule S t)
unfolding strings_rule
strings_others S t = cond_both (is_read_at S t) (string_changes S t (string_len S t)) [] AreOthers (λ h. string_others S t (string_len S t)) (λ h. refl)

-- ---- bodies: at most one change, of the body at the entry
abbrev SetsBody : ℕ → List Change → Type 0
SetsBody e [] = Unit {0}
SetsBody e (c ∷ []) = c.key ≡ body_key e
SetsBody e (c ∷ d ∷ cs) = ⊥

set_sets : (e : ℕ) (old : Option Cell) (rs : List (ℕ × ℕ)) → SetsBody e (set_body e old rs)
set_sets e old rs = cond_both (has_body rs old) [] _ (SetsBody e) (λ h. tt) (λ h. refl)

body_sets : (S : Program) (e : ℕ) → SetsBody e (body_rule S e)
unfolding body_rule
body_sets S e = cond_both (has_open_body S e) (set_body e (cell_at S (body_key e)) (spans (reach S e))) [] (SetsBody e) (λ h. set_sets e (cell_at S (body_key e)) (spans (reach S e))) (λ h. tt)

lead_body : (S : Program) (e : ℕ) (cs : List Change) → body_rule S e ≡ cs → SetsBody e cs → IsValid S → Fits S cs → LeadAll S cs
lead_body S e [] is sets valid fits = tt
lead_body S e (c ∷ []) is sets valid fits = (record { before = valid; here = fits.0; after = fits.1; by_rule = λ d same own. ap (λ (k : Key). body_rule S k.at) (sym same ∙ sets) ∙ is }, tt)
lead_body S e (c ∷ d ∷ cs) is sets valid fits = absurd sets

-- each rule's changes
leads_of : (S : Program) (a : Analyzer) (at : ℕ) → IsValid S → Fits S (rule S (item a at)) → LeadAll S (rule S (item a at))
unfolding rule
leads_of S Flow at valid fits = lead_others S (flow_rule S at) valid fits (flow_others S at)
leads_of S Refs at valid fits = lead_others S (refs_rule S at) valid fits (refs_others S at)
leads_of S Funcs at valid fits = lead_others S (funcs_rule S at) valid fits (funcs_others S at)
leads_of S Body at valid fits = lead_body S at (body_rule S at) refl (body_sets S at) valid fits
leads_of S Strings at valid fits = lead_others S (strings_rule S at) valid fits (strings_others S at)

pub leads : ((a : Analyzer) → FittingLaw a) → (S : Program) (i : Item) → IsValid S → LeadAll S (rule S i)
leads fit S i valid = leads_of S i.analyzer i.at valid (fit i.analyzer S i.at valid)
