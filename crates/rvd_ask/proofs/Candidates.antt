-- What is no candidate has no change, for each analyzer.
use Rattle.std.proofs.Common.{◌≡◌, ℕ, false, cond, not, ◌&&◌, ◌||◌, [], ◌∷◌, ◌++◌, Option, Some, None, refl, ap}
use Rattle.std.specs.Prelude.{find, is_none}
use Rattle.std.proofs.lemmas.Bool.{true≢false, or_from, or_parts}
use Rattle.rvd_fact.specs.declared.cells.Cell.{Cell}
use Rattle.rvd_fact.specs.declared.values.Value.{Value}
use Rattle.rvd_fact.specs.declared.values.Value.TheVariants.{Block, Mark, Func, Body as BodyOf, Symbol, Comment, Bookmark, Code, Plain, Ref, Gone}
use Rattle.rvd_fact.specs.Program.{Program, cell_at, is_gone, is_present}
use Rattle.rvd_fact.specs.Memory.{func_key, unit_key, has_instruction, is_code, is_instruction}
use Rattle.rvd_ask.specs.declared.asks.Analyzer.TheVariants.{Flow, Refs, Funcs, Body, Strings}
use Rattle.rvd_ask.specs.Places.{addition, body_key, cell_instruction, mark_key, value_instruction}
use Rattle.rvd_ask.specs.Flow.{decides, flow_changes, flow_rule, next_starts, starts}
use Rattle.rvd_ask.specs.Refs.{instruction_changes, refs_rule}
use Rattle.rvd_ask.specs.Funcs.{funcs_rule}
use Rattle.rvd_ask.specs.Reach.{reach, spans}
use Rattle.rvd_ask.specs.Body.{body_rule, is_open, set_body}
use Rattle.rvd_ask.specs.Strings.{string_changes, string_len, strings_rule}
use Rattle.rvd_ask.specs.Rules.{rule}
use Rattle.rvd_ask.specs.Wake.{is_candidate, CandidateLaw}

-- what isn't present is no instruction
no_code : (v : Value) → not (is_gone v) ≡ false → (is_code v ≡ false) × (value_instruction v ≡ None)
no_code Gone h = (refl, refl)
no_code (Block len perm bytes) h = absurd (true≢false h)
no_code Mark h = absurd (true≢false h)
no_code Func h = absurd (true≢false h)
no_code (BodyOf ranges) h = absurd (true≢false h)
no_code (Symbol name) h = absurd (true≢false h)
no_code (Comment text) h = absurd (true≢false h)
no_code (Bookmark text) h = absurd (true≢false h)
no_code (Code w) h = absurd (true≢false h)
no_code (Plain f) h = absurd (true≢false h)
no_code (Ref to class) h = absurd (true≢false h)

no_instruction : (o : Option Cell) → is_present o ≡ false → (is_instruction o ≡ false) × (cell_instruction o ≡ None)
no_instruction None h = (refl, refl)
no_instruction (Some c) h = no_code c.value h

no_starts : (S : Program) (x : ℕ) → (is_present (cell_at S (mark_key x)) || is_present (cell_at S (func_key x))) ≡ false → has_instruction S x ≡ false → starts S x ≡ []
no_starts S x given code = λ i. cond (given i) (x ∷ []) [] ++ cond (code i) (next_starts S x) []

pub flow_candidates : CandidateLaw Flow
unfolding rule flow_rule is_candidate
flow_candidates S x valid h =
    let m = is_present (cell_at S (mark_key x)) in
    let f = is_present (cell_at S (func_key x)) in
    let u = is_present (cell_at S (unit_key x)) in
    let given = or_parts m (f || u) h in
    let rest = or_parts f u given.1 in
    ap (λ ts. flow_changes S (find (decides S) ts)) (no_starts S x (or_from m f given.0 rest.0) (no_instruction (cell_at S (unit_key x)) rest.1).0)

pub refs_candidates : CandidateLaw Refs
unfolding rule refs_rule is_candidate
refs_candidates S y valid h = ap (instruction_changes S y) (no_instruction (cell_at S (unit_key y)) h).1

pub funcs_candidates : CandidateLaw Funcs
unfolding rule funcs_rule is_candidate
funcs_candidates S t valid h = ap (λ b. cond (b && (has_instruction S t && is_none (cell_at S (func_key t)))) (addition (func_key t) Func ∷ []) []) h

pub body_candidates : CandidateLaw Body
unfolding rule body_rule is_candidate
body_candidates S e valid h = ap (λ b. cond (b && is_open (cell_at S (body_key e))) (set_body e (cell_at S (body_key e)) (spans (reach S e))) []) h

pub strings_candidates : CandidateLaw Strings
unfolding rule strings_rule is_candidate
strings_candidates S t valid h = ap (λ b. cond b (string_changes S t (string_len S t)) []) h
