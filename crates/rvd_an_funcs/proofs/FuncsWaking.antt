-- A change that doesn't wake the rule of functions at an address leaves its changes there as they were:
-- `wakes_funcs_law`.
use Rattle.std.proofs.Common.{◌≡◌, ℕ, Bool, true, false, cond, ◌&&◌, [], ◌∷◌, List, Option, Some, None, refl, sym, ap, ◌∙◌, arith}
use Rattle.std.specs.Prelude.{◌==◌, is_none}
use Rattle.std.proofs.lemmas.Bool.{and_left, both_ways, eq-eqb, eqb-true, or_parts}
use Rattle.rvd_fact.specs.declared.keys.Kind.{Kind}
use Rattle.rvd_fact.specs.declared.keys.Kind.TheVariants as kind
use Rattle.rvd_fact.specs.declared.keys.Key.{Key}
use Rattle.rvd_fact.specs.declared.cells.Cell.{Cell}
use Rattle.rvd_fact.specs.declared.cells.Change.{Change}
use Rattle.rvd_fact.specs.declared.values.RefClass.TheVariants.{Call}
use Rattle.rvd_fact.specs.declared.values.Value.{Value}
use Rattle.rvd_fact.specs.declared.values.Value.TheVariants.{Block, Mark, Func, Body, Symbol, Comment, Bookmark, Code, Plain, Ref, Gone}
use Rattle.rvd_fact.specs.Order.{rank}
use Rattle.rvd_fact.specs.Program.{Program, applied, cell_at}
use Rattle.rvd_fact.specs.Memory.{func_key, has_ref_to, is_instruction, refers, unit_key}
use Rattle.rvd_fact.specs.Valid.{is_of, suits}
use Rattle.rvd_fact.proofs.Placing.{any-placed, Fails}
use Rattle.rvd_fact.proofs.Validity.{cell_at_other, cell_at_placed, suits-is_of}
use Rattle.rvd_ask.specs.declared.asks.Analyzer.TheVariants.{Funcs}
use Rattle.rvd_ask.specs.Funcs.{funcs_rule}
use Rattle.rvd_ask.specs.Places.{addition}
use Rattle.rvd_ask.specs.Rules.{rule}
use Rattle.rvd_ask.specs.Wake.{cell_goes_to, goes_to, wakes, wakes_funcs, Leads, WakeLaw}

-- the entries that call t
abbrev calls : ℕ → Key × Cell → Bool
calls t e = refers t Call e.1.value

-- a value that suits a kind and is no reference to t doesn't call t
no_call : (t : ℕ) (K : Kind) (v : Value) → is_of K v ≡ true → (rank K ≡ 8 → goes_to t v ≡ false) → refers t Call v ≡ false
no_call t K (Ref to class) of away = and_left (to == t) _ (away (eqb-true (rank K) 8 of))
no_call t K (Block len perm bytes) of away = refl
no_call t K Mark of away = refl
no_call t K Func of away = refl
no_call t K (Body ranges) of away = refl
no_call t K (Symbol name) of away = refl
no_call t K (Comment text) of away = refl
no_call t K (Bookmark text) of away = refl
no_call t K (Code w) of away = refl
no_call t K (Plain f) of away = refl
no_call t K Gone of away = refl

no_call_at : (t : ℕ) (k : Key) (o : Option Cell) → ((c : Cell) → o ≡ Some c → suits k c ≡ true) → (rank k.kind ≡ 8 → cell_goes_to t o ≡ false) → Fails (calls t) k o
no_call_at t k None fits away = tt
no_call_at t k (Some c) fits away = no_call t k.kind c.value (suits-is_of k c (fits c refl)) away

-- a change of a reference that doesn't wake goes to t neither before nor after
away : (T : Program) (c : Change) (t : ℕ) (K : Kind) → wakes_funcs K T c t ≡ false → rank K ≡ 8 → (cell_goes_to t c.before ≡ false) × (cell_goes_to t c.after ≡ false)
away T c t kind.Ref asleep e = or_parts (cell_goes_to t c.before) (cell_goes_to t c.after) asleep
away T c t kind.Block asleep e = absurd (omega (arith, e))
away T c t kind.Mark asleep e = absurd (omega (arith, e))
away T c t kind.Func asleep e = absurd (omega (arith, e))
away T c t kind.Body asleep e = absurd (omega (arith, e))
away T c t kind.Symbol asleep e = absurd (omega (arith, e))
away T c t kind.Comment asleep e = absurd (omega (arith, e))
away T c t kind.Bookmark asleep e = absurd (omega (arith, e))
away T c t kind.Unit asleep e = absurd (omega (arith, e))

-- the rule by the three things that it asks
abbrev by_parts : ℕ → Bool → Option Cell → Option Cell → List Change
by_parts t called unit func = cond (called && (is_instruction unit && is_none func)) (addition (func_key t) Func ∷ []) []

module _ (S : Program) (c : Change) (t : ℕ) (l : Leads S c) (asleep : wakes_funcs c.key.kind (applied S c) c t ≡ false) where
  abbrev T : Program
  T = applied S c

  -- the calls to t stay
  same_calls : has_ref_to T t Call ≡ has_ref_to S t Call
  same_calls =
      let far = away T c t c.key.kind asleep in
      any-placed (calls t) S c.key c.after l.before.in_order
      (no_call_at t c.key (cell_at S c.key) (λ d h. l.before.cells c.key d h) (λ e. ap (cell_goes_to t) l.here ∙ (far e).0))
      (no_call_at t c.key c.after (λ d h. l.after.cells c.key d (cell_at_placed S c.key c.after ∙ h)) (λ e. (far e).1))

  -- a cell at t whose kind of key wakes functions there
  same_cell : (k : Key) → wakes_funcs k.kind T c t ≡ (t == c.key.at) → k.at ≡ t → cell_at T k ≡ cell_at S k
  same_cell k wakes_it at = cell_at_other S c.key c.after k (λ e.
      both_ways (wakes_funcs c.key.kind T c t) asleep
      (ap (λ (q : Key). wakes_funcs q.kind T c t) (sym e) ∙ wakes_it ∙ eq-eqb t c.key.at (sym at ∙ ap (λ (q : Key). q.at) e)))

  same_rule : funcs_rule T t ≡ funcs_rule S t
  unfolding funcs_rule
  same_rule = λ i. by_parts t (same_calls i) (same_cell (unit_key t) refl refl i) (same_cell (func_key t) refl refl i)

pub wakes_funcs_law : WakeLaw Funcs
unfolding rule wakes
wakes_funcs_law S c t small l asleep settled = same_rule S c t l asleep ∙ settled
