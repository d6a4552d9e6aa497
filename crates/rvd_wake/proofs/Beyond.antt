-- No candidate of a valid program stands at a number that is no address. Use `beyond` with the law of candidates.
use Rattle.std.proofs.Common.{◌≡◌, ℕ, ◌<◌, ◌≤◌, true, false, ◌&&◌, Option, Some, None, refl, subst, arith}
use Rattle.std.specs.Prelude.{◌==◌, nat_le}
use Rattle.std.proofs.lemmas.Bool.{and_parts, eqb-true, false_from_ne_true, false≢true, ltb-true, or_from}
use Rattle.rvd_fact.specs.declared.keys.Kind.{Kind}
use Rattle.rvd_fact.specs.declared.keys.Kind.TheVariants as kind
use Rattle.rvd_fact.specs.declared.keys.Key.{Key}
use Rattle.rvd_fact.specs.declared.cells.Cell.{Cell}
use Rattle.rvd_fact.specs.declared.values.RefClass.{RefClass}
use Rattle.rvd_fact.specs.declared.values.RefClass.TheVariants.{Call, Datum, Read}
use Rattle.rvd_fact.specs.declared.values.Value.{Value}
use Rattle.rvd_fact.specs.declared.values.Value.TheVariants.{Ref}
use Rattle.rvd_fact.specs.Program.{Program, cell_at, is_present}
use Rattle.rvd_fact.specs.Memory.{class_rank, has_ref_to, key_of, refers}
use Rattle.rvd_fact.specs.Valid.{is_address, is_of, is_whole, may_stand, suits, top_sub, IsValid}
use Rattle.rvd_fact.proofs.Scans.{found, Found}
use Rattle.rvd_ask.specs.declared.asks.Analyzer.{Analyzer}
use Rattle.rvd_ask.specs.declared.asks.Analyzer.TheVariants.{Flow, Refs, Funcs, Body, Strings}
use Rattle.rvd_ask.specs.Wake.{candidate_of}
use Rattle.rvd_fact.proofs.Suiting.{address_below, whole_there}

absent : (S : Program) (k : Kind) (a : ℕ) → IsValid S → 4294967296 ≤ a → is_present (cell_at S (key_of k a)) ≡ false
absent S k a valid above = none (cell_at S (key_of k a)) refl
  where
    none : (o : Option Cell) → cell_at S (key_of k a) ≡ o → is_present o ≡ false
    none None e = refl
    none (Some c) e = let below : a < 4294967296 = address_below (key_of k a) c (valid.cells (key_of k a) c e) in absurd (omega arith)

target_below : (at t : ℕ) (class : RefClass) (v : Value) → refers t class v ≡ true → is_whole at v ≡ true → t < 4294967296
target_below at t class (Ref to own) h whole = subst (λ (x : ℕ). x < 4294967296) (eqb-true to t (and_parts (to == t) (class_rank own == class_rank class) h).0) (ltb-true to 4294967296 whole)
target_below at t class v h whole = absurd (false≢true h)

no_ref : (S : Program) (t : ℕ) (class : RefClass) → IsValid S → 4294967296 ≤ t → has_ref_to S t class ≡ false
no_ref S t class valid above = false_from_ne_true (has_ref_to S t class) (λ h.
    let f : Found (λ (e : Key × Cell). refers t class e.1.value) S = found (λ (e : Key × Cell). refers t class e.1.value) S valid.in_order h in
    let below : t < 4294967296 = target_below f.key.at t class f.cell.value f.passes (whole_there f.key f.cell (valid.cells f.key f.cell f.here)) in
    omega arith)

pub beyond : (S : Program) (a : Analyzer) (at : ℕ) → IsValid S → 4294967296 ≤ at → candidate_of a S at ≡ false
beyond S Flow x valid above = or_from _ _ (absent S kind.Mark x valid above) (or_from _ _ (absent S kind.Func x valid above) (absent S kind.Unit x valid above))
beyond S Refs y valid above = absent S kind.Unit y valid above
beyond S Funcs t valid above = no_ref S t Call valid above
beyond S Body e valid above = absent S kind.Func e valid above
beyond S Strings t valid above = or_from _ _ (no_ref S t Datum valid above) (no_ref S t Read valid above)
