-- The enabled analyzers as a list. Use `listed-enabled`.
use Rattle.std.proofs.Common.{◌≡◌, Bool, true, false, filter, refl}
use Rattle.rvd_ask.specs.Unsettled.{analyzers}
use Rattle.rvd_judge.specs.Batches.{enabled_in}
use Rattle.rvd_machine.specs.Enabled.{Enabled, is_on}

listed : (a b c d e : Bool) → (let E : Enabled = record { flow = a; refs = b; funcs = c; body = d; strings = e } in enabled_in (filter (is_on E) analyzers) ≡ E)
listed true true true true true = refl
listed true true true true false = refl
listed true true true false true = refl
listed true true true false false = refl
listed true true false true true = refl
listed true true false true false = refl
listed true true false false true = refl
listed true true false false false = refl
listed true false true true true = refl
listed true false true true false = refl
listed true false true false true = refl
listed true false true false false = refl
listed true false false true true = refl
listed true false false true false = refl
listed true false false false true = refl
listed true false false false false = refl
listed false true true true true = refl
listed false true true true false = refl
listed false true true false true = refl
listed false true true false false = refl
listed false true false true true = refl
listed false true false true false = refl
listed false true false false true = refl
listed false true false false false = refl
listed false false true true true = refl
listed false false true true false = refl
listed false false true false true = refl
listed false false true false false = refl
listed false false false true true = refl
listed false false false true false = refl
listed false false false false true = refl
listed false false false false false = refl

pub listed-enabled : (E : Enabled) → enabled_in (filter (is_on E) analyzers) ≡ E
listed-enabled E = listed E.flow E.refs E.funcs E.body E.strings
