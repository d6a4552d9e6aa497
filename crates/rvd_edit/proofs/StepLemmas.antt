-- Laws of steps that may be refused. Use `three_passed` to go on behind three tests, `bind_ok` and `passed_on` for what was
-- passed where all was, and `required` for a single test.
use Rattle.std.proofs.Common.{◌≡◌, Bool, true, false, Result, Ok, Err, refl, ap, ◌∙◌}
use Rattle.rvd_event.specs.declared.edits.EditRefusal.{EditRefusal}
use Rattle.rvd_edit.specs.Steps.{◌>>=◌, ◌>>◌, require}

pub three_passed : {X : Type 0} (r s t : Result (Unit {0}) EditRefusal) (y : Result X EditRefusal) → r ≡ Ok tt → s ≡ Ok tt → t ≡ Ok tt → (r >> (s >> (t >> y))) ≡ y
three_passed r s t y first second third =
    ap (λ x. x >> (s >> (t >> y))) first ∙ ap (λ x. x >> (t >> y)) second ∙ ap (λ x. x >> y) third

-- the value of a step that was not refused, and what follows it
pub bind_ok : {X Y : Type 0} (r : Result X EditRefusal) (f : X → Result Y EditRefusal) (y : Y) → (r >>= f) ≡ Ok y → (x : X) × (r ≡ Ok x) × (f x ≡ Ok y)
bind_ok (Ok x) f y e = (x, refl, e)
bind_ok (Err d) f y e = absurd cc

-- a test that was passed, and what follows it
pub passed_on : {Y : Type 0} (r : Result (Unit {0}) EditRefusal) (s : Result Y EditRefusal) (y : Y) → (r >> s) ≡ Ok y → (r ≡ Ok tt) × (s ≡ Ok y)
passed_on (Ok x) s y e = (refl, e)
passed_on (Err d) s y e = absurd cc

pub same_ok : {X : Type 0} (x y : X) → ◌≡◌ {A = Result X EditRefusal} (Ok x) (Ok y) → x ≡ y
same_ok x y e = cc

-- a test that was passed holds
pub required : (b : Bool) (d : EditRefusal) → require b d ≡ Ok tt → b ≡ true
required true d e = refl
required false d e = absurd cc
