-- The lines of a file in their order. Use `line_more` and `line_stops` for a loop that adds what each line says, and
-- `handed_on` to hand a refusal on.
use Rattle.std.proofs.Common.{◌≡◌, ℕ, ◌+◌, List, ◌∷◌, ◌++◌, Result, Ok, Err, refl, sym, ap, ◌∙◌, append_assoc}
use Rattle.rvd_script.specs.declared.errors.ScriptError.{ScriptError}
use Rattle.rvd_script.specs.declared.errors.ScriptError.TheVariants.{TooManyLines, Bad, OutOfMemory}
use Rattle.rvd_script.specs.Steps.{◌>>=◌}
use Rattle.rvd_script.specs.Files.{behind, in_order, Refuses}

-- a refusal of some lines is one of others that hand it on
pub handed_on : {X Y : Type 0} (e : ScriptError) (s : Result X ScriptError) (t : Result Y ScriptError) → ((d : ScriptError) → s ≡ Err d → t ≡ Err d) → Refuses e s → Refuses e t
handed_on (TooManyLines n) s t on r = on (TooManyLines n) r
handed_on (Bad line cause) s t on r = on (Bad line cause) r
handed_on OutOfMemory s t on r = tt

module _ {A : Type 0} (read : ℕ → List ℕ → Result (List A) ScriptError) where
  -- what one line says goes behind what was said before
  joined : (before here : List A) (later : Result (List A) ScriptError) → behind before (behind here later) ≡ behind (before ++ here) later
  joined before here (Ok xs) = ap Ok (sym (append_assoc before here xs))
  joined before here (Err e) = refl

  one_line : (before after : List A) (here : Result (List A) ScriptError) (later : Result (List A) ScriptError) → behind before here ≡ Ok after → behind before (here >>= (λ xs. behind xs later)) ≡ behind after later
  one_line before after (Ok xs) later e = let same : before ++ xs ≡ after = cc in joined before xs later ∙ ap (λ (ys : List A). behind ys later) same
  one_line before after (Err d) later e = absurd (cc)

  pub line_more : (n : ℕ) (l : List ℕ) (ls : List (List ℕ)) (before after : List A) → behind before (read n l) ≡ Ok after → behind before (in_order read n (l ∷ ls)) ≡ behind after (in_order read (n + 1) ls)
  line_more n l ls before after e = one_line before after (read n l) (in_order read (n + 1) ls) e

  pub line_stops : (n : ℕ) (l : List ℕ) (ls : List (List ℕ)) (before : List A) (e : ScriptError) → Refuses e (read n l) → Refuses e (behind before (in_order read n (l ∷ ls)))
  line_stops n l ls before e r = handed_on e (read n l) (behind before (in_order read n (l ∷ ls))) (λ d h. ap (λ (x : Result (List A) ScriptError). behind before (x >>= (λ xs. behind xs (in_order read (n + 1) ls)))) h) r
