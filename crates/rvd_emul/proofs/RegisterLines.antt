-- The lines of registers, one more at a time.
use Rattle.std.proofs.Common.{◌≡◌, ℕ, suc, ◌+◌, ◌<◌, List, [], ◌∷◌, ◌++◌, length, take, sym, ap, ◌∙◌, append_assoc, arith}
use Rattle.std.specs.Prelude.{slice_index}
use Rattle.std.proofs.lemmas.List.{append-nil, length-take, take_more}
use Rattle.rvd_emul.specs.Text.{register_line, register_lines}

register_lines-append : (x : ℕ) (xs ys : List ℕ) → register_lines x (xs ++ ys) ≡ register_lines x xs ++ register_lines (x + length xs) ys
register_lines-append x [] ys = ap (λ (n : ℕ). register_lines n ys) (let e : x ≡ x + 0 = omega arith in e)
register_lines-append x (v ∷ xs) ys =
    ap (λ (rest : List ℕ). register_line x v ++ rest) (register_lines-append (x + 1) xs ys ∙ ap (λ (n : ℕ). register_lines (x + 1) xs ++ register_lines n ys) (let e : x + 1 + length xs ≡ x + suc (length xs) = omega arith in e))
    ∙ sym (append_assoc (register_line x v) (register_lines (x + 1) xs) (register_lines (x + length (v ∷ xs)) ys))

-- the lines with one more register
pub register_lines-more : (i : ℕ) (regs : List ℕ) → i < length regs → register_lines 0 (take (i + 1) regs) ≡ register_lines 0 (take i regs) ++ register_line i (slice_index regs i)
register_lines-more i regs less =
    ap (register_lines 0) (take_more regs i 0 less)
    ∙ register_lines-append 0 (take i regs) (slice_index regs i ∷ [])
    ∙ ap (λ (n : ℕ). register_lines 0 (take i regs) ++ (register_line n (slice_index regs i) ++ [])) (let e : 0 + length (take i regs) ≡ i = omega (arith, length-take i regs, less) in e)
    ∙ ap (λ (line : List ℕ). register_lines 0 (take i regs) ++ line) (append-nil (register_line i (slice_index regs i)))

-- and a text with them
pub more_lines : (out old new : List ℕ) (i v : ℕ) (regs : List ℕ) → i < length regs → slice_index regs i ≡ v → old ≡ out ++ register_lines 0 (take i regs) → new ≡ old ++ register_line i v → new ≡ out ++ register_lines 0 (take (i + 1) regs)
more_lines out old new i v regs less is before more =
    more ∙ ap (λ (xs : List ℕ). xs ++ register_line i v) before
    ∙ append_assoc out (register_lines 0 (take i regs)) (register_line i v)
    ∙ ap (λ (x : ℕ). out ++ (register_lines 0 (take i regs) ++ register_line i x)) (sym is)
    ∙ ap (λ (xs : List ℕ). out ++ xs) (sym (register_lines-more i regs less))
