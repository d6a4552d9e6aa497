-- Lists are read back, where each element is. Use `list-back` with the text of an element and its reader.
use Rattle.std.proofs.Common.{◌≡◌, ℕ, zero, suc, ◌≤◌, Bool, true, false, cond, ◌&&◌, List, [], ◌∷◌, ◌++◌, Option, Some, length, drop, refl, ap, ◌∙◌, arith, append_assoc}
use Rattle.std.specs.Prelude.{flat_map, nat_eq}
use Rattle.std.specs.List.{AllByRecursion, starts_with}
use Rattle.rvd_reading.specs.Steps.{◌>>=◌, Step}
use Rattle.rvd_reading.specs.Lists.{list_of}

-- the elements of a list, each with a separator of one byte before it
abbrev pub elements : {A : Type 0} → ℕ → (A → List ℕ) → List A → List ℕ
elements c text xs = flat_map (λ x. c ∷ [] ++ text x) xs

-- what may stand behind an element: another one, or what stands behind the list
behind_element : {A : Type 0} (c : ℕ) (text : A → List ℕ) (Follows : List ℕ → Type 0) (xs : List A) (rest : List ℕ) → ((more : List ℕ) → Follows (c ∷ more)) → Follows rest → Follows (elements c text xs ++ rest)
behind_element c text Follows [] rest between last = last
behind_element c text Follows (x ∷ xs) rest between last = between ((text x ++ elements c text xs) ++ rest)

pub list-back : {A : Type 0} (c : ℕ) (text : A → List ℕ) (read : List ℕ → Step A) (In : A → Type 0) (Follows : List ℕ → Type 0)
    → nat_eq c c ≡ true
    → ((more : List ℕ) → Follows (c ∷ more))
    → ((x : A) (more : List ℕ) → In x → Follows more → read (text x ++ more) ≡ Some (x, more))
    → (n : ℕ) (xs : List A) (rest : List ℕ) → length xs ≤ n → AllByRecursion In xs → Follows rest → starts_with nat_eq rest (c ∷ []) ≡ false
    → list_of n (c ∷ []) read (elements c text xs ++ rest) ≡ Some (xs, rest)
list-back c text read In Follows same between each zero [] rest l all last stop = refl
list-back c text read In Follows same between each (suc n) [] rest l all last stop =
    ap (λ (q : Bool). cond q (read (drop 1 rest) >>= (λ x. list_of n (c ∷ []) read x.1 >>= (λ xs. Some (x.0 ∷ xs.0, xs.1)))) (Some ([], rest))) stop
list-back c text read In Follows same between each zero (x ∷ xs) rest l all last stop = absurd (omega arith)
list-back {A} c text read In Follows same between each (suc n) (x ∷ xs) rest l all last stop =
    let more = elements c text xs ++ rest in
    let next = λ (y : A × List ℕ). list_of n (c ∷ []) read y.1 >>= (λ ys. Some (y.0 ∷ ys.0, ys.1)) in
    ap (λ (bs : List ℕ). list_of (suc n) (c ∷ []) read (c ∷ bs)) (append_assoc (text x) (elements c text xs) rest)
    ∙ ap (λ (q : Bool). cond (q && true) (read (text x ++ more) >>= next) (Some ([], c ∷ text x ++ more))) same
    ∙ ap (λ (o : Option (A × List ℕ)). o >>= next) (each x more all.0 (behind_element c text Follows xs rest between last))
    ∙ ap (λ (o : Option (List A × List ℕ)). o >>= (λ ys. Some (x ∷ ys.0, ys.1))) (list-back c text read In Follows same between each n xs rest (omega arith) all.1 last stop)
