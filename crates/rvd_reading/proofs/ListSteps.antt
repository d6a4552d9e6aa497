-- Lists, one more element at a time: what stands in front of a list that is read on. Use `walk-more`, `walk-stop`, `walk-none` and
-- `walk-end` in the loop of a reader of lists, at the element i of at most n.
use Rattle.std.proofs.Common.{◌≡◌, ℕ, zero, suc, ◌+◌, ◌-◌, ◌<◌, ◌≤◌, Bool, true, false, cond, List, [], ◌∷◌, ◌++◌, Option, Some, None, length, drop, refl, sym, ap, ◌∙◌, append_assoc, append-nil, arith}
use Rattle.std.specs.Prelude.{nat_eq}
use Rattle.std.specs.List.{starts_with}
use Rattle.rvd_reading.specs.Steps.{◌>>=◌, Step, without}
use Rattle.rvd_reading.specs.Lists.{appended, list_of}

-- one element in front of a list
in_front : {A : Type 0} (old : List A) (x : A) (o : Step (List A)) → appended old (o >>= (λ xs. Some (x ∷ xs.0, xs.1))) ≡ appended (old ++ x ∷ []) o
in_front old x None = refl
in_front old x (Some xs) = ap (λ l. Some (l, xs.1)) (sym (append_assoc old (x ∷ []) xs.0))

appended-more : {A : Type 0} (n : ℕ) (separator : List ℕ) (read : List ℕ → Step A) (bytes : List ℕ) (old : List A) (x : A) (rest : List ℕ)
    → starts_with nat_eq bytes separator ≡ true → read (drop (length separator) bytes) ≡ Some (x, rest)
    → appended old (list_of (suc n) separator read bytes) ≡ appended (old ++ x ∷ []) (list_of n separator read rest)
appended-more {A} n separator read bytes old x rest starts reads =
    ap (λ (q : Bool). appended old (cond q (read (drop (length separator) bytes) >>= (λ y. list_of n separator read y.1 >>= (λ xs. Some (y.0 ∷ xs.0, xs.1)))) (Some ([], bytes)))) starts
    ∙ ap (λ (o : Option (A × List ℕ)). appended old (o >>= (λ y. list_of n separator read y.1 >>= (λ xs. Some (y.0 ∷ xs.0, xs.1))))) reads
    ∙ in_front old x (list_of n separator read rest)

appended-stop : {A : Type 0} (n : ℕ) (separator : List ℕ) (read : List ℕ → Step A) (bytes : List ℕ) (old : List A)
    → starts_with nat_eq bytes separator ≡ false → appended old (list_of n separator read bytes) ≡ Some (old, bytes)
appended-stop zero separator read bytes old starts = ap (λ l. Some (l, bytes)) (append-nil old)
appended-stop (suc n) separator read bytes old starts =
    ap (λ (q : Bool). appended old (cond q (read (drop (length separator) bytes) >>= (λ y. list_of n separator read y.1 >>= (λ xs. Some (y.0 ∷ xs.0, xs.1)))) (Some ([], bytes)))) starts
    ∙ ap (λ l. Some (l, bytes)) (append-nil old)

appended-none : {A : Type 0} (n : ℕ) (separator : List ℕ) (read : List ℕ → Step A) (bytes : List ℕ) (old : List A)
    → starts_with nat_eq bytes separator ≡ true → read (drop (length separator) bytes) ≡ None → appended old (list_of (suc n) separator read bytes) ≡ None
appended-none {A} n separator read bytes old starts reads =
    ap (λ (q : Bool). appended old (cond q (read (drop (length separator) bytes) >>= (λ y. list_of n separator read y.1 >>= (λ xs. Some (y.0 ∷ xs.0, xs.1)))) (Some ([], bytes)))) starts
    ∙ ap (λ (o : Option (A × List ℕ)). appended old (o >>= (λ y. list_of n separator read y.1 >>= (λ xs. Some (y.0 ∷ xs.0, xs.1))))) reads

-- what is read on at the end, where as many elements as there may be have been read
appended-end : {A : Type 0} (separator : List ℕ) (read : List ℕ → Step A) (bytes : List ℕ) (old : List A) → appended old (list_of 0 separator read bytes) ≡ Some (old, bytes)
appended-end separator read bytes old = ap (λ l. Some (l, bytes)) (append-nil old)

-- a word that doesn't stand there isn't taken
pub without-none : (word bytes : List ℕ) → starts_with nat_eq bytes word ≡ false → without word bytes ≡ bytes
without-none word bytes starts = ap (λ (q : Bool). cond q (drop (length word) bytes) bytes) starts

pub without-some : (word bytes : List ℕ) → starts_with nat_eq bytes word ≡ true → without word bytes ≡ drop (length word) bytes
without-some word bytes starts = ap (λ (q : Bool). cond q (drop (length word) bytes) bytes) starts

module _ {A : Type 0} (n i : ℕ) (separator : List ℕ) (read : List ℕ → Step A) (bytes : List ℕ) (now : List A) (whole : Step (List A)) where
  pub walk-stop : appended now (list_of (n - i) separator read bytes) ≡ whole → starts_with nat_eq bytes separator ≡ false → whole ≡ Some (now, bytes)
  walk-stop so_far starts = sym so_far ∙ appended-stop (n - i) separator read bytes now starts

  pub walk-end : appended now (list_of (n - i) separator read bytes) ≡ whole → n ≤ i → whole ≡ Some (now, bytes)
  walk-end so_far end =
      let none : n - i ≡ 0 = omega arith in
      sym so_far ∙ ap (λ m. appended now (list_of m separator read bytes)) none ∙ appended-end separator read bytes now

  pub walk-more : (x : A) (rest : List ℕ) → appended now (list_of (n - i) separator read bytes) ≡ whole → i < n → starts_with nat_eq bytes separator ≡ true
      → read (drop (length separator) bytes) ≡ Some (x, rest) → appended (now ++ x ∷ []) (list_of (n - (i + 1)) separator read rest) ≡ whole
  walk-more x rest so_far l starts reads =
      let one : n - i ≡ suc (n - (i + 1)) = omega arith in
      sym (ap (λ m. appended now (list_of m separator read bytes)) one ∙ appended-more (n - (i + 1)) separator read bytes now x rest starts reads) ∙ so_far

  pub walk-none : appended now (list_of (n - i) separator read bytes) ≡ whole → i < n → starts_with nat_eq bytes separator ≡ true → read (drop (length separator) bytes) ≡ None → whole ≡ None
  walk-none so_far l starts reads =
      let one : n - i ≡ suc (n - (i + 1)) = omega arith in
      sym so_far ∙ ap (λ m. appended now (list_of m separator read bytes)) one ∙ appended-none (n - (i + 1)) separator read bytes now starts reads
