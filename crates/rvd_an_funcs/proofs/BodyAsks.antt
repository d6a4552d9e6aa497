-- What the rule of bodies asks, at each of its ends. Use `asks_none` where no function begins, `asks_kept` where an analyzer may
-- not set the body, and `asks_walked` where the walk was made.
use Rattle.std.proofs.Common.{◌≡◌, ℕ, true, false, List, [], ◌∷◌, ◌++◌, refl, sym, ap, ◌∙◌, subst, inl, inr}
use Rattle.std.specs.Prelude.{Contains}
use Rattle.rvd_fact.specs.declared.keys.Key.{Key}
use Rattle.rvd_fact.specs.Program.{Program, cell_at, is_present}
use Rattle.rvd_fact.specs.Memory.{func_key}
use Rattle.rvd_ask.specs.declared.asks.Ask.{Ask}
use Rattle.rvd_ask.specs.declared.asks.Ask.TheVariants as ask
use Rattle.rvd_ask.specs.declared.answers.Answer.{Answer}
use Rattle.rvd_ask.specs.Answers.{only_if, told}
use Rattle.rvd_ask.specs.Body.{body_asks, is_open, reach_asks}
use Rattle.rvd_ask.specs.Places.{body_key}
use Rattle.rvd_ask.proofs.Proposing.{told-first}
use Rattle.rvd_an_funcs.specs.Walks.{Adds, AddsBeside}
use Rattle.rvd_an_funcs.proofs.Lists.{contains_cases, contains_first, contains_later}

-- one more ask at the head of both lists
one_more : (x : Ask) (xs ys : List Ask) → ((q : Ask) → Contains xs q → Contains ys q) → (q : Ask) → Contains (x ∷ xs) q → Contains (x ∷ ys) q
one_more x xs ys more q c = elim (contains_cases x q xs c) [
  | inl is ↦ subst (Contains (x ∷ ys)) is (contains_first x ys)
  | inr later ↦ contains_later x q ys (more q later)
]

-- two asks before asks that are all there, beside the first of the two
within : (x y : Ask) (xs ys : List Ask) → ((q : Ask) → Contains xs q → Contains (x ∷ ys) q) → (q : Ask) → Contains (x ∷ y ∷ xs) q → Contains (x ∷ y ∷ ys) q
within x y xs ys all q c = elim (contains_cases x q (y ∷ xs) c) [
  | inl is ↦ subst (Contains (x ∷ y ∷ ys)) is (contains_first x (y ∷ ys))
  | inr behind ↦ elim (contains_cases y q xs behind) [
    | inl is ↦ subst (Contains (x ∷ y ∷ ys)) is (contains_later x y (y ∷ ys) (contains_first y ys))
    | inr later ↦ one_more x ys (y ∷ ys) (λ p d. contains_later y p ys d) q (all q later)
  ]
]

module _ (P : Program) (e : ℕ) where
  abbrev pub func : Ask
  func = ask.Cell (func_key e)

  abbrev pub body : Ask
  body = ask.Cell (body_key e)

  -- reads of these asks
  exactly : (old new : List (Ask × Answer)) (ps qs : List Ask) → ps ≡ qs → new ≡ old ++ told P ps → Adds P old new qs
  exactly old new ps qs same heard = record { asked = ps; reads = heard; just = λ q. (subst (λ rs. Contains rs q) same, subst (λ rs. Contains rs q) (sym same)) }

  pub asks_none : (old new : List (Ask × Answer)) → is_present (cell_at P (func_key e)) ≡ false → new ≡ old ++ told P (func ∷ []) → Adds P old new (body_asks P e)
  unfolding body_asks
  asks_none old new absent heard =
      exactly old new (func ∷ []) (body_asks P e) (λ i. func ∷ only_if (sym absent i) (body ∷ only_if (is_open (cell_at P (body_key e))) (reach_asks P e))) heard

  pub asks_kept : (old reads new : List (Ask × Answer)) (k : Key) → k ≡ body_key e → is_present (cell_at P (func_key e)) ≡ true → is_open (cell_at P k) ≡ false
      → reads ≡ old ++ told P (func ∷ []) → new ≡ reads ++ told P (ask.Cell k ∷ []) → Adds P old new (body_asks P e)
  unfolding body_asks
  asks_kept old reads new k key present stays heard more =
      let kept : is_open (cell_at P (body_key e)) ≡ false = ap (λ (j : Key). is_open (cell_at P j)) (sym key) ∙ stays in
      let further : new ≡ reads ++ told P (body ∷ []) = more ∙ ap (λ (j : Key). reads ++ told P (ask.Cell j ∷ [])) key in
      exactly old new (func ∷ body ∷ []) (body_asks P e)
      (λ i. func ∷ only_if (sym present i) (body ∷ only_if (sym kept i) (reach_asks P e)))
      (further ∙ ap (λ rs. rs ++ told P (body ∷ [])) heard ∙ told-first P old (func ∷ []) (body ∷ []) (func ∷ body ∷ []) refl)

  pub asks_walked : (old reads before new : List (Ask × Answer)) (k : Key) → k ≡ body_key e → is_present (cell_at P (func_key e)) ≡ true → is_open (cell_at P k) ≡ true
      → reads ≡ old ++ told P (func ∷ []) → before ≡ reads ++ told P (ask.Cell k ∷ [])
      → AddsBeside P func before new (reach_asks P e) → Adds P old new (body_asks P e)
  unfolding body_asks
  asks_walked old reads before new k key present may_set heard more walk =
      let opened : is_open (cell_at P (body_key e)) ≡ true = ap (λ (j : Key). is_open (cell_at P j)) (sym key) ∙ may_set in
      let further : before ≡ reads ++ told P (body ∷ []) = more ∙ ap (λ (j : Key). reads ++ told P (ask.Cell j ∷ [])) key in
      let whole : func ∷ body ∷ reach_asks P e ≡ body_asks P e = λ i. func ∷ only_if (sym present i) (body ∷ only_if (sym opened i) (reach_asks P e)) in
      let before_is : before ≡ old ++ told P (func ∷ body ∷ []) = further ∙ ap (λ rs. rs ++ told P (body ∷ [])) heard ∙ told-first P old (func ∷ []) (body ∷ []) (func ∷ body ∷ []) refl in
      record {
        asked = func ∷ body ∷ walk.asked;
        reads = walk.reads ∙ ap (λ rs. rs ++ told P walk.asked) before_is ∙ told-first P old (func ∷ body ∷ []) walk.asked (func ∷ body ∷ walk.asked) refl;
        just = λ q. (
          λ c. subst (λ rs. Contains rs q) whole (one_more func (body ∷ walk.asked) (body ∷ reach_asks P e) (one_more body walk.asked (reach_asks P e) walk.only) q c),
          λ c. within func body (reach_asks P e) walk.asked walk.all q (subst (λ rs. Contains rs q) (sym whole) c),
        );
      }
