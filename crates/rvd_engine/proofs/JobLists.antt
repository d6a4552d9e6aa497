-- The jobs that are taken, as the state has them. Use `taken_length` for their number, and `items_more` for the items of one
-- job more.
use Rattle.std.proofs.Common.{◌≡◌, ℕ, zero, suc, ◌≤◌, List, [], ◌∷◌, ◌++◌, length, Option, Some, None, refl, sym, ap, ◌∙◌, arith}
use Rattle.rvd_fact.specs.Program.{Program}
use Rattle.rvd_ask.specs.declared.asks.Item.{Item}
use Rattle.rvd_queue.specs.Jobs.{Job, shown_at}
use Rattle.rvd_machine.specs.State.{taken_items}
use Rattle.rvd_engine.specs.Inside.{jobs_in}

pub taken_length : (jobs : List (Job Program)) → length (jobs_in jobs) ≡ length jobs
taken_length [] = refl
taken_length (job ∷ jobs) = ap suc (taken_length jobs)

-- the items of the jobs up to a place
abbrev pub items_to : ℕ → List (Job Program) → List Item
items_to zero jobs = []
items_to (suc k) [] = []
items_to (suc k) (job ∷ jobs) = job.items ++ items_to k jobs

append-nil : (xs : List Item) → xs ++ [] ≡ xs
append-nil [] = refl
append-nil (x ∷ xs) = ap (λ ys. x ∷ ys) (append-nil xs)

append-assoc : (xs ys zs : List Item) → (xs ++ ys) ++ zs ≡ xs ++ (ys ++ zs)
append-assoc [] ys zs = refl
append-assoc (x ∷ xs) ys zs = ap (λ ws. x ∷ ws) (append-assoc xs ys zs)

-- the items of what a place has
items_in : Option (ℕ × List Item × Program) → List Item
items_in None = []
items_in (Some x) = x.1

items_are : (x y : ℕ × List Item × Program) → Some x ≡ Some y → x.1 ≡ y.1
unfolding items_in
items_are x y is = ap items_in is

pub items_more : (k : ℕ) (jobs : List (Job Program)) (t : ℕ) (items : List Item) (P : Program) → shown_at k jobs ≡ Some (t, items, P) → items_to (suc k) jobs ≡ items_to k jobs ++ items
items_more k [] t items P is = absurd (cc)
items_more zero (job ∷ jobs) t items P is = append-nil job.items ∙ items_are (job.ticket, job.items, job.program) (t, items, P) is
items_more (suc k) (job ∷ jobs) t items P is = ap (λ xs. job.items ++ xs) (items_more k jobs t items P is) ∙ sym (append-assoc job.items (items_to k jobs) items)

pub items_past : (k : ℕ) (jobs : List (Job Program)) → shown_at k jobs ≡ None → items_to (suc k) jobs ≡ items_to k jobs
items_past zero [] is = refl
items_past (suc k) [] is = refl
items_past zero (job ∷ jobs) is = absurd (cc)
items_past (suc k) (job ∷ jobs) is = ap (λ xs. job.items ++ xs) (items_past k jobs is)

pub items_all : (k : ℕ) (jobs : List (Job Program)) → length jobs ≤ k → items_to k jobs ≡ taken_items (jobs_in jobs)
items_all zero [] few = refl
items_all (suc k) [] few = refl
items_all zero (job ∷ jobs) few = absurd (omega (arith, few))
items_all (suc k) (job ∷ jobs) few = ap (λ xs. job.items ++ xs) (items_all k jobs (omega (arith, few)))
