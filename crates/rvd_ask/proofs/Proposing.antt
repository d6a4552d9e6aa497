-- How the reads and changes that an analyzer has gathered become a proposal. Use `told-first` and `from_empty` to join reads,
-- `keeps_told` for the promise of what a program tells to a rule's asks, and `held`, `in_order` and `just_these` for the
-- proposal that is made of it.
use Rattle.std.proofs.Common.{◌≡◌, List, [], ◌∷◌, ◌++◌, map, refl, sym, ap, ◌∙◌, subst}
use Rattle.rvd_fact.specs.declared.cells.Change.{Change}
use Rattle.rvd_fact.specs.Program.{Program}
use Rattle.rvd_fact.specs.Valid.{IsValid}
use Rattle.rvd_ask.specs.declared.asks.Ask.{Ask}
use Rattle.rvd_ask.specs.declared.asks.Item.{Item}
use Rattle.rvd_ask.specs.declared.answers.Answer.{Answer}
use Rattle.rvd_ask.specs.Answers.{told, Hold}
use Rattle.rvd_ask.specs.Promise.{are_reads, AreAsks, KeepsPromise, Proposed}
use Rattle.rvd_ask.specs.Rules.{asks, rule}
use Rattle.rvd_ask.proofs.Told.{are_reads-told, asks-told, hold-told, same_asks, told-append}

pub append-nil : {A : Type 0} (xs : List A) → xs ++ [] ≡ xs
append-nil [] = refl
append-nil (x ∷ xs) = ap (λ ys. x ∷ ys) (append-nil xs)

pub append-assoc : {A : Type 0} (xs ys zs : List A) → (xs ++ ys) ++ zs ≡ xs ++ (ys ++ zs)
append-assoc [] ys zs = refl
append-assoc (x ∷ xs) ys zs = ap (λ ws. x ∷ ws) (append-assoc xs ys zs)

-- what was added to an empty list
pub from_empty : {A : Type 0} (old now added : List A) → old ≡ [] → now ≡ old ++ added → now ≡ added
from_empty old now added empty h = h ∙ ap (λ xs. xs ++ added) empty

-- reads of some asks, and then of further ones
pub told-first : (S : Program) (reads : List (Ask × Answer)) (qs ps rs : List Ask) → rs ≡ qs ++ ps → (reads ++ told S qs) ++ told S ps ≡ reads ++ told S rs
told-first S reads qs ps rs e = append-assoc reads (told S qs) (told S ps) ∙ ap (λ xs. reads ++ xs) (sym (told-append S qs ps) ∙ ap (told S) (sym e))

-- a rule depends on nothing but what it asks: on whatever valid program answers the same to that, its changes are the same
abbrev pub IsLocal : Program → Item → Type 0
IsLocal P i = (S : Program) → IsValid S → Hold S (told P (asks P i)) → rule S i ≡ rule P i

-- what a program tells to these asks, and what the rule changes there, keep the promise
pub keeps_told : (P : Program) (i : Item) (reads : List (Ask × Answer)) (changes : List Change) → IsLocal P i → reads ≡ told P (asks P i) → changes ≡ rule P i
    → KeepsPromise (record { item = i; reads = reads; changes = changes })
keeps_told P i reads changes local heard found = record {
  reads = ap are_reads heard ∙ are_reads-told P (asks P i);
  kept = λ S valid h. local S valid (subst (Hold S) heard h) ∙ sym found;
}

-- a proposal that was made of what a program tells to an item's asks
module _ (P : Program) (i : Item) (p : Proposed) (reads : List (Ask × Answer)) (changes : List Change) (is : p ≡ record { item = i; reads = reads; changes = changes }) (heard : reads ≡ told P (asks P i)) where
  reads_are : p.reads ≡ told P (asks P i)
  reads_are = ap (λ (q : Proposed). q.reads) is ∙ heard

  pub held : Hold P p.reads
  held = subst (Hold P) (sym reads_are) (hold-told P (asks P i))

  pub in_order : map (λ r. r.0) p.reads ≡ asks P p.item
  in_order = ap (λ rs. map (λ r. r.0) rs) reads_are ∙ asks-told P (asks P i) ∙ sym (ap (λ (q : Proposed). asks P q.item) is)

  pub just_these : AreAsks p.reads (asks P p.item)
  just_these = same_asks p.reads (asks P p.item) in_order
