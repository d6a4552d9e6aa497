-- A walk over the slots for references that lists what goes. Use `none_yet` where it begins and `one_more` for a slot.
use Rattle.std.proofs.Common.{◌≡◌, ℕ, ◌+◌, List, [], ◌++◌, refl, sym, ap, ◌∙◌, append_assoc, append-nil, add-one}
use Rattle.rvd_fact.specs.declared.keys.Key.{Key}
use Rattle.rvd_fact.specs.declared.keys.Kind.TheVariants as kind
use Rattle.rvd_fact.specs.declared.cells.Change.{Change}
use Rattle.rvd_fact.specs.Program.{Program}
use Rattle.rvd_edit.specs.Slots.{slot_key}
use Rattle.rvd_edit.specs.Changes.{further, further_refs}

nothing_more : (xs : List Change) → xs ≡ xs ++ []
nothing_more xs = sym (append-nil xs)

pub none_yet : (xs : List Change) (S : Program) (a : ℕ) → xs ≡ xs ++ further_refs S a 0
unfolding further_refs
none_yet xs S a = nothing_more xs

next : (S : Program) (a slot : ℕ) → further_refs S a (slot + 1) ≡ further_refs S a slot ++ further S (slot_key kind.Ref a slot)
unfolding further_refs
next S a slot = rw add-one refl

pub one_more : (first was now : List Change) (S : Program) (a slot : ℕ) (k : Key) → k ≡ slot_key kind.Ref a slot → was ≡ first ++ further_refs S a slot → now ≡ was ++ further S k → now ≡ first ++ further_refs S a (slot + 1)
one_more first was now S a slot k key before step =
    step
    ∙ ap (λ (xs : List Change). xs ++ further S k) before
    ∙ ap (λ (q : Key). (first ++ further_refs S a slot) ++ further S q) key
    ∙ append_assoc first (further_refs S a slot) (further S (slot_key kind.Ref a slot))
    ∙ ap (λ (xs : List Change). first ++ xs) (sym (next S a slot))
