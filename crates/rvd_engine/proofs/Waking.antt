-- What changes wake. Use `quiet-woken` for changes that wake nothing, and `queue_gains` for the others.
use Rattle.std.proofs.Common.{◌≡◌, ℕ, ◌^◌, true, false, ◌&&◌, nat_lt, List, [], ◌∷◌, refl, sym, ap, ◌∙◌}
use Rattle.std.specs.List.{list_all}
use Rattle.std.proofs.lemmas.Bool.{and_parts, and_right}
use Rattle.rvd_fact.specs.declared.keys.Kind.{Kind}
use Rattle.rvd_fact.specs.declared.keys.Kind.TheVariants.{Symbol, Comment}
use Rattle.rvd_fact.specs.declared.cells.Change.{Change}
use Rattle.rvd_fact.specs.Program.{Program, applied}
use Rattle.rvd_ask.specs.declared.asks.Analyzer.{Analyzer}
use Rattle.rvd_ask.specs.declared.asks.Analyzer.TheVariants.{Flow, Refs, Funcs, Body, Strings}
use Rattle.rvd_ask.specs.declared.asks.Item.{Item}
use Rattle.rvd_ask.specs.Unsettled.{ListingLaw, woken}
use Rattle.rvd_ask.specs.Wake.{wakes, wakes_of, wakes_flow, wakes_refs, wakes_funcs, wakes_body, wakes_strings}
use Rattle.rvd_queue.specs.Sets.{with_all}
use Rattle.rvd_machine.specs.Enabled.{Enabled, only_on, woken_into}
use Rattle.rvd_judge.proofs.Queues.{woken_into-list}
use Rattle.rvd_judge.specs.Effects.{woken_in_turn}
use Rattle.rvd_engine.specs.Inside.{is_quiet_kind, wakes_nothing}

-- no kind of change that is quiet wakes an item
flow_sleeps : (k : Kind) (S : Program) (c : Change) (x : ℕ) → is_quiet_kind k ≡ true → wakes_flow k S c x ≡ false
flow_sleeps Symbol S c x quiet = refl
flow_sleeps Comment S c x quiet = refl
flow_sleeps k S c x quiet = absurd (cc)

refs_sleep : (k : Kind) (S : Program) (c : Change) (x : ℕ) → is_quiet_kind k ≡ true → wakes_refs k S c x ≡ false
refs_sleep Symbol S c x quiet = refl
refs_sleep Comment S c x quiet = refl
refs_sleep k S c x quiet = absurd (cc)

funcs_sleep : (k : Kind) (S : Program) (c : Change) (x : ℕ) → is_quiet_kind k ≡ true → wakes_funcs k S c x ≡ false
funcs_sleep Symbol S c x quiet = refl
funcs_sleep Comment S c x quiet = refl
funcs_sleep k S c x quiet = absurd (cc)

body_sleeps : (k : Kind) (S : Program) (c : Change) (x : ℕ) → is_quiet_kind k ≡ true → wakes_body k S c x ≡ false
body_sleeps Symbol S c x quiet = refl
body_sleeps Comment S c x quiet = refl
body_sleeps k S c x quiet = absurd (cc)

strings_sleep : (k : Kind) (S : Program) (c : Change) (x : ℕ) → is_quiet_kind k ≡ true → wakes_strings k S c x ≡ false
strings_sleep Symbol S c x quiet = refl
strings_sleep Comment S c x quiet = refl
strings_sleep k S c x quiet = absurd (cc)

all_sleep : (a : Analyzer) (S : Program) (c : Change) (x : ℕ) → wakes_nothing c ≡ true → wakes_of a S c x ≡ false
all_sleep Flow S c x quiet = flow_sleeps c.key.kind S c x quiet
all_sleep Refs S c x quiet = refs_sleep c.key.kind S c x quiet
all_sleep Funcs S c x quiet = funcs_sleep c.key.kind S c x quiet
all_sleep Body S c x quiet = body_sleeps c.key.kind S c x quiet
all_sleep Strings S c x quiet = strings_sleep c.key.kind S c x quiet

asleep : (S : Program) (c : Change) (i : Item) → wakes_nothing c ≡ true → wakes S c i ≡ false
unfolding wakes
asleep S c i quiet = all_sleep i.analyzer S c i.at quiet

-- so its list is empty
none_woken : ListingLaw → (S : Program) (c : Change) → wakes_nothing c ≡ true → woken S c ≡ []
none_woken law S c quiet = sym ((law (2 ^ 32) (wakes S c)).only [] (record {
  in_order = refl;
  members = λ i. sym (ap (λ b. nat_lt i.at (2 ^ 32) && b) (asleep S c i quiet) ∙ and_right (nat_lt i.at (2 ^ 32)) false refl);
}))

pub quiet-woken : ListingLaw → (E : Enabled) (S : Program) (cs : List Change) (queue : List Item) → list_all wakes_nothing cs ≡ true → woken_into E S cs queue ≡ queue
quiet-woken law E S [] queue quiet = refl
quiet-woken law E S (c ∷ cs) queue quiet =
    let parts = and_parts (wakes_nothing c) (list_all wakes_nothing cs) quiet in
    ap (λ (items : List Item). woken_into E (applied S c) cs (with_all (only_on E items) queue)) (none_woken law (applied S c) c parts.0)
    ∙ quiet-woken law E (applied S c) cs queue parts.1

-- a queue gains what changes wake, as the list that was made of it
pub queue_gains : (E D : Enabled) (W V : Program) (cs : List Change) (again list queue : List Item) → D ≡ E → V ≡ W → again ≡ woken_in_turn D V cs → list ≡ again → with_all list queue ≡ woken_into E W cs queue
queue_gains E D W V cs again list queue same_enabled same_program woken same_list =
    ap (λ (xs : List Item). with_all xs queue) (same_list ∙ woken ∙ ap (λ (x : Enabled). woken_in_turn x V cs) same_enabled ∙ ap (λ (S : Program). woken_in_turn E S cs) same_program)
    ∙ sym (woken_into-list E W cs queue)
