-- The laws of the five analyzers as one: `analysis` makes the record of laws from what each analyzer owes.
use Rattle.std.proofs.Common.{◌≡◌, ℕ, ◌<◌, ◌≤◌, ◌^◌, Bool, false, ◌&&◌, ◌⊎◌, List, [], refl, sym, ap, ◌∙◌, inl, inr}
use Rattle.std.proofs.lemmas.Bool.{cases_lt, eq-eqb, lt-ltb}
use Rattle.rvd_fact.specs.Program.{Program, applied, applied_all}
use Rattle.rvd_fact.specs.Valid.{IsValid}
use Rattle.rvd_ask.specs.declared.asks.Analyzer.{Analyzer}
use Rattle.rvd_ask.specs.declared.asks.Analyzer.TheVariants.{Flow, Refs, Funcs, Body, Strings}
use Rattle.rvd_ask.specs.declared.asks.Item.{Item}
use Rattle.rvd_ask.specs.Order.{priority}
use Rattle.rvd_ask.specs.Rules.{rule, SparingLaw}
use Rattle.rvd_ask.specs.Unsettled.{candidates, has_item, same_analyzer, woken, ListingLaw, ListsJust}
use Rattle.rvd_ask.specs.Fitting.{FittingLaw}
use Rattle.rvd_ask.specs.Wake.{is_candidate, item, wakes, CandidateLaw, WakeLaw}
use Rattle.rvd_wake.specs.Laws.{AnalysisLaws, CandidatesAreListed, ListedLaw, WokenIsListed, WokenLaw}
use Rattle.rvd_wake.proofs.Beyond.{beyond}
use Rattle.rvd_wake.proofs.Leading.{leads}

-- what holds of each of the five
pub every : (P : Analyzer → Type 0) → P Flow → P Refs → P Funcs → P Body → P Strings → (a : Analyzer) → P a
every P flow refs funcs body strings Flow = flow
every P flow refs funcs body strings Refs = refs
every P flow refs funcs body strings Funcs = funcs
every P flow refs funcs body strings Body = body
every P flow refs funcs body strings Strings = strings

pub woken_lists : ListingLaw → WokenIsListed
woken_lists law = λ T c. (law (2 ^ 32) (wakes T c)).lists

pub candidates_list : ListingLaw → CandidatesAreListed
candidates_list law = λ S a. (law (2 ^ 32) (λ i. same_analyzer a i.analyzer && is_candidate S i)).lists

-- an item that isn't listed doesn't pass, or stands at no address
unlisted : (n : ℕ) (test : Item → Bool) (list : List Item) (i : Item) → ListsJust n test list → has_item i list ≡ false → ((i.at < n) × (test i ≡ false)) ⊎ (n ≤ i.at)
unlisted n test list i lists absent = elim (cases_lt i.at n) [
  | inl below ↦ inl (below, sym (ap (λ b. b && test i) (lt-ltb i.at n below)) ∙ sym (lists.members i) ∙ absent)
  | inr above ↦ inr above
]

-- an item at no address is settled
settled_beyond : ((a : Analyzer) → CandidateLaw a) → (S : Program) (i : Item) → IsValid S → 4294967296 ≤ i.at → rule S i ≡ []
unfolding is_candidate
settled_beyond law S i valid above = law i.analyzer S i.at valid (beyond S i.analyzer i.at valid above)

pub woken_law : ListingLaw → ((a : Analyzer) → CandidateLaw a) → ((a : Analyzer) → WakeLaw a) → WokenLaw
woken_law listing candidate wake = λ S c i lead absent settled.
    elim (unlisted (2 ^ 32) (wakes (applied S c) c) (woken (applied S c) c) i (woken_lists listing (applied S c) c) absent) [
      | inl unwoken ↦ wake i.analyzer S c i.at unwoken.0 lead unwoken.1 settled
      | inr above ↦ settled_beyond candidate (applied S c) i lead.after above
    ]

own_test : (a : Analyzer) (b : Bool) → (same_analyzer a a && b) ≡ false → b ≡ false
own_test a b h = sym (ap (λ s. s && b) (eq-eqb (priority a) (priority a) refl)) ∙ h

pub listed_law : ListingLaw → ((a : Analyzer) → CandidateLaw a) → ListedLaw
listed_law listing candidate = λ S i valid absent.
    elim (unlisted (2 ^ 32) (λ j. same_analyzer i.analyzer j.analyzer && is_candidate S j) (candidates S i.analyzer) i (candidates_list listing S i.analyzer) absent) [
      | inl none ↦ candidate i.analyzer S i.at valid (own_test i.analyzer (is_candidate S i) none.1)
      | inr above ↦ settled_beyond candidate S i valid above
    ]

pub analysis : ListingLaw → ((a : Analyzer) → CandidateLaw a) → ((a : Analyzer) → WakeLaw a) → ((a : Analyzer) → FittingLaw a) → ((a : Analyzer) → SparingLaw a) → ((S : Program) (e : ℕ) → IsValid S → rule (applied_all S (rule S (item Body e))) (item Body e) ≡ []) → AnalysisLaws
analysis listing candidate wake fit sparing settles = record {
  wake = woken_law listing candidate wake;
  candidate = listed_law listing candidate;
  fits = leads fit;
  spares = λ S i valid. sparing i.analyzer S i.at valid;
  body_settled = settles;
  woken = woken_lists listing;
  candidates = candidates_list listing;
}
