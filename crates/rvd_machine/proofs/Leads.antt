-- The changes of edits lead from one valid program to the next, as those of rules do, and what changes don't wake stays
-- settled. Use `Laws` for all that the proofs of whole runs need of rules and edits, and `wake_all` and `valid_all` for changes.
use Rattle.std.proofs.Common.{◌≡◌, true, false, List, [], ◌∷◌, Option, Some, None, refl, sym, ◌∙◌}
use Rattle.std.proofs.lemmas.Bool.{false≢true}
use Rattle.rvd_fact.specs.declared.cells.Cell.{Cell}
use Rattle.rvd_fact.specs.declared.cells.Change.{Change}
use Rattle.rvd_fact.specs.declared.values.Source.{Source}
use Rattle.rvd_fact.specs.declared.values.Source.TheVariants.{Default, Analysis, Imported, UserDefined}
use Rattle.rvd_fact.specs.Program.{Program, applied, applied_all}
use Rattle.rvd_fact.specs.Valid.{IsValid, Fits}
use Rattle.rvd_ask.specs.declared.asks.Item.{Item}
use Rattle.rvd_ask.specs.Rules.{rule}
use Rattle.rvd_ask.specs.Unsettled.{has_item, woken, ListingLaw}
use Rattle.rvd_ask.specs.Wake.{is_own}
use Rattle.rvd_edit.specs.Changes.{is_of_analyst, is_user, SetsNoAnalysis}
use Rattle.rvd_edit.specs.Laws.{FitsLaw, NoAnalysisLaw}
use Rattle.rvd_wake.specs.Laws.{AnalysisLaws, LeadAll}

-- what the proofs of whole runs need
pub record Laws : Type 0 where
  pub analysis : AnalysisLaws
  pub listing : ListingLaw
  pub edits_fit : FitsLaw
  pub no_analysis : NoAnalysisLaw

-- ---- edits
not_own : (o : Option Cell) → is_of_analyst o ≡ true → is_own o ≡ false
not_own None h = refl
not_own (Some c) h = by c.source h
  where
    by : (source : Source) → is_user source ≡ true → is_own (Some (record c { source = source })) ≡ false
    by Default h = refl
    by Analysis h = absurd (false≢true h)
    by Imported h = refl
    by UserDefined h = refl

pub edits_lead : (S : Program) (cs : List Change) → IsValid S → Fits S cs → SetsNoAnalysis cs → LeadAll S cs
edits_lead S [] valid fits h = tt
edits_lead S (c ∷ cs) valid fits h =
    (record { before = valid; here = fits.0; after = fits.1; by_rule = λ e same own. absurd (false≢true (sym (not_own c.after h.0) ∙ own)) }, edits_lead (applied S c) cs fits.1 fits.2 h.1)

-- ---- what changes leave: whether none of them wakes an item
abbrev pub AreAsleep : Program → List Change → Item → Type 0
AreAsleep S [] i = Unit {0}
AreAsleep S (c ∷ cs) i = (has_item i (woken (applied S c) c) ≡ false) × AreAsleep (applied S c) cs i

pub wake_all : AnalysisLaws → (cs : List Change) (S : Program) (i : Item) → LeadAll S cs → AreAsleep S cs i → rule S i ≡ [] → rule (applied_all S cs) i ≡ []
wake_all L [] S i lead asleep settled = settled
wake_all L (c ∷ cs) S i lead asleep settled = wake_all L cs (applied S c) i lead.1 asleep.1 (L.wake S c i lead.0 asleep.0 settled)

pub valid_all : (cs : List Change) (S : Program) → IsValid S → LeadAll S cs → IsValid (applied_all S cs)
valid_all [] S valid lead = valid
valid_all (c ∷ cs) S valid lead = valid_all cs (applied S c) lead.0.after lead.1
