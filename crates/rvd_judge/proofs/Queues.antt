-- What joins a queue as a list that is added in order. Use `woken_into-list` for what changes wake and `returned-list` for an
-- item that joined; `with_all-append` adds one list after another.
use Rattle.std.proofs.Common.{◌≡◌, List, [], ◌∷◌, ◌++◌, cond, refl, sym, ◌∙◌}
use Rattle.rvd_fact.specs.declared.cells.Change.{Change}
use Rattle.rvd_fact.specs.Program.{Program, applied}
use Rattle.rvd_ask.specs.declared.asks.Analyzer.{Analyzer}
use Rattle.rvd_ask.specs.declared.asks.Analyzer.TheVariants.{Flow, Refs, Funcs, Body, Strings}
use Rattle.rvd_ask.specs.declared.asks.Item.{Item}
use Rattle.rvd_ask.specs.Unsettled.{woken}
use Rattle.rvd_queue.specs.Sets.{with, with_all}
use Rattle.rvd_machine.specs.Enabled.{Enabled, only_on, woken_into}
use Rattle.rvd_machine.specs.Verdicts.{is_body, returned}
use Rattle.rvd_judge.specs.Effects.{returning_of, woken_in_turn}

pub with_all-append : (xs ys queue : List Item) → with_all (xs ++ ys) queue ≡ with_all ys (with_all xs queue)
with_all-append [] ys queue = refl
with_all-append (x ∷ xs) ys queue = with_all-append xs ys (with x queue)

pub woken_into-list : (E : Enabled) (S : Program) (cs : List Change) (queue : List Item) → woken_into E S cs queue ≡ with_all (woken_in_turn E S cs) queue
woken_into-list E S [] queue = refl
woken_into-list E S (c ∷ cs) queue =
    woken_into-list E (applied S c) cs (with_all (only_on E (woken (applied S c) c)) queue)
    ∙ sym (with_all-append (only_on E (woken (applied S c) c)) (woken_in_turn E (applied S c) cs) queue)

returned_of : (a : Analyzer) (i : Item) (queue : List Item) → cond (is_body a) queue (with i queue) ≡ with_all (returning_of a i) queue
returned_of Flow i queue = refl
returned_of Refs i queue = refl
returned_of Funcs i queue = refl
returned_of Body i queue = refl
returned_of Strings i queue = refl

pub returned-list : (i : Item) (queue : List Item) → returned i queue ≡ with_all (returning_of i.analyzer i) queue
returned-list i queue = returned_of i.analyzer i queue
