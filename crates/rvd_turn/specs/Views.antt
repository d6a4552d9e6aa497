-- What a pass knows inside a turn, and what each kind of step makes of it. A view is data of proofs alone: no value of it exists when a program runs.
-- Known has the same for callers, a call at a time.
use Rattle.std.specs.Prelude.{ℕ, ◌+◌, List, [], ◌∷◌, ◌++◌, length, drop, Option, Some, None, Bool, true, false, eqb, cond}
use Rattle.rvd_turn.specs.declared.view.View.{View}
use Rattle.rvd_turn.specs.Story.{longer}

-- Whether the ticket is the number n.
abbrev pub is_ticket : Option ℕ → ℕ → Bool
is_ticket None n = false
is_ticket (Some t) n = eqb t n

module _ {H E : Type 0} where
  -- Making the table: the pass of number 0.
  abbrev pub opener : H → View H E
  opener h = record { live = true; head = Some h; number = 0; own = []; met = []; seen = []; before = []; made = 1; drawn = false; ticket = None; turn = false }

  -- number: the pass has drawn the number `made`.
  abbrev pub drew : View H E → View H E
  drew v = record v { drawn = true }

  -- split: the pass that gives the drawn number, and the new pass that has it.
  abbrev pub giver : View H E → View H E
  giver v = record v { made = v.made + 1; drawn = false }

  abbrev pub fresh : View H E → View H E
  fresh v = record { live = true; head = v.head; number = v.made; own = []; met = []; seen = v.seen; before = []; made = 0; drawn = false; ticket = None; turn = false }

  -- join: the pass that stays, and the one that is spent. What both had seen is kept until the next look.
  abbrev pub joined : View H E → View H E → View H E
  joined v w = record v { met = v.met ++ (w.number, w.own) ∷ w.met; seen = longer v.seen w.seen; before = v.seen ∷ w.seen ∷ []; made = v.made + w.made }

  abbrev pub spent : View H E
  spent = record { live = false; head = None; number = 0; own = []; met = []; seen = []; before = []; made = 0; drawn = false; ticket = None; turn = false }

  -- The look after a join: what both had seen was compared.
  abbrev pub settled : View H E → View H E
  settled v = record v { before = [] }

  -- ticket: the pass has the ticket t.
  abbrev pub ticketed : View H E → ℕ → View H E
  ticketed v t = record v { ticket = Some t }

  -- look: whether one that finds n gives the turn, and the pass that then has it and has seen the whole log.
  abbrev pub is_due : View H E → ℕ → Bool
  is_due v n = cond v.turn false (is_ticket v.ticket n)

  abbrev pub took : View H E → List E → View H E
  took v log = record v { seen = log; before = []; turn = true }

  -- on: the ticket is gone, and the new entries are the pass's own.
  abbrev pub gave : View H E → List E → View H E
  gave v log = record v { own = v.own ++ drop (length v.seen) log; seen = log; ticket = None; turn = false }
