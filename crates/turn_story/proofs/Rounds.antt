-- A run of any number of writers: their passes are in order, are of the turn, and leave each its notes. Use it for the conditions of `write_together`'s calls and for its contract.
use Rattle.std.proofs.Common.{◌≡◌, ℕ, suc, ◌+◌, ◌<◌, List, [], ◌∷◌, ◌++◌, map, length, get_or, true, false, Vec, inl, refl, sym, ap, ◌∙◌, subst, arith, add-zero}
use Rattle.std.specs.List.{AllByRecursion as Each}
use Rattle.std.specs.Prelude.{All}
use Rattle.std.proofs.lemmas.List.Elements.{recursion_from_All}
use Rattle.std.specs.declared.alloc.Global.{Global}
use Rattle.rvd_turn.specs.Known.{Known, met_all, HoldsAll}
use Rattle.rvd_turn.specs.Story.{owned}
use Rattle.turn_story.specs.declared.story.Note.{Note}
use Rattle.turn_story.specs.declared.task.Task.{Task}
use Rattle.turn_story.specs.declared.task.Done.{Done}
use Rattle.turn_story.specs.Written.{note}
use Rattle.turn_story.specs.Runs.{IsDone, AreReady, AreDone, EachWrote, split_at}
use Rattle.rvd_turn.proofs.Meetings.{InOrder, met_all-same, met_all-holds, met_all-made, met_all-met}

abbrev K : Type 0
K = Known ℕ Note

pub AreReady-snoc : (p : K) (k : ℕ) (js : List Task) (ss : List (Vec ℕ Global)) (j : Task) (s : Vec ℕ Global) → AreReady p k js ss → j.writer ≡ split_at p (k + length ss) → j.numbers ≡ s → AreReady p k (js ++ j ∷ []) (ss ++ s ∷ [])
AreReady-snoc p k [] [] j s h a b = (a ∙ ap (split_at p) (add-zero k), b, tt)
AreReady-snoc p k (i ∷ js) (r ∷ ss) j s h a b = (h.0, h.1, AreReady-snoc p (k + 1) js ss j s h.2 (a ∙ ap (split_at p) (let e : k + suc (length ss) ≡ (k + 1) + length ss = omega arith in e)) b)
AreReady-snoc p k [] (r ∷ ss) j s h a b = absurd h
AreReady-snoc p k (i ∷ js) [] j s h a b = absurd h

pub done_from : (js : List Task) (ds : List Done) → length ds ≡ length js → ((i : ℕ) (d : Done) → i < length js → (j : Task) × ((e : Task) → get_or js i e ≡ j) × IsDone j (get_or ds i d)) → AreDone js ds
done_from [] [] l h = tt
done_from [] (d ∷ ds) l h = absurd (omega arith)
done_from (j ∷ js) [] l h = absurd (omega arith)
done_from (j ∷ js) (d ∷ ds) l h = let a = h 0 d (omega arith) in
    (subst (λ (x : Task). IsDone x d) (sym (a.1 j)) a.2, done_from js ds (omega arith) (λ i e k. h (suc i) e (omega arith)))

-- All tasks are of the turn.
pub ready_of : (p : K) (k : ℕ) (js : List Task) (ss : List (Vec ℕ Global)) → AreReady p k js ss → Each (λ (j : Task). j.writer.turn_id ≡ p.turn_id) js
ready_of p k [] [] h = tt
ready_of p k (j ∷ js) (s ∷ ss) h = (ap (λ (q : K). q.turn_id) h.0, ready_of p (k + 1) js ss h.2)
ready_of p k [] (s ∷ ss) h = absurd h
ready_of p k (j ∷ js) [] h = absurd h

-- All that came of them is of the turn, without it, and in the order of numbers.
pub done_of : (p : K) (k : ℕ) (js : List Task) (ss : List (Vec ℕ Global)) (ds : List Done) → AreReady p k js ss → AreDone js ds
    → Each (λ (d : Done). (d.pass.turn_id ≡ p.turn_id) × (d.pass.turn ≡ false)) ds × InOrder k (map (λ (d : Done). d.pass) ds) × (length ds ≡ length ss)
done_of p k [] [] [] h g = (tt, tt, refl)
done_of p k (j ∷ js) (s ∷ ss) (d ∷ ds) h g = let r = done_of p (k + 1) js ss ds h.2 g.1 in let x = g.0 in (
  ((x.0 ∙ ap (λ (q : K). q.turn_id) h.0, x.4), r.0),
  (x.1 ∙ ap (λ (q : K). q.number) h.0, x.2 ∙ ap (λ (q : K). q.met) h.0, x.3 ∙ ap (λ (q : K). q.made) h.0, r.1),
  ap suc r.2,
)
done_of p k [] (s ∷ ss) ds h g = absurd h
done_of p k (j ∷ js) [] ds h g = absurd h
done_of p k [] [] (d ∷ ds) h g = absurd g
done_of p k (j ∷ js) (s ∷ ss) [] h g = absurd g

-- The log has each writer's own notes, as its pass has them.
pub wrote : (log : List Note) (p : K) (k : ℕ) (js : List Task) (ss : List (Vec ℕ Global)) (ds : List Done) → AreReady p k js ss → AreDone js ds → Each (λ (d : Done). d.whole ≡ true) ds
    → Each (λ (m : ℕ × List Note). owned (λ (e : Note). e.owner) m.0 log ≡ m.1) (map (λ (q : K). (q.number, q.own)) (map (λ (d : Done). d.pass) ds)) → EachWrote log k ss
wrote log p k [] [] [] h g w o = tt
wrote log p k (j ∷ js) (s ∷ ss) (d ∷ ds) h g w o = let x = g.0 in (
  ap (λ (n : ℕ). owned (λ (e : Note). e.owner) n log) (sym (x.1 ∙ ap (λ (q : K). q.number) h.0)) ∙ o.0 ∙ x.5 w.0 ∙ (λ i. (h.0 i).own ++ map (note (h.0 i).number) (h.1 i).items),
  wrote log p (k + 1) js ss ds h.2 g.1 w.1 o.1,
)
wrote log p k [] (s ∷ ss) ds h g w o = absurd h
wrote log p k (j ∷ js) [] ds h g w o = absurd h
wrote log p k [] [] (d ∷ ds) h g w o = absurd g
wrote log p k (j ∷ js) (s ∷ ss) [] h g w o = absurd g

length-passes : (ds : List Done) → length (map (λ (d : Done). d.pass) ds) ≡ length ds
length-passes [] = refl
length-passes (d ∷ ds) = ap suc (length-passes ds)

-- The first pass, when it has met all.
module _ (p last : K) (js : List Task) (ss : List (Vec ℕ Global)) (ds : List Done) (ready : AreReady p 1 js ss) (done : AreDone js ds) (is : last ≡ met_all (record p { made = length ss + 1 }) (map (λ (d : Done). d.pass) ds)) where
  pub last_all : p.number ≡ 0 → HoldsAll last
  last_all none =
      let f = done_of p 1 js ss ds ready done in
      let start : K = record p { made = length ss + 1 } in
      let made = met_all-made start (map (λ (d : Done). d.pass) ds) 1 f.1 in
      let n = length-passes ds in let m = f.2 in
      subst HoldsAll (sym is) (
        omega arith,
        λ i l. met_all-holds start (map (λ (d : Done). d.pass) ds) 1 (λ i l. inl (let e : p.number ≡ i = omega arith in e)) f.1 i (omega arith),
      )

  pub last_same : (last.turn_id ≡ p.turn_id) × (last.turn ≡ p.turn) × (last.head ≡ p.head)
  last_same = let s = met_all-same (record p { made = length ss + 1 }) (map (λ (d : Done). d.pass) ds) in (ap (λ (k : K). k.turn_id) is ∙ s.0, ap (λ (k : K). k.turn) is ∙ s.1, ap (λ (k : K). k.head) is ∙ s.2)

  pub last_wrote : (log : List Note) → p.met ≡ [] → Each (λ (d : Done). d.whole ≡ true) ds → All (λ (m : ℕ × List Note). owned (λ (e : Note). e.owner) m.0 log ≡ m.1) last.met → EachWrote log 1 ss
  last_wrote log none whole every =
      let f = done_of p 1 js ss ds ready done in
      let met = ap (λ (k : K). k.met) is ∙ met_all-met (record p { made = length ss + 1 }) (map (λ (d : Done). d.pass) ds) 1 f.1 ∙ ap (λ l. l ++ map (λ (q : K). (q.number, q.own)) (map (λ (d : Done). d.pass) ds)) none in
      let One : ℕ × List Note → Type 0 = λ m. owned (λ (e : Note). e.owner) m.0 log ≡ m.1 in
      wrote log p 1 js ss ds ready done whole (subst (Each One) met (recursion_from_All One last.met every))
