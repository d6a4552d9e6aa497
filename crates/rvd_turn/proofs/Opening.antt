-- Making the table: the rule holds with one pass, of number 0, and a story without entries.
use Rattle.std.proofs.Common.{◌≡◌, ℕ, false, true≢false, List, [], ◌∷◌, refl, sym, inl, arith, Some}
use Rattle.atomic_table.specs.Table.{opening}
use Rattle.rvd_turn.specs.Views.{opener}
use Rattle.rvd_turn.specs.Rule.{TurnState, Fits, Kept}
use Rattle.rvd_turn.proofs.Prefixes.{prefix_refl}
use Rattle.rvd_turn.proofs.Frame.{each_snoc}

pub opens : {T H E : Type 0} (head_of : T → H) (entries : T → List E) (owner : E → ℕ) (x : T) → entries x ≡ [] → Kept head_of entries owner (opening (0 ∷ 0 ∷ 1 ∷ []) (Some x ∷ []) (opener (head_of x)))
opens {T} {H} {E} head_of entries owner x empty =
    let t : TurnState H E = record { head = head_of x; log = []; queue = []; role = λ _. (0, 1); out = false; serving = 0; given = 1; passes = 1 } in
    let first : Fits owner t 0 (opener (head_of x)) = record {
      head = refl;
      seen = prefix_refl [];
      before = tt;
      number = omega arith;
      role = refl;
      own = refl;
      met = tt;
      zero = λ _. omega arith;
      lead = λ _. (inl refl, refl, refl);
      queued = λ n e. absurd (cc);
      turn = λ e. absurd (true≢false (sym e));
    } in
    record {
      state = t;
      sound = record { small = omega arith; few = omega arith; all_given = omega arith; waiting = tt; apart = tt; none_later = λ _ _. refl };
      words = refl;
      slot = inl (x, refl, refl, empty, refl);
      held = λ n l. (opener (head_of x), refl, refl, inl (let e : 0 ≡ n = omega arith in e));
      each = each_snoc owner t [] (opener (head_of x)) (λ j u e. absurd (omega arith)) (λ _. first);
    }
