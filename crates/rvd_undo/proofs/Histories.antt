-- Records that stand for a history with a program. Use `push_is_commit` after a push, `can_undo` before changes that led
-- to a program are undone, and `came_back` where changes led from one program to another: undone, they lead back to it.
use Rattle.std.proofs.Common.{◌≡◌, ◌+◌, ◌≤◌, ℕ, zero, suc, List, [], ◌∷◌, length, take, refl, sym, ap, subst, arith}
use Rattle.std.proofs.lemmas.List.{length-take}
use Rattle.rvd_fact.specs.declared.cells.Change.{Change}
use Rattle.rvd_fact.specs.Program.{Program, applied_all, reverted_all}
use Rattle.rvd_fact.specs.Valid.{IsValid, Fits, Reverts}
use Rattle.rvd_fact.proofs.Programs.{reverted_all-applied_all}
use Rattle.rvd_program.proofs.Applying.{valid_all, can_revert}
use Rattle.rvd_undo.specs.declared.limit.TheConstants.{UNDO_DEPTH}
use Rattle.rvd_undo.specs.History.{History}
use Rattle.rvd_undo.specs.Records.{Records, Lead, LedTo, Stands, IsCommit, history, programs_back, after_push}

-- what led to a program can be undone there
pub can_undo : (S : Program) (cs : List Change) → Lead (reverted_all S cs) cs S → Reverts S cs
can_undo S cs led = subst (λ (T : Program). Reverts T cs) led.to (can_revert (reverted_all S cs) cs led.before led.fits)

programs_back-take : (n : ℕ) (S : Program) (rs : List (List Change)) → programs_back S (take n rs) ≡ take n (programs_back S rs)
programs_back-take zero S rs = refl
programs_back-take (suc n) S [] = refl
programs_back-take (suc n) S (cs ∷ rs) = ap (λ (ps : List Program). reverted_all S cs ∷ ps) (programs_back-take n (reverted_all S cs) rs)

led_to-take : (n : ℕ) (S : Program) (rs : List (List Change)) → LedTo S rs → LedTo S (take n rs)
led_to-take zero S rs led = tt
led_to-take (suc n) S [] led = tt
led_to-take (suc n) S (cs ∷ rs) led = (led.0, led_to-take n (reverted_all S cs) rs led.1)

few-take : (rs : List (List Change)) → length (take UNDO_DEPTH rs) + 0 ≤ UNDO_DEPTH
few-take rs = simp length-take (omega arith)

-- a push commits
pub push_commits : (r : Records) (cs : List Change) → IsCommit r cs (after_push r cs)
push_commits r cs S stands fits =
    let home : reverted_all (applied_all S cs) cs ≡ S = reverted_all-applied_all S cs stands.valid.in_order fits in
    let led : LedTo (applied_all S cs) (cs ∷ r.undos) = subst (λ (T : Program). Lead T cs (applied_all S cs) × LedTo T r.undos) (sym home) (record { before = stands.valid; fits = fits; to = refl; after = valid_all S cs stands.valid fits }, stands.back) in
    let past : programs_back (applied_all S cs) (take UNDO_DEPTH (cs ∷ r.undos)) ≡ take UNDO_DEPTH (S ∷ programs_back S r.undos) = subst (λ (T : Program). programs_back (applied_all S cs) (take UNDO_DEPTH (cs ∷ r.undos)) ≡ take UNDO_DEPTH (T ∷ programs_back T r.undos)) home (programs_back-take UNDO_DEPTH (applied_all S cs) (cs ∷ r.undos)) in (
      record {
        valid = valid_all S cs stands.valid fits;
        back = led_to-take UNDO_DEPTH (applied_all S cs) (cs ∷ r.undos) led;
        on = tt;
        few = few-take (cs ∷ r.undos);
      },
      ap (λ (ps : List Program). let h : History = record { past = ps; now = applied_all S cs; undone = [] } in h) past,
    )

-- what a push makes is a commit
pub push_is_commit : (old new : Records) (cs : List Change) → new ≡ after_push old cs → IsCommit old cs new
push_is_commit old new cs is = subst (IsCommit old cs) (sym is) (push_commits old cs)

-- changes that led from a valid program are undone exactly
pub came_back : (S T : Program) (cs : List Change) → Lead S cs T → reverted_all T cs ≡ S
came_back S T cs led = subst (λ (U : Program). reverted_all U cs ≡ S) led.to (reverted_all-applied_all S cs led.before.in_order led.fits)
