-- Laws of steps that may be refused. Use `in_turn_more` and `in_turn_stops` for a loop over the steps of a
-- table, and `handed_on` to hand a refusal on to the steps of a caller.
use Rattle.std.proofs.Common.{◌≡◌, ℕ, zero, suc, ◌+◌, ◌<◌, Bool, true, false, List, [], ◌∷◌, ◌++◌, Result, Ok, Err, refl, subst, arith, inl, inr, add-one}
use Rattle.std.specs.Prelude.{IfOk}
use Rattle.std.specs.List.{AllByRecursion, All}
use Rattle.std.proofs.lemmas.Bool.{cases_lt}
use Rattle.rvd_elf.specs.declared.refusals.ElfError.{ElfError}
use Rattle.rvd_elf.specs.declared.refusals.ElfError.TheVariants.{NotElf, NotElf32, NotLittle, NotExec, NotRiscv, Compressed, Embedded, BadEntrySize, Truncated, BadRange, Overlap, BadLink, BadName, TooMany, OutOfMemory}
use Rattle.rvd_elf.specs.Steps.{◌>>=◌, behind, in_turn, require, Refuses, GivesBy}

-- a refusal of some steps is one of other steps that hand it on
pub handed_on : {X Y : Type 0} (e : ElfError) (s : Result X ElfError) (t : Result Y ElfError) → ((d : ElfError) → s ≡ Err d → t ≡ Err d) → Refuses e s → Refuses e t
handed_on NotElf s t on r = on NotElf r
handed_on NotElf32 s t on r = on NotElf32 r
handed_on NotLittle s t on r = on NotLittle r
handed_on (NotExec n) s t on r = on (NotExec n) r
handed_on (NotRiscv n) s t on r = on (NotRiscv n) r
handed_on Compressed s t on r = on Compressed r
handed_on Embedded s t on r = on Embedded r
handed_on (BadEntrySize p n) s t on r = on (BadEntrySize p n) r
handed_on (Truncated p n) s t on r = on (Truncated p n) r
handed_on (BadRange n) s t on r = on (BadRange n) r
handed_on (Overlap a b) s t on r = on (Overlap a b) r
handed_on (BadLink n) s t on r = on (BadLink n) r
handed_on (BadName n) s t on r = on (BadName n) r
handed_on (TooMany w n) s t on r = on (TooMany w n) r
handed_on OutOfMemory s t on r = tt

-- the value of a step that was not refused
pub bind_ok : {X Y : Type 0} (r : Result X ElfError) (f : X → Result Y ElfError) (y : Y) → (r >>= f) ≡ Ok y → (x : X) × (r ≡ Ok x) × (f x ≡ Ok y)
bind_ok (Ok x) f y e = (x, refl, e)
bind_ok (Err d) f y e = absurd cc

-- what the steps give is what a function returned
pub if_given : {X Y : Type 0} (view : X → Y) (r : Result X ElfError) (s : Result Y ElfError) (P : X → Type 0) → ((x : X) → s ≡ Ok (view x) → P x) → GivesBy view r s → IfOk r P
if_given view (Ok x) s P then given = then x given
if_given view (Err e) s P then given = tt

-- two tests that were passed
pub both_passed : (s t : Bool) (d e : ElfError) (u : Unit {0}) → require ((s, d) ∷ (t, e) ∷ []) ≡ Ok u → (s ≡ true) × (t ≡ true)
both_passed true true d e u h = (refl, refl)
both_passed true false d e u h = absurd cc
both_passed false t d e u h = absurd cc

pub All-append : {X : Type 0} (P : X → Type 0) (xs ys : List X) → AllByRecursion P xs → AllByRecursion P ys → AllByRecursion P (xs ++ ys)
All-append P [] ys a b = b
All-append P (x ∷ xs) ys a b = (a.0, All-append P xs ys a.1 b)

-- what holds of each element holds at each index
pub All-by_index : {X : Type 0} (P : X → Type 0) (xs : List X) → AllByRecursion P xs → All P xs
All-by_index P [] all k d lt = absurd (omega arith)
All-by_index P (x ∷ xs) all zero d lt = all.0
All-by_index P (x ∷ xs) all (suc k) d lt = All-by_index P xs all.1 k d (omega arith)

-- what holds of all that each step gives holds of all that the steps give
pub all_in_turn : {X : Type 0} (P : X → Type 0) (step : ℕ → Result (List X) ElfError) → ((i : ℕ) (xs : List X) → step i ≡ Ok xs → AllByRecursion P xs) → (n : ℕ) (ys : List X) → in_turn step n ≡ Ok ys → AllByRecursion P ys
all_in_turn {X} P step each zero ys e = let nothing : [] ≡ ys = cc in subst (AllByRecursion P) nothing tt
all_in_turn {X} P step each (suc n) ys e =
    let before = bind_ok (in_turn step n) (λ xs. behind xs (step n)) ys e in
    let here = bind_ok (step n) (λ xs. Ok (before.0 ++ xs)) ys before.2 in
    let all : before.0 ++ here.0 ≡ ys = cc in
    subst (AllByRecursion P) all (All-append P before.0 here.0 (all_in_turn P step each n before.0 before.1) (each n here.0 here.1))

module _ {A : Type 0} (step : ℕ → Result (List A) ElfError) where
  -- one step more
  pub in_turn_more : (i : ℕ) (xs ys : List A) → in_turn step i ≡ Ok xs → behind xs (step i) ≡ Ok ys → in_turn step (i + 1) ≡ Ok ys
  in_turn_more i xs ys before here = rw (add-one, before) here

  -- a step that is refused
  stops_here : (i : ℕ) (xs : List A) (e : ElfError) → in_turn step i ≡ Ok xs → behind xs (step i) ≡ Err e → in_turn step (suc i) ≡ Err e
  stops_here i xs e before here = rw before here

  -- a refusal stays
  stays : (i : ℕ) (e : ElfError) → in_turn step i ≡ Err e → in_turn step (suc i) ≡ Err e
  stays i e h = rw h refl

  pub in_turn_stops : (i n : ℕ) (xs : List A) (e : ElfError) → i < n → in_turn step i ≡ Ok xs → behind xs (step i) ≡ Err e → in_turn step n ≡ Err e
  in_turn_stops i zero xs e lt before here = absurd (omega arith)
  in_turn_stops i (suc n) xs e lt before here =
      elim (cases_lt i n) [
        | inl below ↦ stays n e (in_turn_stops i n xs e below before here)
        | inr above ↦
            let same : i ≡ n = omega arith in
            subst (λ (k : ℕ). in_turn step (suc k) ≡ Err e) same (stops_here i xs e before here)
      ]

  -- a loop over the steps that hands on the refusal of one
  pub in_turn_refused : (i n : ℕ) (xs : List A) (e : ElfError) → i < n → in_turn step i ≡ Ok xs → Refuses e (behind xs (step i)) → Refuses e (in_turn step n)
  in_turn_refused i n xs e lt before here = handed_on e (behind xs (step i)) (in_turn step n) (λ d h. in_turn_stops i n xs d lt before h) here
