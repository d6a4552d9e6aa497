-- One more file before those that are fetched: what follows where its fetch, or a later one, gives no bytes, and where all do.
use Rattle.std.proofs.Common.{◌≡◌, ◌⊎◌, inl, inr, ℕ, suc, ◌<◌, ◌≤◌, List, [], ◌∷◌, length, Option, Some, Result, Ok, Err, Vec, refl, ap, ap₂, sym, subst, ◌∙◌, arith}
use Rattle.std.specs.Prelude.{map, string_bytes, String, ◌+◌}
use Rattle.std.specs.declared.alloc.Global.{Global}
use Rattle.rvd_top.specs.declared.words.Command.{Command}
use Rattle.rvd_io.specs.declared.cabinets.FetchError.{FetchError}
use Rattle.rvd_top.specs.declared.endings.Ending.{Ending}
use Rattle.rvd_top.specs.declared.endings.Ending.TheVariants.{Done, Usage, ReadFault, NotThisKind, Damaged, BadText, WriteFault, Memory, TooLarge, Differs}
use Rattle.rvd_top.specs.Words.{Source, source, sources, limit_at}
use Rattle.rvd_top.specs.Fetching.{AreHeld, AreWithin, PassesLimit, EndsAbove, EndsEarly, FailsAt, Fetched, FetchedAll, NotFetched}

-- an ending that comes before the bytes are there may come where a file passes its limit
early_above : (limit : ℕ) (ending : Ending) → EndsEarly ending → EndsAbove limit ending
early_above limit Memory h = tt
early_above limit (ReadFault word) h = tt
early_above limit Done h = absurd h
early_above limit Usage h = absurd h
early_above limit WriteFault h = absurd h
early_above limit (TooLarge what count) h = absurd h
early_above limit (NotThisKind refusal) h = absurd h
early_above limit (Damaged refusal) h = absurd h
early_above limit (BadText word line cause) h = absurd h
early_above limit (Differs line) h = absurd h

-- no files
none_told : (held : List ℕ → Option (List ℕ)) (bytes : List (List ℕ)) → AreHeld held [] bytes → [] ≡ bytes
none_told held [] h = refl
none_told held (b ∷ bytes) h = absurd h

pub FetchedAll-none : (held : List ℕ → Option (List ℕ)) → FetchedAll held [] []
FetchedAll-none held = record { number = refl; told = none_told held; none_passes = λ limit h. h }

module _ {C : Type 0} (held : C → List ℕ → Option (List ℕ)) (faults : C → ℕ) (fetched : C → List ℕ → ℕ → Result (Vec ℕ Global) FetchError → C → Type 0) where
  -- The fetch of the first file gave its bytes, and so did those of the others.
  told_more : (file : Source) (files : List Source) (s t : C) (got : Vec ℕ Global) (lists : List (List ℕ)) → Fetched held faults fetched file s t got
      → FetchedAll (held t) files lists → (bytes : List (List ℕ)) → AreHeld (held s) (file ∷ files) bytes → got.items ∷ lists ≡ bytes
  told_more file files s t got lists first rest [] h = absurd h
  told_more file files s t got lists first rest (b ∷ bytes) h =
      ap₂ (λ (x : List ℕ) (xs : List (List ℕ)). x ∷ xs) (first.told b h.0).0 (rest.told bytes (subst (λ (tells : List ℕ → Option (List ℕ)). AreHeld tells files bytes) (sym first.still) h.1))

  none_more : (file : Source) (files : List Source) (s t : C) (got : Vec ℕ Global) (lists : List (List ℕ)) → Fetched held faults fetched file s t got
      → FetchedAll (held t) files lists → (limit : ℕ) → PassesLimit (held s) (file ∷ files) limit → ⊥
  none_more file files s t got lists first rest limit (inl p) = let short : length p.0 ≤ file.limit = (first.told p.0 p.1).1 in omega (arith, p.2)
  none_more file files s t got lists first rest limit (inr p) = rest.none_passes limit (subst (λ (tells : List ℕ → Option (List ℕ)). PassesLimit tells files limit) (sym first.still) p.3)

  pub FetchedAll-more : (file : Source) (files : List Source) (s t : C) (got : Vec ℕ Global) (lists : List (List ℕ)) → Fetched held faults fetched file s t got
      → FetchedAll (held t) files lists → FetchedAll (held s) (file ∷ files) (got.items ∷ lists)
  FetchedAll-more file files s t got lists first rest = record {
    number = ap suc rest.number;
    told = told_more file files s t got lists first rest;
    none_passes = none_more file files s t got lists first rest;
  }

  -- The fetch of the first file gave its bytes, and one of the others none.
  within_more : (file : Source) (files : List Source) (s t s' : C) (got : Vec ℕ Global) (ending : Ending) → Fetched held faults fetched file s t got
      → NotFetched held faults fetched files t s' ending → (bytes : List (List ℕ)) → AreHeld (held s) (file ∷ files) bytes → AreWithin (file ∷ files) bytes → EndsEarly ending
  within_more file files s t s' got ending first rest [] h w = absurd h
  within_more file files s t s' got ending first rest (b ∷ bytes) h w =
      rest.within bytes (subst (λ (tells : List ℕ → Option (List ℕ)). AreHeld tells files bytes) (sym first.still) h.1) w.1

  above_more : (file : Source) (files : List Source) (s t s' : C) (got : Vec ℕ Global) (ending : Ending) → Fetched held faults fetched file s t got
      → NotFetched held faults fetched files t s' ending → (limit : ℕ) → PassesLimit (held s) (file ∷ files) limit → EndsAbove limit ending
  above_more file files s t s' got ending first rest limit (inl p) = let short : length p.0 ≤ file.limit = (first.told p.0 p.1).1 in absurd (omega (arith, p.2))
  above_more file files s t s' got ending first rest limit (inr p) = rest.above limit (subst (λ (tells : List ℕ → Option (List ℕ)). PassesLimit tells files limit) (sym first.still) p.3)

  pub NotFetched-more : (file : Source) (files : List Source) (s t s' : C) (got : Vec ℕ Global) (ending : Ending) → Fetched held faults fetched file s t got
      → NotFetched held faults fetched files t s' ending → NotFetched held faults fetched (file ∷ files) s s' ending
  NotFetched-more file files s t s' got ending first rest = record {
    within = within_more file files s t s' got ending first rest;
    above = above_more file files s t s' got ending first rest;
    read = λ word is. inr (got, t, first.step, first.later, (λ bytes told. (first.told bytes told).1), rest.read word is);
    before_put = rest.before_put;
  }

  -- The fetch of the first file gave none.
  within_first : (file : Source) (files : List Source) (s s' : C) (ending : Ending) → NotFetched held faults fetched (file ∷ []) s s' ending
      → (bytes : List (List ℕ)) → AreHeld (held s) (file ∷ files) bytes → AreWithin (file ∷ files) bytes → EndsEarly ending
  within_first file files s s' ending first [] h w = absurd h
  within_first file files s s' ending first (b ∷ bytes) h w = first.within (b ∷ []) (h.0, tt) (w.0, tt)

  above_first : (file : Source) (files : List Source) (s s' : C) (ending : Ending) → NotFetched held faults fetched (file ∷ []) s s' ending
      → (limit : ℕ) → PassesLimit (held s) (file ∷ files) limit → EndsAbove limit ending
  above_first file files s s' ending first limit (inl p) = first.above limit (inl p)
  above_first file files s s' ending first limit (inr p) = early_above limit ending (first.within (p.0 ∷ []) (p.1, tt) (p.2, tt))

  fails_first : (file : Source) (files : List Source) (word : ℕ) (s s' : C) → FailsAt held faults fetched (file ∷ []) word s s' → FailsAt held faults fetched (file ∷ files) word s s'
  fails_first file files word s s' (inl h) = inl h
  fails_first file files word s s' (inr h) = absurd h.5

  pub NotFetched-first : (file : Source) (files : List Source) (s s' : C) (ending : Ending) → NotFetched held faults fetched (file ∷ []) s s' ending
      → NotFetched held faults fetched (file ∷ files) s s' ending
  NotFetched-first file files s s' ending first = record {
    within = within_first file files s s' ending first;
    above = above_first file files s s' ending first;
    read = λ word is. fails_first file files word s s' (first.read word is);
    before_put = first.before_put;
  }

  -- There was no memory to keep what the fetches gave.
  memory_faults : (files : List Source) (s s' : C) (word : ℕ) → Memory ≡ ReadFault word → FailsAt held faults fetched files word s s'
  memory_faults files s s' word is = cc

  pub NotFetched-memory : (files : List Source) (s s' : C) → NotFetched held faults fetched files s s' Memory
  NotFetched-memory files s s' = record { within = λ bytes h w. tt; above = λ limit p. tt; read = memory_faults files s s'; before_put = tt }

-- The same, where the files are known by an equation.
module _ {C : Type 0} (held : C → List ℕ → Option (List ℕ)) (faults : C → ℕ) (fetched : C → List ℕ → ℕ → Result (Vec ℕ Global) FetchError → C → Type 0) where
  pub first_fails : (files : List Source) (file : Source) (rest : List Source) (s s' : C) (ending : Ending) → files ≡ file ∷ rest
      → NotFetched held faults fetched (file ∷ []) s s' ending → NotFetched held faults fetched files s s' ending
  first_fails files file rest s s' ending is first =
      subst (λ (fs : List Source). NotFetched held faults fetched fs s s' ending) (sym is) (NotFetched-first held faults fetched file rest s s' ending first)

  pub later_fails : (files : List Source) (file : Source) (rest : List Source) (s t s' : C) (got : Vec ℕ Global) (ending : Ending) → files ≡ file ∷ rest
      → Fetched held faults fetched file s t got → NotFetched held faults fetched rest t s' ending → NotFetched held faults fetched files s s' ending
  later_fails files file rest s t s' got ending is first later =
      subst (λ (fs : List Source). NotFetched held faults fetched fs s s' ending) (sym is) (NotFetched-more held faults fetched file rest s t s' got ending first later)

  pub all_fetched : (files : List Source) (file : Source) (rest : List Source) (s t : C) (got : Vec ℕ Global) (lists : List (List ℕ)) → files ≡ file ∷ rest
      → Fetched held faults fetched file s t got → FetchedAll (held t) rest lists → FetchedAll (held s) files (got.items ∷ lists)
  all_fetched files file rest s t got lists is first later =
      subst (λ (fs : List Source). FetchedAll (held s) fs (got.items ∷ lists)) (sym is) (FetchedAll-more held faults fetched file rest s t got lists first later)

-- the files that a first name and further ones are of
pub sources-first : (command : Command) (word limit : ℕ) (names : List (String Global)) (name : String Global) (rest : List (String Global)) (text : List ℕ) → names ≡ name ∷ rest
    → text ≡ string_bytes name → limit ≡ limit_at command word
    → sources command word (map string_bytes names) ≡ source word text limit ∷ sources command (word + 1) (map string_bytes rest)
sources-first command word limit names name rest text is spelled most =
    ap (λ (xs : List (String Global)). sources command word (map string_bytes xs)) is
    ∙ ap₂ (λ (n : List ℕ) (l : ℕ). source word n l ∷ sources command (word + 1) (map string_bytes rest)) (sym spelled) (sym most)

-- no name is of no file
pub sources-none : (command : Command) (word : ℕ) (names : List (String Global)) → length names ≡ 0 → sources command word (map string_bytes names) ≡ []
sources-none command word [] h = refl
sources-none command word (name ∷ names) h = absurd (omega arith)

-- no files are all fetched, where they are known by an equation
pub none_fetched : (held : List ℕ → Option (List ℕ)) (files : List Source) → files ≡ [] → FetchedAll held files []
none_fetched held files is = subst (λ (fs : List Source). FetchedAll held fs []) (sym is) (FetchedAll-none held)
