-- What a run of a command promises, from what its parts do: the files are fetched or not, the command answers them, and the answer
-- is put.
use Rattle.std.proofs.Common.{◌≡◌, ◌⊎◌, inl, inr, ℕ, ◌≤◌, List, [], ◌∷◌, Option, Some, None, Result, Ok, Err, Vec, refl, ap, sym, subst, ◌∙◌, arith, take}
use Rattle.std.specs.Prelude.{IfErr}
use Rattle.std.proofs.lemmas.Option.{none-some}
use Rattle.std.specs.Result.{IsErrAnd}
use Rattle.std.specs.declared.alloc.Global.{Global}
use Rattle.std.specs.Io.KnownBytes.{Appends}
use Rattle.rvd_io.specs.Causes.{Rose}
use Rattle.rvd_io.specs.declared.cabinets.FetchError.{FetchError}
use Rattle.rvd_top.specs.declared.endings.Ending.{Ending}
use Rattle.rvd_top.specs.declared.endings.Ending.TheVariants.{Done, Usage, ReadFault, NotThisKind, Damaged, BadText, WriteFault, Memory, TooLarge, Differs}
use Rattle.rvd_top.specs.declared.words.Command.{Command}
use Rattle.rvd_top.specs.Words.{Source, command_of, files_of}
use Rattle.rvd_top.specs.Answers.{Accepts, Answer, Answers, IsWithoutFault}
use Rattle.rvd_top.specs.Endings.{IsAnswered, IsBeforePut, KeepsSink}
use Rattle.rvd_top.specs.Fetching.{AreHeld, AreWithin, EndsAbove, EndsEarly, FailsAt, FetchedAll, NotFetched, PassesLimit}
use Rattle.rvd_top.specs.Runs.{AnswersFrom, CommandRuns, EndsBy, EndsWith, Runs}
use Rattle.rvd_top.proofs.Accepted.{accepted}

before_put : (ending : Ending) → IsAnswered ending → IsBeforePut ending
before_put Done h = h
before_put Usage h = h
before_put (ReadFault word) h = tt
before_put (NotThisKind refusal) h = tt
before_put (Damaged refusal) h = tt
before_put (BadText word line cause) h = tt
before_put WriteFault h = h
before_put Memory h = tt
before_put (TooLarge what count) h = tt
before_put (Differs line) h = tt

answered_before_put : (answer : Answer) → IfErr answer IsAnswered → IfErr answer IsBeforePut
answered_before_put (Ok text) h = tt
answered_before_put (Err ending) h = before_put ending h

no_read_fault : (answer : Answer) (word : ℕ) → IfErr answer IsAnswered → answer ≡ Err (ReadFault word) → ⊥
no_read_fault answer word h is = let P : Answer → Type 0 = λ a. IfErr a IsAnswered in subst P is h

risen : (before middle after : ℕ) → before ≤ middle → Rose middle after → Rose before after
risen before middle after l h = omega arith

-- how a command ends that ends before its text is put
before_by : (answers : Answer → Type 0) (old new : Option (List ℕ)) (e : Ending) → IsBeforePut e → answers (Err e) ⊎ EndsEarly e → EndsBy answers old new e
before_by answers old new Done b h = absurd b
before_by answers old new Usage b h = absurd b
before_by answers old new (ReadFault word) b h = tt
before_by answers old new (NotThisKind refusal) b (inl h) = h
before_by answers old new (NotThisKind refusal) b (inr h) = absurd h
before_by answers old new (Damaged refusal) b (inl h) = h
before_by answers old new (Damaged refusal) b (inr h) = absurd h
before_by answers old new (BadText word line cause) b (inl h) = h
before_by answers old new (BadText word line cause) b (inr h) = absurd h
before_by answers old new WriteFault b h = absurd b
before_by answers old new Memory b h = tt
before_by answers old new (TooLarge what count) b (inl h) = h
before_by answers old new (TooLarge what count) b (inr h) = absurd h
before_by answers old new (Differs line) b (inl h) = h
before_by answers old new (Differs line) b (inr h) = absurd h

-- how a command ends that puts its text
put_by : (answers : Answer → Type 0) (old new : Option (List ℕ)) (text : List ℕ) (e : Ending) → EndsWith old new (Ok text) e → answers (Ok text) → EndsBy answers old new e
put_by answers old new text Done w h = (text, h, w)
put_by answers old new text Usage w h = absurd w
put_by answers old new text (ReadFault word) w h = absurd w
put_by answers old new text (NotThisKind refusal) w h = absurd w
put_by answers old new text (Damaged refusal) w h = absurd w
put_by answers old new text (BadText word line cause) w h = absurd w
put_by answers old new text WriteFault w h = (text, h, w)
put_by answers old new text Memory w h = absurd w
put_by answers old new text (TooLarge what count) w h = absurd w
put_by answers old new text (Differs line) w h = absurd w

-- a command doesn't end with usage
not_usage : (answer : Answer) (e : Ending) (old new : Option (List ℕ)) → IfErr answer IsBeforePut → EndsWith old new answer e → e ≡ Usage → ⊥
not_usage (Ok text) e old new b w is = subst (λ (x : Ending). EndsWith old new (Ok text) x) is w
not_usage (Err before) e old new b w is = subst IsBeforePut (sym w ∙ is) b

same_command : (c d : Command) → Some c ≡ Some d → c ≡ d
same_command c d is = cc

-- over accepted files, without a fault
finishes : (command : Command) (words bytes : List (List ℕ)) (old new : Option (List ℕ)) (e : Ending) → Accepts command words bytes
    → ((word : ℕ) → e ≡ ReadFault word → ⊥) → (e ≡ WriteFault → ⊥) → EndsBy (Answers command words bytes) old new e → IsWithoutFault command e
finishes command words bytes old new Done a r w h = tt
finishes command words bytes old new Usage a r w h = accepted command words bytes Usage a h
finishes command words bytes old new (ReadFault word) a r w h = absurd (r word refl)
finishes command words bytes old new (NotThisKind refusal) a r w h = accepted command words bytes (NotThisKind refusal) a h
finishes command words bytes old new (Damaged refusal) a r w h = accepted command words bytes (Damaged refusal) a h
finishes command words bytes old new (BadText word line cause) a r w h = accepted command words bytes (BadText word line cause) a h
finishes command words bytes old new WriteFault a r w h = absurd (w refl)
finishes command words bytes old new Memory a r w h = tt
finishes command words bytes old new (TooLarge what count) a r w h = accepted command words bytes (TooLarge what count) a h
finishes command words bytes old new (Differs line) a r w h = accepted command words bytes (Differs line) a h

module _ {C : Type 0} (held : C → List ℕ → Option (List ℕ)) (faults : C → ℕ) (fetched : C → List ℕ → ℕ → Result (Vec ℕ Global) FetchError → C → Type 0) where
  fails_rose : (files : List Source) (word : ℕ) (s s' : C) → FailsAt held faults fetched files word s s' → Rose (faults s) (faults s')
  fails_rose [] word s s' h = absurd h
  fails_rose (file ∷ files) word s s' (inl h) = h.2
  fails_rose (file ∷ files) word s s' (inr h) = risen (faults s) (faults h.1) (faults s') h.3 (fails_rose files word h.1 s' h.5)

  module _ (command : Command) (words : List (List ℕ)) (s s' : C) where
    -- a fetch gave no bytes
    pub answers_early : (e : Ending) → NotFetched held faults fetched (files_of command words) s s' e → AnswersFrom held faults fetched command words s s' (Err e)
    answers_early e n = record {
      text = λ t is. absurd (cc);
      within = λ bytes told short. inr (n.within bytes told short);
      above = n.above;
      read = λ word is. n.read word (cc);
      before_put = n.before_put;
    }

    -- all files were fetched, and answered
    pub answers_all : (lists : List (List ℕ)) (answer : Answer) → FetchedAll (held s) (files_of command words) lists → Answers command words lists answer → IfErr answer IsAnswered
        → AnswersFrom held faults fetched command words s s' answer
    answers_all lists answer f a k = record {
      text = λ t is bytes told. subst (λ (b : List (List ℕ)). Answers command words b (Ok t)) (f.told bytes told) (subst (λ (r : Answer). Answers command words lists r) is a);
      within = λ bytes told short. inl (subst (λ (b : List (List ℕ)). Answers command words b answer) (f.told bytes told) a);
      above = λ limit p. absurd (f.none_passes limit p);
      read = λ word is. absurd (no_read_fault answer word k is);
      before_put = answered_before_put answer k;
    }

    module _ {K : Type 0} (contents : K → Option (List ℕ)) (write_faults : K → ℕ) (out out' : K) where
      done : (answer : Answer) (e : Ending) → AnswersFrom held faults fetched command words s s' answer → EndsWith (contents out) (contents out') answer e → e ≡ Done
          → (bytes : List (List ℕ)) → AreHeld (held s) (files_of command words) bytes → (text : List ℕ) × Answers command words bytes (Ok text) × Appends (contents out) (contents out') text
      done (Ok text) e a w is bytes told = (text, a.text text refl bytes told, subst (λ (x : Ending). EndsWith (contents out) (contents out') (Ok text) x) is w)
      done (Err before) e a w is bytes told = absurd (subst IsBeforePut (sym w ∙ is) a.before_put)

      within : (answer : Answer) (e : Ending) → AnswersFrom held faults fetched command words s s' answer → EndsWith (contents out) (contents out') answer e
          → (bytes : List (List ℕ)) → AreHeld (held s) (files_of command words) bytes → AreWithin (files_of command words) bytes
          → EndsBy (Answers command words bytes) (contents out) (contents out') e
      within (Ok text) e a w bytes told short = put_by (Answers command words bytes) (contents out) (contents out') text e w (a.text text refl bytes told)
      within (Err before) e a w bytes told short =
          subst (λ (x : Ending). EndsBy (Answers command words bytes) (contents out) (contents out') x) (sym w)
          (before_by (Answers command words bytes) (contents out) (contents out') before a.before_put (a.within bytes told short))

      above : (answer : Answer) (e : Ending) → AnswersFrom held faults fetched command words s s' answer → EndsWith (contents out) (contents out') answer e
          → (limit : ℕ) → PassesLimit (held s) (files_of command words) limit → EndsAbove limit e
      above (Ok text) e a w limit p = absurd (a.above limit p)
      above (Err before) e a w limit p = subst (λ (x : Ending). EndsAbove limit x) (sym w) (a.above limit p)

      read : (answer : Answer) (e : Ending) → AnswersFrom held faults fetched command words s s' answer → EndsWith (contents out) (contents out') answer e
          → (word : ℕ) → e ≡ ReadFault word → FailsAt held faults fetched (files_of command words) word s s'
      read (Ok text) e a w word is = absurd (subst (λ (x : Ending). EndsWith (contents out) (contents out') (Ok text) x) is w)
      read (Err before) e a w word is = a.read word (ap (λ (x : Ending). Err x) (sym w ∙ is))

      pub command_runs : (answer : Answer) (e : Ending) → AnswersFrom held faults fetched command words s s' answer → EndsWith (contents out) (contents out') answer e
          → (e ≡ WriteFault → Rose (write_faults out) (write_faults out')) → CommandRuns held faults fetched contents write_faults command words s s' out out' e
      command_runs answer e a w risen_by = record {
        done = done answer e a w;
        complete = λ bytes told short accepts no_read no_write. finishes command words bytes (contents out) (contents out') e accepts
            (λ word is. no_read (fails_rose (files_of command words) word s s' (read answer e a w word is))) (λ is. no_write (risen_by is)) (within answer e a w bytes told short);
        within = within answer e a w;
        above = above answer e a w;
        read = read answer e a w;
      }

      pub runs : (answer : Answer) (e : Ending) → command_of words ≡ Some command → AnswersFrom held faults fetched command words s s' answer
          → EndsWith (contents out) (contents out') answer e → KeepsSink e out out' → (e ≡ WriteFault → Rose (write_faults out) (write_faults out'))
          → Runs held faults fetched contents write_faults words s s' out out' e
      runs answer e is a w keeps risen_by = record {
        usage = ((λ used. absurd (not_usage answer e (contents out) (contents out') a.before_put w used)), (λ none. absurd (none-some command (sym none ∙ is))));
        runs = λ other named_so.
            subst (λ (c : Command). CommandRuns held faults fetched contents write_faults c words s s' out out' e) (same_command command other (sym is ∙ named_so))
            (command_runs answer e a w risen_by);
        sink = keeps;
        write = risen_by;
      }
