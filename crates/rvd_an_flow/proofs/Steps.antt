-- The steps of flow's work, by their cases: four bytes are as many as are asked for (`four_bytes`), a run goes on or ends (`behind-..`, `units-..`), and a start is passed over or decides (`first-..`).
use Rattle.std.proofs.Common.{◌≡◌, ℕ, zero, suc, ◌-◌, Bool, true, false, cond, not, ◌&&◌, ◌||◌, List, [], ◌∷◌, ◌++◌, length, Option, Some, None, IfSome, refl, sym, ap, ◌∙◌, arith}
use Rattle.std.specs.Prelude.{is_none, is_some, filter_map, find, nat_lt, ◌==◌}
use Rattle.std.specs.Option.{option_map}
use Rattle.std.proofs.lemmas.Bool.{and_from, and_parts, eqb-true, false≢true}
use Rattle.std.specs.List.{cons_option}
use Rattle.std.proofs.lemmas.Option.{none-some}
use Rattle.rvd_decode.specs.Table.{instruction}
use Rattle.rvd_decode.specs.Flow.{falls_through}
use Rattle.rvd_fact.specs.declared.cells.Change.{Change}
use Rattle.rvd_fact.specs.declared.values.Value.TheVariants.{Bookmark, Code}
use Rattle.rvd_fact.specs.Program.{Program, cell_at}
use Rattle.rvd_fact.specs.Memory.{bytes, unit_key, word}
use Rattle.rvd_ask.specs.declared.asks.Ask.{Ask}
use Rattle.rvd_ask.specs.declared.asks.Ask.TheVariants as ask
use Rattle.rvd_ask.specs.declared.answers.Answer.TheVariants as answer
use Rattle.rvd_ask.specs.Answers.{only_if}
use Rattle.rvd_ask.specs.Forms.{has_form}
use Rattle.rvd_ask.specs.Places.{addition, error_key, next_word}
use Rattle.rvd_ask.specs.Flow.{bad_instruction, code_addition, decides, decodes, flow_changes, is_ready, openable, openable_asks, run, run_asks, start_changes, starts_asks, word_falls}
use Rattle.rvd_ask.proofs.Proposing.{append-assoc, append-nil}
use Rattle.rvd_ask.proofs.Told.{has_form-ans}
use Rattle.rvd_an_flow.specs.Parts.{behind_asks, code_word, coded, coded_asks, coded_decides, decided, decided_asks, first_asks, first_decided, is_deciding, ready_asks, ready_word, units}

four : (a : ℕ) (o : Option (List ℕ)) → has_form (ask.Bytes a 4) (answer.Bytes o) ≡ true → IfSome o (λ list. length list ≡ 4)
four a None h = tt
four a (Some list) h = eqb-true (length list) 4 (and_parts (nat_lt 0 4) (length list == 4) h).1

-- a range of four bytes has four
pub four_bytes : (S : Program) (a : ℕ) → IfSome (bytes S a 4) (λ list. length list ≡ 4)
four_bytes S a = four a (bytes S a 4) (has_form-ans S (ask.Bytes a 4))

-- ---- a run
module _ (S : Program) where
  -- what is asked of the next word, and further where it is an instruction's
  abbrev pub asks_at : ℕ → Bool → Bool → List Ask → List Ask
  asks_at t opened decoded further = openable_asks S t ++ only_if opened (ask.Bytes t 4 ∷ only_if decoded further)

  stopped : (t : ℕ) (a b : Bool) (o : Option ℕ) (qs : List Ask) → decodes o ≡ b → cond (a && b) o None ≡ None → asks_at t a b qs ≡ openable_asks S t ++ only_if a (ask.Bytes t 4 ∷ [])
  stopped t false b o qs e h = refl
  stopped t true false o qs e h = refl
  stopped t true true None qs e h = absurd (false≢true e)
  stopped t true true (Some w) qs e h = absurd (none-some w (sym h))

  passed : (t : ℕ) (a b : Bool) (o : Option ℕ) (w : ℕ) (qs : List Ask) → cond (a && b) o None ≡ Some w → asks_at t a b qs ≡ (openable_asks S t ++ only_if a (ask.Bytes t 4 ∷ [])) ++ qs
  passed t true true o w qs h = sym (append-assoc (openable_asks S t) (ask.Bytes t 4 ∷ []) qs)
  passed t true false o w qs h = absurd (none-some w h)
  passed t false b o w qs h = absurd (none-some w h)

  -- a run that may go on, but doesn't
  pub behind-end : (t w n : ℕ) → word S t ≡ Some w → (n ≡ 0 → ⊥) → falls_through (instruction w) ≡ true → ready_word S (next_word t) ≡ None → behind_asks S t n ≡ ready_asks S (next_word t)
  unfolding behind_asks ready_asks
  behind-end t w zero here some falls h = absurd (some refl)
  behind-end t w (suc n) here some falls h =
      ap (λ o. only_if (word_falls o) (asks_at (next_word t) (openable S (next_word t)) (decodes (word S (next_word t))) (run_asks S (next_word t) n))) here
      ∙ ap (λ b. only_if b (asks_at (next_word t) (openable S (next_word t)) (decodes (word S (next_word t))) (run_asks S (next_word t) n))) falls
      ∙ stopped (next_word t) (openable S (next_word t)) (decodes (word S (next_word t))) (word S (next_word t)) (run_asks S (next_word t) n) refl h

  -- a run that goes on
  pub behind-more : (t w v n : ℕ) → word S t ≡ Some w → (n ≡ 0 → ⊥) → falls_through (instruction w) ≡ true → ready_word S (next_word t) ≡ Some v → behind_asks S t n ≡ ready_asks S (next_word t) ++ behind_asks S (next_word t) (n - 1)
  unfolding behind_asks ready_asks
  behind-more t w v zero here some falls h = absurd (some refl)
  behind-more t w v (suc n) here some falls h =
      ap (λ o. only_if (word_falls o) (asks_at (next_word t) (openable S (next_word t)) (decodes (word S (next_word t))) (run_asks S (next_word t) n))) here
      ∙ ap (λ b. only_if b (asks_at (next_word t) (openable S (next_word t)) (decodes (word S (next_word t))) (run_asks S (next_word t) n))) falls
      ∙ passed (next_word t) (openable S (next_word t)) (decodes (word S (next_word t))) (word S (next_word t)) v (run_asks S (next_word t) n) h
      ∙ (let e : n ≡ suc n - 1 = omega arith in ap (λ m. (openable_asks S (next_word t) ++ only_if (openable S (next_word t)) (ask.Bytes (next_word t) 4 ∷ [])) ++ run_asks S (next_word t) m) e)

  -- the same, of the units
  one_unit : (t w : ℕ) (b : Bool) (ts : List ℕ) → word S t ≡ Some w → filter_map (code_addition S) (t ∷ cond b ts []) ≡ addition (unit_key t) (Code w) ∷ filter_map (code_addition S) (cond b ts [])
  one_unit t w b ts here = λ i. cons_option (option_map (λ v. addition (unit_key t) (Code v)) (here i)) (filter_map (code_addition S) (cond b ts []))

  is_going : (a b : Bool) (o : Option ℕ) (v : ℕ) → cond (a && b) o None ≡ Some v → (a && b) ≡ true
  is_going true true o v h = refl
  is_going true false o v h = absurd (none-some v h)
  is_going false b o v h = absurd (none-some v h)

  pub units-more : (t w v n : ℕ) → word S t ≡ Some w → (n ≡ 0 → ⊥) → falls_through (instruction w) ≡ true → ready_word S (next_word t) ≡ Some v → units S t n ≡ addition (unit_key t) (Code w) ∷ units S (next_word t) (n - 1)
  unfolding units
  units-more t w v zero here some falls h = absurd (some refl)
  units-more t w v (suc n) here some falls h =
      one_unit t w (word_falls (word S t) && is_ready S (next_word t)) (run S (next_word t) (suc n)) here
      ∙ ap (λ b. addition (unit_key t) (Code w) ∷ filter_map (code_addition S) (cond b (run S (next_word t) (suc n)) []))
      (and_from (word_falls (word S t)) (is_ready S (next_word t)) (ap word_falls here ∙ falls) (is_going (openable S (next_word t)) (decodes (word S (next_word t))) (word S (next_word t)) v h))
      ∙ (let e : n ≡ suc n - 1 = omega arith in ap (λ m. addition (unit_key t) (Code w) ∷ filter_map (code_addition S) (run S (next_word t) (suc m))) e)

  -- ---- a start
  by_word : {A : Type 0} (f : Option ℕ → A) (o : Option ℕ) (g : A) → ((w : ℕ) → f (Some w) ≡ g) → f (code_word o) ≡ cond (decodes o) g (f None)
  by_word f None g e = refl
  by_word f (Some w) g e = elim (is_some (instruction w)) as (λ b. f (cond b (Some w) None) ≡ cond b g (f None)) [ true ↦ e w | false ↦ refl ]

  same_decides : (t : ℕ) → is_deciding S t ≡ decides S t
  unfolding is_deciding
  same_decides t = ap (λ b. openable S t && b) (by_word (coded_decides S t) (word S t) true (λ w. refl) ∙ as_or (decodes (word S t)) (is_none (cell_at S (error_key t))))
    where
      as_or : (a b : Bool) → cond a true b ≡ (a || b)
      as_or true b = refl
      as_or false b = refl

  picked : (a d m : Bool) (us bs : List Change) → (a && (d || m)) ≡ true → cond a (cond d us (cond m bs [])) [] ≡ cond d us bs
  picked false d m us bs h = absurd (false≢true h)
  picked true true m us bs h = refl
  picked true false true us bs h = refl
  picked true false false us bs h = absurd (false≢true h)

  unpicked : (a d m : Bool) (us bs : List Change) → (a && (d || m)) ≡ false → cond a (cond d us (cond m bs [])) [] ≡ []
  unpicked false d m us bs h = refl
  unpicked true true m us bs h = absurd (false≢true (sym h))
  unpicked true false true us bs h = absurd (false≢true (sym h))
  unpicked true false false us bs h = refl

  abbrev bookmark : ℕ → List Change
  bookmark t = addition (error_key t) (Bookmark bad_instruction) ∷ []

  by_tests : (t : ℕ) → decided S t ≡ cond (openable S t) (cond (decodes (word S t)) (units S t 255) (cond (is_none (cell_at S (error_key t))) (bookmark t) [])) []
  unfolding decided
  by_tests t = ap (λ cs. cond (openable S t) cs []) (by_word (coded S t) (word S t) (units S t 255) (λ w. refl))

  decided-yes : (t : ℕ) → decides S t ≡ true → decided S t ≡ start_changes S t
  unfolding units
  decided-yes t h = by_tests t ∙ picked (openable S t) (decodes (word S t)) (is_none (cell_at S (error_key t))) (units S t 255) (bookmark t) h

  pub decided-passed : (t : ℕ) → is_deciding S t ≡ false → decided S t ≡ []
  decided-passed t h = by_tests t ∙ unpicked (openable S t) (decodes (word S t)) (is_none (cell_at S (error_key t))) (units S t 255) (bookmark t) (sym (same_decides t) ∙ h)

  pub first-passed : (t : ℕ) (ts : List ℕ) → is_deciding S t ≡ false → first_decided S (t ∷ ts) ≡ first_decided S ts
  unfolding first_decided
  first-passed t ts h = ap (λ b. flow_changes S (cond b (Some t) (find (decides S) ts))) (sym (same_decides t) ∙ h)

  pub first-deciding : (t : ℕ) (ts : List ℕ) → is_deciding S t ≡ true → first_decided S (t ∷ ts) ≡ decided S t
  unfolding first_decided
  first-deciding t ts h =
      let yes_so = sym (same_decides t) ∙ h in
      ap (λ b. flow_changes S (cond b (Some t) (find (decides S) ts))) yes_so ∙ sym (decided-yes t yes_so)

  asked : (a d m : Bool) (os es rs more : List Ask) (q : Ask) → (a && (d || m)) ≡ true → (os ++ only_if a (q ∷ only_if (not d) es)) ++ cond (a && (d || m)) (only_if d rs) more ≡ os ++ only_if a (q ∷ cond d rs es)
  asked false d m os es rs more q h = absurd (false≢true h)
  asked true true m os es rs more q h = append-assoc os (q ∷ []) rs
  asked true false true os es rs more q h = append-nil (os ++ (q ∷ es))
  asked true false false os es rs more q h = absurd (false≢true h)

  asked_on : (a d m : Bool) (os es rs more : List Ask) (q : Ask) → (a && (d || m)) ≡ false → (os ++ only_if a (q ∷ only_if (not d) es)) ++ cond (a && (d || m)) (only_if d rs) more ≡ (os ++ only_if a (q ∷ cond d rs es)) ++ more
  asked_on false d m os es rs more q h = refl
  asked_on true true m os es rs more q h = absurd (false≢true (sym h))
  asked_on true false true os es rs more q h = absurd (false≢true (sym h))
  asked_on true false false os es rs more q h = refl

  asks_by_tests : (t : ℕ) → decided_asks S t ≡ openable_asks S t ++ only_if (openable S t) (ask.Bytes t 4 ∷ cond (decodes (word S t)) (run_asks S t 255) (ask.Cell (error_key t) ∷ []))
  unfolding decided_asks behind_asks
  asks_by_tests t = ap (λ qs. openable_asks S t ++ only_if (openable S t) (ask.Bytes t 4 ∷ qs)) (by_word (coded_asks S t) (word S t) (run_asks S t 255) (λ w. refl))

  pub asks-passed : (t : ℕ) (ts : List ℕ) → is_deciding S t ≡ false → first_asks S (t ∷ ts) ≡ decided_asks S t ++ first_asks S ts
  unfolding first_asks
  asks-passed t ts h =
      asked_on (openable S t) (decodes (word S t)) (is_none (cell_at S (error_key t))) (openable_asks S t) (ask.Cell (error_key t) ∷ []) (run_asks S t 255) (starts_asks S ts) (ask.Bytes t 4) (sym (same_decides t) ∙ h)
      ∙ ap (λ qs. qs ++ starts_asks S ts) (sym (asks_by_tests t))

  pub asks-deciding : (t : ℕ) (ts : List ℕ) → is_deciding S t ≡ true → first_asks S (t ∷ ts) ≡ decided_asks S t
  unfolding first_asks
  asks-deciding t ts h =
      asked (openable S t) (decodes (word S t)) (is_none (cell_at S (error_key t))) (openable_asks S t) (ask.Cell (error_key t) ∷ []) (run_asks S t 255) (starts_asks S ts) (ask.Bytes t 4) (sym (same_decides t) ∙ h)
      ∙ sym (asks_by_tests t)

-- ---- no starts
pub none-decided : (S : Program) → first_decided S [] ≡ []
unfolding first_decided
none-decided S = refl

pub none-asked : (S : Program) → first_asks S [] ≡ []
unfolding first_asks
none-asked S = refl
