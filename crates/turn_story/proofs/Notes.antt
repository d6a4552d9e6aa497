-- What a writer gives back goes on from number it took: with its note, or with none.
use Rattle.std.proofs.Common.{◌≡◌, ℕ, List, [], ◌∷◌, ◌++◌, Result, Ok, Err, MatchResult, sym, ap, ◌∙◌, append-nil}
use Rattle.std.proofs.lemmas.List.Elements.{All-nil, All-cons}
use Rattle.rvd_turn.specs.Story.{Continues}
use Rattle.turn_story.specs.declared.story.Note.{Note}
use Rattle.turn_story.specs.Written.{Written, note}

pub goes_on : {A B : Type 0} (r : Result A B) (old new : Written) (seen : List Note) (n owner number : ℕ) → old.notes ≡ seen → owner ≡ n
    → MatchResult r (λ _. new ≡ record old { notes = old.notes ++ note owner number ∷ [] }) (λ _. new ≡ old) → Continues (λ (e : Note). e.owner) n seen new.notes
goes_on (Ok x) old new seen n owner number e is h = (note owner number ∷ [], ap (λ (d : Written). d.notes) h ∙ ap (λ (l : List Note). l ++ note owner number ∷ []) e, All-cons (λ (e : Note). e.owner ≡ n) (note owner number) [] is (All-nil (λ (e : Note). e.owner ≡ n)))
goes_on (Err x) old new seen n owner number e is h = ([], ap (λ (d : Written). d.notes) h ∙ e ∙ sym (append-nil seen), All-nil (λ (e : Note). e.owner ≡ n))

pub goes_on_same : (log seen : List Note) (n : ℕ) → log ≡ seen → Continues (λ (e : Note). e.owner) n seen log
goes_on_same log seen n e = ([], e ∙ sym (append-nil seen), All-nil (λ (e : Note). e.owner ≡ n))
