-- Texts of at most 1,000 bytes. Use `text_is` for a text that is made of a vector of bytes.
use Rattle.std.proofs.Common.{◌≡◌, ℕ, ◌<◌, ◌≤◌, true, List, length, get_or, Result, Ok, Err, IfOk, sym, ap, ◌∙◌, inl, inr, arith}
use Rattle.std.proofs.lemmas.Bool.{cases_lt, le-leb}
use Rattle.std.proofs.lemmas.List.{get_or_past}
use Rattle.rvd_fact.specs.Valid.{is_text}
use Rattle.rvd_event.proofs.Texts.{text_test}

-- past the end the default stands
fit_all : (bytes : List ℕ) → ((k d : ℕ) → k < length bytes → get_or bytes k d < 256) → (k : ℕ) → get_or bytes k 0 < 256
fit_all bytes fit k = elim (cases_lt k (length bytes)) [
  | inl inside ↦ fit k 0 inside
  | inr past ↦ rw (get_or_past bytes k 0 past) (omega arith)
]

pub text_is : {E : Type 0} (r : Result (List ℕ) E) (bytes : List ℕ) → ((k d : ℕ) → k < length bytes → get_or bytes k d < 256) → length bytes ≤ 1000 → IfOk r (λ text. text ≡ bytes) → IfOk r (λ text. is_text text ≡ true)
text_is (Ok text) bytes fit short same = ap is_text same ∙ sym (text_test bytes (fit_all bytes fit)) ∙ le-leb (length bytes) 1000 short
text_is (Err e) bytes fit short same = tt
