-- The bytes of a text. Use `text_test` where each element of a list is known to be a byte: then the length alone
-- tells whether it is a text.
use Rattle.std.proofs.Common.{◌≡◌, ℕ, suc, ◌<◌, Bool, true, false, ◌&&◌, List, [], ◌∷◌, length, get_or, refl, sym, ap, ◌∙◌}
use Rattle.std.specs.Prelude.{nat_le}
use Rattle.std.proofs.lemmas.Bool.{and_from, lt-ltb}
use Rattle.rvd_fact.specs.Valid.{are_bytes, is_text}

bytes_test : (bs : List ℕ) → ((k : ℕ) → get_or bs k 0 < 256) → are_bytes bs ≡ true
bytes_test [] h = refl
bytes_test (b ∷ bs) h = and_from _ _ (lt-ltb b 256 (h 0)) (bytes_test bs (λ k. h (suc k)))

and_true : (x : Bool) → x ≡ (x && true)
and_true true = refl
and_true false = refl

pub text_test : (bs : List ℕ) → ((k : ℕ) → get_or bs k 0 < 256) → nat_le (length bs) 1000 ≡ is_text bs
text_test bs h = and_true _ ∙ ap (λ b. nat_le (length bs) 1000 && b) (sym (bytes_test bs h))
