-- A list of texts behind references, read at a place.
use Rattle.std.proofs.Common.{◌≡◌, ℕ, zero, suc, ◌<◌, List, [], ◌∷◌, length, get_or, map, Bor, refl, arith}

-- the text at a place is that of the list of texts
pub get_or-texts : (xs : List (Bor (List ℕ))) (i : ℕ) (d : Bor (List ℕ)) → i < length xs → (get_or xs i d).now ≡ get_or (map (λ (x : Bor (List ℕ)). x.now) xs) i []
get_or-texts [] i d h = absurd (omega arith)
get_or-texts (x ∷ xs) zero d h = refl
get_or-texts (x ∷ xs) (suc i) d h = get_or-texts xs i d (omega arith)
