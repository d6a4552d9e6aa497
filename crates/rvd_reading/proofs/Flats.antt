-- Parts of a text one after the other, and what stands behind them.
use Rattle.std.proofs.Common.{◌≡◌, ℕ, List, ◌++◌, append_assoc}

pub flat3 : (a b c rest : List ℕ) → ((a ++ b) ++ c) ++ rest ≡ a ++ (b ++ (c ++ rest))
flat3 a b c rest = simp append_assoc

pub flat4 : (a b c d rest : List ℕ) → (((a ++ b) ++ c) ++ d) ++ rest ≡ a ++ (b ++ (c ++ (d ++ rest)))
flat4 a b c d rest = simp append_assoc

pub flat5 : (a b c d e rest : List ℕ) → ((((a ++ b) ++ c) ++ d) ++ e) ++ rest ≡ a ++ (b ++ (c ++ (d ++ (e ++ rest))))
flat5 a b c d e rest = simp append_assoc

pub flat6 : (a b c d e f rest : List ℕ) → (((((a ++ b) ++ c) ++ d) ++ e) ++ f) ++ rest ≡ a ++ (b ++ (c ++ (d ++ (e ++ (f ++ rest)))))
flat6 a b c d e f rest = simp append_assoc
