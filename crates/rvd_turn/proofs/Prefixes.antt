-- Prefixes of a list: two prefixes of one log, and the longer of them. Use it where a pass's seen list is compared with the story.
use Rattle.std.proofs.Common.{◌≡◌, ◌≤◌, Bool, true, false, cond, List, [], ◌∷◌, ◌++◌, length, refl, sym, ap, ◌∙◌, subst, arith, append_assoc, append-nil}
use Rattle.std.specs.Prelude.{ltb}
use Rattle.std.proofs.lemmas.Bool.{ltb-true, ltb-false}
use Rattle.rvd_turn.specs.Story.{longer, IsPrefix}

module _ {A : Type 0} where
  pub prefix_refl : (l : List A) → IsPrefix l l
  prefix_refl l = ([], append-nil l)

  pub prefix_more : (l m n : List A) → IsPrefix l m → IsPrefix l (m ++ n)
  prefix_more l m n p = (p.0 ++ n, sym (append_assoc l p.0 n) ∙ ap (λ z. z ++ n) p.1)

  pub prefix_trans : (l m n : List A) → IsPrefix l m → IsPrefix m n → IsPrefix l n
  prefix_trans l m n p q = subst (IsPrefix l) q.1 (prefix_more l m q.0 p)

  -- Of two prefixes of one list, the shorter is a prefix of the other.
  pub prefix_both : (v w log : List A) → IsPrefix v log → IsPrefix w log → length v ≤ length w → IsPrefix v w
  prefix_both [] w log p q h = (w, refl)
  prefix_both (x ∷ v) [] log p q h = absurd (omega arith)
  prefix_both (x ∷ v) (y ∷ w) [] p q h = let e = p.1 in absurd (cc)
  prefix_both (x ∷ v) (y ∷ w) (z ∷ log) p q h = let e = p.1 in let f = q.1 in
      let a : v ++ p.0 ≡ log = cc in let b : w ++ q.0 ≡ log = cc in
      let r = prefix_both v w log (p.0, a) (q.0, b) (omega arith) in let k = r.1 in (r.0, cc)

  longer_case : (v w log : List A) (b : Bool) → ltb (length v) (length w) ≡ b → IsPrefix v log → IsPrefix w log → IsPrefix v (cond b w v) × IsPrefix w (cond b w v) × IsPrefix (cond b w v) log
  longer_case v w log true e p q = (prefix_both v w log p q (let h = ltb-true (length v) (length w) e in omega arith), prefix_refl w, q)
  longer_case v w log false e p q = (prefix_refl v, prefix_both w v log q p (ltb-false (length v) (length w) e), p)

  -- Both are prefixes of the longer, which is a prefix of the list.
  pub longer_fits : (v w log : List A) → IsPrefix v log → IsPrefix w log → IsPrefix v (longer v w) × IsPrefix w (longer v w) × IsPrefix (longer v w) log
  longer_fits v w log p q = longer_case v w log (ltb (length v) (length w)) refl p q
