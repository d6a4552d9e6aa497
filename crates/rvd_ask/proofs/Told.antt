-- Asks with a program's answers. Use `hold-told`, `are_reads-told` and `are_asks-told` for what such reads are, and
-- `same_asks` for reads whose asks are a list; `hold_left`, `hold_right` and `when_true` to take reads apart that hold of
-- another program; and `same_at`, `same_cell`, `same_yes`, `same_bytes`, `same_refs` and `same_test` for what that program
-- then answers.
use Rattle.std.proofs.Common.{◌≡◌, ℕ, ◌+◌, ◌-◌, ◌≤◌, Bool, true, false, ◌&&◌, List, [], ◌∷◌, ◌++◌, length, map, take, drop, Option, Some, None, refl, sym, ap, ◌∙◌, subst, arith, ◌||◌}
use Rattle.std.specs.Prelude.{Contains, find, nat_lt, nat_le, ◌==◌}
use Rattle.std.specs.Option.{option_and_then}
use Rattle.std.proofs.lemmas.Bool.{and_from, and_parts, cond_both, eq-eqb, leb-true}
use Rattle.std.proofs.lemmas.List.{length-drop, length-take-le}
use Rattle.rvd_fact.specs.declared.keys.Key.{Key}
use Rattle.rvd_fact.specs.declared.cells.Cell.{Cell}
use Rattle.rvd_fact.specs.declared.values.RefClass.{RefClass}
use Rattle.rvd_fact.specs.declared.values.Value.{Value}
use Rattle.rvd_fact.specs.declared.values.Value.TheVariants.{Block, Mark, Func, Body, Symbol, Comment, Bookmark, Code, Plain, Ref, Gone}
use Rattle.rvd_fact.specs.Program.{Program}
use Rattle.rvd_fact.specs.Memory.{bytes_in, surrounds, block_len}
use Rattle.rvd_ask.specs.declared.asks.Ask.{Ask}
use Rattle.rvd_ask.specs.declared.asks.Ask.TheVariants as ask
use Rattle.rvd_ask.specs.declared.answers.Answer.{Answer}
use Rattle.rvd_ask.specs.declared.answers.Answer.TheVariants as answer
use Rattle.rvd_ask.specs.Answers.{ans, plain_cell, told, only_if, Hold, IsSame}
use Rattle.rvd_ask.specs.Forms.{has_form}
use Rattle.rvd_ask.specs.Promise.{are_reads, AreAsks}

pub asks-told : (S : Program) (qs : List Ask) → map (λ r. r.0) (told S qs) ≡ qs
asks-told S [] = refl
asks-told S (q ∷ qs) = ap (λ ps. q ∷ ps) (asks-told S qs)

pub told-append : (S : Program) (ps qs : List Ask) → told S (ps ++ qs) ≡ told S ps ++ told S qs
told-append S [] qs = refl
told-append S (p ∷ ps) qs = ap (λ rs. (p, ans S p) ∷ rs) (told-append S ps qs)

-- they hold of the program
pub hold-told : (S : Program) (qs : List Ask) → Hold S (told S qs)
hold-told S [] = tt
hold-told S (q ∷ qs) = (refl, hold-told S qs)

-- reads that ask these in order ask just these
pub same_asks : (reads : List (Ask × Answer)) (qs : List Ask) → map (λ r. r.0) reads ≡ qs → AreAsks reads qs
same_asks reads qs same q = (subst (λ ps. Contains ps q) same, subst (λ ps. Contains ps q) (sym same))

-- they ask just these
pub are_asks-told : (S : Program) (qs : List Ask) → AreAsks (told S qs) qs
are_asks-told S qs = same_asks (told S qs) qs (asks-told S qs)

-- bytes are as many as are asked for
bytes_form : (start a n : ℕ) (v : Value) → start ≤ a → has_form (ask.Bytes a n) (answer.Bytes (bytes_in start a n v)) ≡ true
bytes_form start a n (Block len perm (Some all)) within =
    cond_both (nat_lt 0 n && nat_le (a + n) (start + length all)) (Some (take n (drop (a - start) all))) None (λ o. has_form (ask.Bytes a n) (answer.Bytes o) ≡ true)
    (λ h.
    let parts = and_parts (nat_lt 0 n) (nat_le (a + n) (start + length all)) h in
    let enough : n ≤ length (drop (a - start) all) = omega (arith, within, leb-true (a + n) (start + length all) parts.1, length-drop (a - start) all) in
    and_from (nat_lt 0 n) (length (take n (drop (a - start) all)) == n) parts.0 (eq-eqb (length (take n (drop (a - start) all))) n (length-take-le n (drop (a - start) all) enough)))
    (λ h. refl)
bytes_form start a n (Block len perm None) within = refl
bytes_form start a n Mark within = refl
bytes_form start a n Func within = refl
bytes_form start a n (Body ranges) within = refl
bytes_form start a n (Symbol name) within = refl
bytes_form start a n (Comment text) within = refl
bytes_form start a n (Bookmark text) within = refl
bytes_form start a n (Code w) within = refl
bytes_form start a n (Plain f) within = refl
bytes_form start a n (Ref to class) within = refl
bytes_form start a n Gone within = refl

abbrev found_bytes : ℕ → ℕ → Option (Key × Cell) → Option (List ℕ)
found_bytes a n o = option_and_then (λ (e : Key × Cell). bytes_in e.0.at a n e.1.value) o

bytes_form_in : (S : Program) (a n : ℕ) → has_form (ask.Bytes a n) (answer.Bytes (found_bytes a n (find (surrounds a) S))) ≡ true
bytes_form_in [] a n = refl
bytes_form_in (e ∷ es) a n =
    cond_both (surrounds a e) (Some e) (find (surrounds a) es) (λ o. has_form (ask.Bytes a n) (answer.Bytes (found_bytes a n o)) ≡ true)
    (λ h. bytes_form e.0.at a n e.1.value (leb-true e.0.at a (and_parts (nat_le e.0.at a) (nat_lt a (e.0.at + block_len e.1.value)) h).0))
    (λ h. bytes_form_in es a n)

-- an answer has the form of its ask
pub has_form-ans : (S : Program) (q : Ask) → has_form q (ans S q) ≡ true
has_form-ans S (ask.Cell k) = refl
has_form-ans S (ask.Cover a) = refl
has_form-ans S (ask.Block a) = refl
has_form-ans S (ask.Bytes a n) = bytes_form_in S a n
has_form-ans S (ask.To a class) = refl
has_form-ans S (ask.From a) = refl

pub are_reads-told : (S : Program) (qs : List Ask) → are_reads (told S qs) ≡ true
are_reads-told S [] = refl
are_reads-told S (q ∷ qs) = and_from (has_form q (ans S q)) (are_reads (told S qs)) (has_form-ans S q) (are_reads-told S qs)

-- reads of a program P that hold of another one, in parts
pub hold_left : (P S : Program) (xs ys : List Ask) → Hold S (told P (xs ++ ys)) → Hold S (told P xs)
hold_left P S [] ys h = tt
hold_left P S (x ∷ xs) ys h = (h.0, hold_left P S xs ys h.1)

pub hold_right : (P S : Program) (xs ys : List Ask) → Hold S (told P (xs ++ ys)) → Hold S (told P ys)
hold_right P S [] ys h = h
hold_right P S (x ∷ xs) ys h = hold_right P S xs ys h.1

-- the asks behind a test that passed
pub when_true : (P S : Program) (a : Bool) (qs : List Ask) → a ≡ true → Hold S (told P (only_if a qs)) → Hold S (told P qs)
when_true P S a qs e h = subst (λ b. Hold S (told P (only_if b qs))) e h

-- a second test counts only where the first passed
pub or_then : (a b x y : Bool) → a ≡ b → (a ≡ false → x ≡ y) → (a || x) ≡ (b || y)
or_then true b x y e h = ap (λ c. c || y) e
or_then false b x y e h = ap (λ z. false || z) (h refl) ∙ ap (λ c. c || y) e

pub and_then : (a b x y : Bool) → a ≡ b → (a ≡ true → x ≡ y) → (a && x) ≡ (b && y)
and_then true b x y e h = ap (λ c. c && x) e ∙ ap (λ z. b && z) (h refl)
and_then false b x y e h = ap (λ c. c && y) e

-- answers that are the same have the same parts
pub same_at : (a b : Option ℕ) → IsSame (answer.At a) (answer.At b) → a ≡ b
same_at a b h = cc

pub same_yes : (a b : Bool) → IsSame (answer.Yes a) (answer.Yes b) → a ≡ b
same_yes a b h = cc

pub same_bytes : (a b : Option (List ℕ)) → IsSame (answer.Bytes a) (answer.Bytes b) → a ≡ b
same_bytes a b h = cc

pub same_refs : (a b : List (ℕ × RefClass × ℕ)) → IsSame (answer.Refs a) (answer.Refs b) → a ≡ b
same_refs a b h = cc

pub same_cell : (a b : Option Cell) → IsSame (answer.Cell a) (answer.Cell b) → plain_cell a ≡ plain_cell b
same_cell a b h = cc

-- a test of a cell that doesn't look at a block's bytes
pub same_test : {A : Type 0} (f : Option Cell → A) → ((o : Option Cell) → f (plain_cell o) ≡ f o) → (a b : Option Cell) → IsSame (answer.Cell a) (answer.Cell b) → f a ≡ f b
same_test f plain a b h = sym (plain a) ∙ ap f (same_cell a b h) ∙ plain b
