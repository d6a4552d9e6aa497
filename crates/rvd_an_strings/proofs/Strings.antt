-- How long a string is. Use `string_is` for its length by that of its text, and `string_low` for its bounds.
use Rattle.std.proofs.Common.{◌≡◌, ℕ, ◌+◌, ◌<◌, ◌≤◌, cond, length, take, Option, Some, None, refl, sym, subst, arith}
use Rattle.std.specs.Prelude.{nat_le}
use Rattle.std.proofs.lemmas.Bool.{cond_both, leb-true}
use Rattle.std.proofs.lemmas.List.{length-take}
use Rattle.rvd_fact.specs.Program.{Program}
use Rattle.rvd_ask.specs.Strings.{string_len, tail, text_len}
use Rattle.rvd_an_strings.proofs.TextBytes.{Shorter, before-shorter, text_len-before}

-- the length of a string with its zero, by that of its text
abbrev pub with_zero : Option ℕ → Option ℕ
with_zero None = None
with_zero (Some len) = cond (nat_le 5 len) (Some (len + 1)) None

pub string_is : (S : Program) (t : ℕ) (o : Option ℕ) → text_len 255 (tail S t) ≡ o → string_len S t ≡ with_zero o
string_is S t None h = rw h
string_is S t (Some len) h = rw h

-- a text ends within the first 256 bytes from t on
pub text_shorter : (S : Program) (t : ℕ) → Shorter (length (take 256 (tail S t))) (text_len 255 (tail S t))
text_shorter S t = subst (Shorter (length (take 256 (tail S t)))) (sym (text_len-before 255 (tail S t))) (before-shorter (take 256 (tail S t)))

-- the bounds of a string's length with its zero
abbrev pub Bounded : ℕ → Option ℕ → Type 0
Bounded room None = Unit {0}
Bounded room (Some n) = (6 ≤ n) × (n ≤ 256) × (n ≤ room)

bounded_by : (room m : ℕ) (o : Option ℕ) → m ≤ 256 → m ≤ room → Shorter m o → Bounded room (with_zero o)
bounded_by room m None short low h = tt
bounded_by room m (Some len) short low h =
    cond_both (nat_le 5 len) (Some (len + 1)) None (Bounded room)
    (λ long. let least : 5 ≤ len = leb-true 5 len long in (omega (arith, least), omega (arith, short, h), omega (arith, low, h)))
    (λ other. tt)

pub string_low : (S : Program) (t : ℕ) → Bounded (length (tail S t)) (string_len S t)
string_low S t =
    let size = length-take 256 (tail S t) in
    subst (Bounded (length (tail S t))) (sym (string_is S t (text_len 255 (tail S t)) refl))
    (bounded_by (length (tail S t)) (length (take 256 (tail S t))) (text_len 255 (tail S t)) (omega (arith, size)) (omega (arith, size)) (text_shorter S t))

none_in : (room : ℕ) (o : Option ℕ) → Bounded room o → room < 6 → o ≡ None
none_in room None h small = refl
none_in room (Some n) h small = absurd (omega (arith, h, small))

-- no string has room in fewer than six bytes
pub no_room : (S : Program) (t : ℕ) → length (tail S t) < 6 → string_len S t ≡ None
no_room S t small = none_in (length (tail S t)) (string_len S t) (string_low S t) small
