-- The rule of strings and its asks by the parts that are asked for in turn: `unread_changes` and `unread_asks` where nothing
-- refers to t, `read_changes` and `whole_asks` where something does, and `one_reads`, `two_reads` and `three_reads` for the
-- reads that are gathered.
use Rattle.std.proofs.Common.{◌≡◌, ℕ, Bool, true, false, cond, List, [], ◌++◌, length, None, refl, sym, ap, ◌∙◌}
use Rattle.std.specs.Prelude.{nat_le}
use Rattle.std.proofs.lemmas.Bool.{leb-false}
use Rattle.std.proofs.lemmas.List.{append-nil, append_assoc}
use Rattle.rvd_fact.specs.Program.{Program}
use Rattle.rvd_ask.specs.declared.answers.Answer.{Answer}
use Rattle.rvd_ask.specs.declared.asks.Ask.{Ask}
use Rattle.rvd_ask.specs.Answers.{only_if, told}
use Rattle.rvd_ask.specs.Strings.{byte_asks, is_read_at, string_asks, string_changes, string_len, strings_asks, strings_rule, tail, unit_asks}
use Rattle.rvd_ask.proofs.Proposing.{told-first}
use Rattle.rvd_an_strings.specs.Parts.{read_asks, room_asks, text_asks}
use Rattle.rvd_an_strings.proofs.Strings.{no_room}

pub unread_changes : (S : Program) (t : ℕ) → is_read_at S t ≡ false → strings_rule S t ≡ []
unfolding strings_rule
unread_changes S t h = ap (λ b. cond b (string_changes S t (string_len S t)) []) h

pub read_changes : (S : Program) (t : ℕ) → is_read_at S t ≡ true → strings_rule S t ≡ string_changes S t (string_len S t)
unfolding strings_rule
read_changes S t h = ap (λ b. cond b (string_changes S t (string_len S t)) []) h

pub unread_asks : (S : Program) (t : ℕ) → is_read_at S t ≡ false → strings_asks S t ≡ read_asks S t
unfolding strings_asks
unread_asks S t h = ap (λ b. read_asks S t ++ only_if b (string_asks S t)) h ∙ append-nil (read_asks S t)

-- the bytes and the unit are asked for where there is room
in_turn : (S : Program) (t : ℕ) (b : Bool) → nat_le 6 (length (tail S t)) ≡ b
    → room_asks S t ++ only_if b (byte_asks t 255 (tail S t) ++ unit_asks S t (string_len S t)) ≡ (room_asks S t ++ only_if b (byte_asks t 255 (tail S t))) ++ unit_asks S t (string_len S t)
in_turn S t true h = sym (append_assoc (room_asks S t) (byte_asks t 255 (tail S t)) (unit_asks S t (string_len S t)))
in_turn S t false h =
    let none : string_len S t ≡ None = no_room S t (leb-false 6 (length (tail S t)) h) in
    sym (ap (λ o. (room_asks S t ++ []) ++ unit_asks S t o) none ∙ append-nil (room_asks S t ++ []))

pub string_parts : (S : Program) (t : ℕ) → string_asks S t ≡ text_asks S t ++ unit_asks S t (string_len S t)
string_parts S t = in_turn S t (nat_le 6 (length (tail S t))) refl

pub whole_asks : (S : Program) (t : ℕ) → is_read_at S t ≡ true → strings_asks S t ≡ read_asks S t ++ (text_asks S t ++ unit_asks S t (string_len S t))
unfolding strings_asks
whole_asks S t h = ap (λ b. read_asks S t ++ only_if b (string_asks S t)) h ∙ ap (λ qs. read_asks S t ++ qs) (string_parts S t)

-- ---- reads that are gathered in turn
module _ (P : Program) (t : ℕ) (start first : List (Ask × Answer)) (heard_first : first ≡ start ++ told P (read_asks P t)) where
  pub one_reads : is_read_at P t ≡ false → first ≡ start ++ told P (strings_asks P t)
  one_reads h = heard_first ∙ ap (λ qs. start ++ told P qs) (sym (unread_asks P t h))

  module _ (is_so : is_read_at P t ≡ true) (second : List (Ask × Answer)) (heard_second : second ≡ first ++ told P (text_asks P t)) where
    two_so_far : second ≡ start ++ told P (read_asks P t ++ text_asks P t)
    two_so_far = heard_second ∙ ap (λ rs. rs ++ told P (text_asks P t)) heard_first ∙ told-first P start (read_asks P t) (text_asks P t) (read_asks P t ++ text_asks P t) refl

    pub three_reads : (third : List (Ask × Answer)) → third ≡ second ++ told P (unit_asks P t (string_len P t)) → third ≡ start ++ told P (strings_asks P t)
    three_reads third heard_third =
        let asked = unit_asks P t (string_len P t) in
        heard_third ∙ ap (λ rs. rs ++ told P asked) two_so_far
        ∙ told-first P start (read_asks P t ++ text_asks P t) asked (strings_asks P t)
        (whole_asks P t is_so ∙ sym (append_assoc (read_asks P t) (text_asks P t) asked))

    pub two_reads : string_len P t ≡ None → second ≡ start ++ told P (strings_asks P t)
    two_reads none = three_reads second (sym (ap (λ o. second ++ told P (unit_asks P t o)) none ∙ append-nil second))
