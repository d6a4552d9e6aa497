-- Programs that answer alike to what the rule of strings asks on one of them have the same change by it: `local`.
use Rattle.std.proofs.Common.{◌≡◌, ℕ, suc, ◌+◌, ◌<◌, Bool, true, false, cond, not, ◌||◌, List, [], ◌∷◌, length, get_or, take, Option, Some, None, refl, sym, ap, ◌∙◌, subst, inl, inr, arith}
use Rattle.std.specs.Prelude.{is_none, nat_le, ◌==◌}
use Rattle.std.specs.Option.{option_map}
use Rattle.std.proofs.lemmas.Bool.{cases_Bool, leb-false}
use Rattle.std.proofs.lemmas.List.{get_or-take, length-take}
use Rattle.rvd_fact.specs.declared.cells.Cell.{Cell}
use Rattle.rvd_fact.specs.declared.values.Form.TheVariants.{Str}
use Rattle.rvd_fact.specs.declared.values.RefClass.TheVariants.{Datum, Read}
use Rattle.rvd_fact.specs.declared.values.Value.{Value}
use Rattle.rvd_fact.specs.declared.values.Value.TheVariants.{Block, Mark, Func, Body, Symbol, Comment, Bookmark, Code, Plain, Ref, Gone}
use Rattle.rvd_fact.specs.Program.{Program, cell_at}
use Rattle.rvd_fact.specs.Memory.{block, block_key, bytes, has_ref_to, unit_key}
use Rattle.rvd_fact.specs.Valid.{IsValid}
use Rattle.rvd_ask.specs.declared.asks.Analyzer.TheVariants.{Strings}
use Rattle.rvd_ask.specs.declared.asks.Ask.TheVariants as ask
use Rattle.rvd_ask.specs.Answers.{Hold, only_if, plain_cell, plain_value, told}
use Rattle.rvd_ask.specs.Flow.{block_asks, free_asks, is_free}
use Rattle.rvd_ask.specs.Places.{addition}
use Rattle.rvd_ask.specs.Rules.{asks, rule}
use Rattle.rvd_ask.specs.Strings.{byte_asks, is_read_at, is_text_byte, string_changes, string_len, strings_asks, strings_rule, tail, text_len, unit_asks}
use Rattle.rvd_ask.specs.Wake.{item}
use Rattle.rvd_ask.proofs.FreeBytes.{free_local}
use Rattle.rvd_ask.proofs.Plain.{is_none-plain}
use Rattle.rvd_ask.proofs.Proposing.{IsLocal}
use Rattle.rvd_ask.proofs.Told.{and_then, hold_left, hold_right, same_at, same_bytes, same_test, same_yes, when_true, or_then}
use Rattle.rvd_an_strings.specs.Parts.{block_room, cell_room, read_asks, room_asks, text_asks, value_room}
use Rattle.rvd_an_strings.proofs.Rooms.{byte_stands, length-tail}
use Rattle.rvd_an_strings.proofs.Strings.{no_room, string_is}
use Rattle.rvd_an_strings.proofs.TextBytes.{byte_asks-listed, listed_asks, text_before, text_len-before}
use Rattle.rvd_an_strings.proofs.Wholes.{read_changes, unread_changes, whole_asks, unread_asks}

-- ---- how much room a block has is seen without its bytes
value_room-plain : (start t : ℕ) (v : Value) → value_room start t (plain_value v) ≡ value_room start t v
value_room-plain start t (Block len perm None) = refl
value_room-plain start t (Block len perm (Some all)) = refl
value_room-plain start t Mark = refl
value_room-plain start t Func = refl
value_room-plain start t (Body ranges) = refl
value_room-plain start t (Symbol name) = refl
value_room-plain start t (Comment text) = refl
value_room-plain start t (Bookmark text) = refl
value_room-plain start t (Code w) = refl
value_room-plain start t (Plain f) = refl
value_room-plain start t (Ref to class) = refl
value_room-plain start t Gone = refl

cell_room-plain : (start t : ℕ) (o : Option Cell) → cell_room start t (plain_cell o) ≡ cell_room start t o
cell_room-plain start t None = refl
cell_room-plain start t (Some c) = value_room-plain start t c.value

-- ---- bytes that are asked for one by one
-- each byte of a list is what the program answers
abbrev Stand : Program → ℕ → List ℕ → Type 0
Stand S t xs = (j : ℕ) → j < length xs → bytes S (t + j) 1 ≡ Some (get_or xs j 0 ∷ [])

stand_behind : (S : Program) (t x : ℕ) (xs : List ℕ) → Stand S t (x ∷ xs) → Stand S (t + 1) xs
stand_behind S t x xs h j low = let place : t + 1 + j ≡ t + suc j = omega arith in ap (λ a. bytes S a 1) place ∙ h (suc j) (omega (arith, low))

stand_first : (S : Program) (t x : ℕ) (xs : List ℕ) → Stand S t (x ∷ xs) → bytes S t 1 ≡ Some (x ∷ [])
stand_first S t x xs h = let place : t ≡ t + 0 = omega arith in ap (λ a. bytes S a 1) place ∙ h 0 (omega arith)

choose : (b : Bool) (o p : Option ℕ) → (b ≡ true → o ≡ p) → cond b o None ≡ cond b p None
choose true o p h = h refl
choose false o p h = refl

text_same : (P S : Program) (t : ℕ) (xs ys : List ℕ) → length xs ≡ length ys → Stand P t xs → Stand S t ys → Hold S (told P (listed_asks t xs)) → text_before xs ≡ text_before ys
text_same P S t [] [] size p s h = refl
text_same P S t [] (y ∷ ys) size p s h = absurd (omega (arith, size))
text_same P S t (x ∷ xs) [] size p s h = absurd (omega (arith, size))
text_same P S t (x ∷ xs) (y ∷ ys) size p s h =
    let heard : bytes P t 1 ≡ bytes S t 1 = same_bytes (bytes P t 1) (bytes S t 1) h.0 in
    let both : Some (x ∷ []) ≡ Some (y ∷ []) = sym (stand_first P t x xs p) ∙ heard ∙ stand_first S t y ys s in
    let same : x ≡ y = cc in
    let behind = λ (is : is_text_byte x ≡ true). ap (option_map (λ len. len + 1)) (text_same P S (t + 1) xs ys (omega (arith, size)) (stand_behind P t x xs p) (stand_behind S t y ys s) (when_true P S (is_text_byte x) (listed_asks (t + 1) xs) is h.1)) in
    ap (cond (x == 0) (Some 0)) (choose (is_text_byte x) (option_map (λ len. len + 1) (text_before xs)) (option_map (λ len. len + 1) (text_before ys)) behind)
    ∙ (λ i. cond (same i == 0) (Some 0) (cond (is_text_byte (same i)) (option_map (λ len. len + 1) (text_before ys)) None))

window_stands : (S : Program) (valid : IsValid S) (t : ℕ) → Stand S t (take 256 (tail S t))
window_stands S valid t j low =
    let size = length-take 256 (tail S t) in
    byte_stands S valid t j (omega (arith, size, low)) ∙ ap (λ b. Some (b ∷ [])) (sym (get_or-take 256 (tail S t) j 0 (omega (arith, size, low))))

module _ (P S : Program) (t : ℕ) where
  read_local : Hold S (told P (read_asks P t)) → is_read_at P t ≡ is_read_at S t
  read_local h =
      or_then (has_ref_to P t Datum) (has_ref_to S t Datum) (has_ref_to P t Read) (has_ref_to S t Read) (same_yes (has_ref_to P t Datum) (has_ref_to S t Datum) h.0)
      (λ other. same_yes (has_ref_to P t Read) (has_ref_to S t Read) (when_true P S (not (has_ref_to P t Datum)) (ask.To t Read ∷ []) (ap not other) h.1).0)

  unit_local : (o : Option ℕ) → Hold S (told P (unit_asks P t o)) → string_changes P t o ≡ string_changes S t o
  unit_local None h = refl
  unit_local (Some len) h =
      ap (λ b. cond b (addition (unit_key t) (Plain (Str len)) ∷ []) [])
      (and_then (is_free P t len) (is_free S t len) (is_none (cell_at P (unit_key t))) (is_none (cell_at S (unit_key t)))
      (free_local P S len t (hold_left P S (free_asks P t len) _ h))
      (λ free. same_test is_none is_none-plain (cell_at P (unit_key t)) (cell_at S (unit_key t))
      (when_true P S (is_free P t len) (ask.Cell (unit_key t) ∷ []) free (hold_right P S (free_asks P t len) _ h)).0))

  block_local : (o : Option ℕ) → Hold S (told P (block_asks o)) → block_room P t o ≡ block_room S t o
  block_local None h = refl
  block_local (Some start) h = same_test (cell_room start t) (cell_room-plain start t) (cell_at P (block_key start)) (cell_at S (block_key start)) h.0

  module _ (was : IsValid P) (is : IsValid S) where
    same_room : Hold S (told P (room_asks P t)) → length (tail P t) ≡ length (tail S t)
    same_room h =
        length-tail P was t ∙ block_local (block P t) h.1 ∙ ap (block_room S t) (same_at (block P t) (block S t) h.0) ∙ sym (length-tail S is t)

    len_local : (b : Bool) → nat_le 6 (length (tail P t)) ≡ b → length (tail P t) ≡ length (tail S t) → Hold S (told P (only_if b (byte_asks t 255 (tail P t)))) → string_len P t ≡ string_len S t
    len_local true long same h =
        let size_P = length-take 256 (tail P t) in
        let size_S = length-take 256 (tail S t) in
        let text : text_before (take 256 (tail P t)) ≡ text_before (take 256 (tail S t)) =
        text_same P S t (take 256 (tail P t)) (take 256 (tail S t)) (omega (arith, size_P, size_S, same)) (window_stands P was t) (window_stands S is t)
        (subst (λ qs. Hold S (told P qs)) (byte_asks-listed t 255 (tail P t)) h) in
        let len : text_len 255 (tail P t) ≡ text_len 255 (tail S t) = text_len-before 255 (tail P t) ∙ text ∙ sym (text_len-before 255 (tail S t)) in
        string_is P t (text_len 255 (tail S t)) len ∙ sym (string_is S t (text_len 255 (tail S t)) refl)
    len_local false short same h =
        let small = leb-false 6 (length (tail P t)) short in
        no_room P t small ∙ sym (no_room S t (omega (arith, small, same)))

    text_local : Hold S (told P (text_asks P t)) → string_len P t ≡ string_len S t
    text_local h =
        let same = same_room (hold_left P S (room_asks P t) _ h) in
        len_local (nat_le 6 (length (tail P t))) refl same (hold_right P S (room_asks P t) _ h)

    read_rule : is_read_at P t ≡ true → Hold S (told P (strings_asks P t)) → strings_rule S t ≡ strings_rule P t
    read_rule is_so h =
        let asked = subst (λ qs. Hold S (told P qs)) (whole_asks P t is_so) h in
        let read : is_read_at P t ≡ is_read_at S t = read_local (hold_left P S (read_asks P t) _ asked) in
        let further = hold_right P S (read_asks P t) _ asked in
        let len : string_len P t ≡ string_len S t = text_local (hold_left P S (text_asks P t) _ further) in
        read_changes S t (sym read ∙ is_so)
        ∙ ap (string_changes S t) (sym len)
        ∙ sym (unit_local (string_len P t) (hold_right P S (text_asks P t) _ further))
        ∙ sym (read_changes P t is_so)

  unread_rule : is_read_at P t ≡ false → Hold S (told P (strings_asks P t)) → strings_rule S t ≡ strings_rule P t
  unread_rule not_so h =
      let read : is_read_at P t ≡ is_read_at S t = read_local (subst (λ qs. Hold S (told P qs)) (unread_asks P t not_so) h) in
      unread_changes S t (sym read ∙ not_so) ∙ sym (unread_changes P t not_so)

-- where something refers to t, the program has to be valid
pub local : (P : Program) (t : ℕ) → (is_read_at P t ≡ true → IsValid P) → IsLocal P (item Strings t)
unfolding rule asks
local P t valid S is h = elim (cases_Bool (is_read_at P t)) [
  | inl so ↦ read_rule P S t (valid so) is so h
  | inr not_so ↦ unread_rule P S t not_so h
]
