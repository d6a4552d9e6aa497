-- The loop that asks for the bytes of a text one by one, at the byte t + d. Use `low_byte` and `place` for the byte, and the
-- others for the loop's goals.
use Rattle.std.proofs.Common.{◌≡◌, ℕ, ◌+◌, ◌<◌, ◌≤◌, true, false, List, [], ◌∷◌, ◌++◌, length, get_or, take, drop, Bool, Option, Some, None, sym, ap, ◌∙◌, arith}
use Rattle.std.specs.Prelude.{min, ◌==◌, nat_eq}
use Rattle.std.specs.Option.{option_eq, option_map, option_map_or}
use Rattle.std.proofs.lemmas.Bool.{eqb-true}
use Rattle.std.proofs.lemmas.List.{append-nil, get_or-take, length-take}
use Rattle.rvd_fact.specs.Program.{Program}
use Rattle.rvd_fact.specs.Memory.{byte_at}
use Rattle.rvd_fact.specs.Valid.{IsValid}
use Rattle.rvd_ask.specs.declared.answers.Answer.{Answer}
use Rattle.rvd_ask.specs.declared.asks.Ask.{Ask}
use Rattle.rvd_ask.specs.declared.asks.Ask.TheVariants as ask
use Rattle.rvd_ask.specs.Answers.{told}
use Rattle.rvd_ask.specs.Strings.{byte_asks, is_text_byte, tail, text_len}
use Rattle.rvd_ask.proofs.Proposing.{told-first}
use Rattle.rvd_an_strings.proofs.Rooms.{byte_stands, within}
use Rattle.rvd_an_strings.proofs.TextBytes.{asks-all, asks-end, asks-more, before-all, before-more, before-other, before-zero, byte_asks-listed, listed_asks, text_before, text_len-before, whole, zero_ends}

module _ (P : Program) (valid : IsValid P) (t room d : ℕ) (same : room ≡ length (tail P t)) where
  -- the first 256 bytes of the block from t on
  abbrev pub window : List ℕ
  window = take 256 (tail P t)

  -- the loop is done
  pub done_len : min room 256 ≤ d → whole d (drop d window) ≡ text_before window → None ≡ text_len 255 (tail P t)
  done_len high left =
      let size = length-take 256 (tail P t) in
      sym (before-all window d (omega (arith, size, same, high))) ∙ left ∙ sym (text_len-before 255 (tail P t))

  module _ (low : d < min room 256) where
    low_window : d < length window
    low_window = let size = length-take 256 (tail P t) in omega (arith, size, same, low)

    pub place : t + d < 4294967296
    place = let top = (within P valid t (omega (arith, same, low))).top in omega (arith, top, same, low)

    abbrev next : ℕ
    next = get_or window d 0

    pub low_byte : byte_at P (t + d) ≡ Some next
    low_byte =
        ap (option_map (λ bs. get_or bs 0 0)) (byte_stands P valid t d (omega (arith, same, low)))
        ∙ ap Some (sym (get_or-take 256 (tail P t) d 0 (omega (arith, low))))

    module _ (o : Option ℕ) (heard : o ≡ byte_at P (t + d)) where
      as_zero : (b : Bool) → b ≡ option_eq nat_eq o (Some 0) → (next == 0) ≡ b
      as_zero b h = sym (h ∙ ap (λ p. option_eq nat_eq p (Some 0)) (heard ∙ low_byte))

      as_text : (b : Bool) → b ≡ option_map_or is_text_byte o false → is_text_byte next ≡ b
      as_text b h = sym (h ∙ ap (λ p. option_map_or is_text_byte p false) (heard ∙ low_byte))

      module _ (left : whole d (drop d window) ≡ text_before window) where
        pub zero_len : true ≡ option_eq nat_eq o (Some 0) → Some d ≡ text_len 255 (tail P t)
        zero_len zero = sym (before-zero t window d low_window (as_zero true zero)) ∙ left ∙ sym (text_len-before 255 (tail P t))

        pub other_len : false ≡ option_eq nat_eq o (Some 0) → false ≡ option_map_or is_text_byte o false → None ≡ text_len 255 (tail P t)
        other_len other no_text =
            sym (before-other t window d low_window (as_zero false other) (as_text false no_text)) ∙ left ∙ sym (text_len-before 255 (tail P t))

        pub more_len : false ≡ option_eq nat_eq o (Some 0) → true ≡ option_map_or is_text_byte o false → whole (d + 1) (drop (d + 1) window) ≡ text_before window
        more_len other is = sym (before-more t window d low_window (as_zero false other) (as_text true is)) ∙ left

      module _ (old now start : List (Ask × Answer)) (asked : now ≡ old ++ told P (ask.Bytes (t + d) 1 ∷ [])) (left : old ++ told P (listed_asks (t + d) (drop d window)) ≡ start ++ told P (listed_asks t window)) where
        last_reads : is_text_byte next ≡ false → now ≡ start ++ told P (byte_asks t 255 (tail P t))
        last_reads no_text =
            asked ∙ ap (λ qs. old ++ told P qs) (sym (asks-end t window d low_window no_text)) ∙ left
            ∙ ap (λ qs. start ++ told P qs) (sym (byte_asks-listed t 255 (tail P t)))

        pub zero_reads : true ≡ option_eq nat_eq o (Some 0) → now ≡ start ++ told P (byte_asks t 255 (tail P t))
        zero_reads zero = last_reads (zero_ends next (eqb-true next 0 (as_zero true zero)))

        pub other_reads : false ≡ option_map_or is_text_byte o false → now ≡ start ++ told P (byte_asks t 255 (tail P t))
        other_reads no_text = last_reads (as_text false no_text)

        pub more_reads : true ≡ option_map_or is_text_byte o false → now ++ told P (listed_asks (t + (d + 1)) (drop (d + 1) window)) ≡ start ++ told P (listed_asks t window)
        more_reads is =
            ap (λ rs. rs ++ told P (listed_asks (t + (d + 1)) (drop (d + 1) window))) asked
            ∙ told-first P old (ask.Bytes (t + d) 1 ∷ []) (listed_asks (t + (d + 1)) (drop (d + 1) window)) (listed_asks (t + d) (drop d window)) (asks-more t window d low_window (as_text true is))
            ∙ left

  -- nothing is left to ask
  pub done_reads : (old start : List (Ask × Answer)) → min room 256 ≤ d → old ++ told P (listed_asks (t + d) (drop d window)) ≡ start ++ told P (listed_asks t window) → old ≡ start ++ told P (byte_asks t 255 (tail P t))
  done_reads old start high left =
      let size = length-take 256 (tail P t) in
      sym (append-nil old) ∙ ap (λ qs. old ++ told P qs) (sym (asks-all t window d (omega (arith, size, same, high)))) ∙ left
      ∙ ap (λ qs. start ++ told P qs) (sym (byte_asks-listed t 255 (tail P t)))
