use Rattle.std.proofs.Common.{◌≡◌, ◌+◌, ◌≤◌, drop, length}
use Rattle.std.specs.Option.{option_map}
use Rattle.rvd_text.specs.Quoted.{IsPlace, text_from}
use Rattle.rvd_text.specs.declared.places.Place.TheVariants.{Inside}
use Rattle.rvd_text.proofs.reading.text_len.Given as goal

-- the bytes counted so far, with those of the text of what is left, are those of the whole
abbrev pub invariant-loop-byte : goal.invariant-loop-byte
invariant-loop-byte l = record {
  place : IsPlace l.place;
  within : l.count ≤ l.byte-index;
  whole : option_map (λ t. l.count + length t) (text_from l.place (drop l.byte-index l.rest)) ≡ option_map length (text_from Inside l.rest);
}
