use Rattle.std.proofs.Common.{◌≡◌, ◌++◌, drop}
use Rattle.std.specs.Option.{option_map}
use Rattle.rvd_text.specs.Quoted.{IsPlace, text_from}
use Rattle.rvd_text.specs.declared.places.Place.TheVariants.{Inside}
use Rattle.rvd_text.proofs.reading.text.Given as goal

-- what was read so far, before the text of what is left, is the whole
abbrev pub invariant-loop-byte : goal.invariant-loop-byte
invariant-loop-byte l = record {
  place : IsPlace l.place;
  whole : option_map (λ t. l.out.items ++ t) (text_from l.place (drop l.byte-index l.rest)) ≡ text_from Inside l.rest;
}
