-- Decimal numbers: std's `decimal n` is the digits of n in base ten, the most significant first, without leading zeros.
use Rattle.std.specs.Prelude.{◌≡◌, ℕ, ◌^◌, ◌<◌}
use Rattle.std.specs.Fmt.{decimal}

-- no two numbers of 64 bits are printed alike
abbrev pub DecimalLaw : Type 0
DecimalLaw = (m n : ℕ) → m < 2 ^ 64 → n < 2 ^ 64 → decimal m ≡ decimal n → m ≡ n
