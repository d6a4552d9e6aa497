-- What a reader of an image may rely on.
use Rattle.std.specs.Prelude.{◌≡◌, ℕ, ◌+◌, ◌*◌, ◌%◌, ◌^◌, ◌<◌, ◌≤◌, length, Some}
use Rattle.std.specs.List.{All}
use Rattle.rvd_decode.specs.Encoding.{encoding, complement}
use Rattle.rvd_decode.specs.Table.{instruction}
use Rattle.rvd_decode.specs.Flow.{target}
use Rattle.rvd_gen.specs.Layout.{function_at, string_at, max_functions}
use Rattle.rvd_gen.specs.Assembly.{addi, lui, jal, ra, a0}
use Rattle.rvd_gen.specs.Code.{upper, lower, successor, call_at, call_offset, function}
use Rattle.rvd_gen.specs.Image.{image}

-- the bytes of an image
abbrev pub SizeLaw : Type 0
SizeLaw = (n : ℕ) → length (image n) ≡ 116 + 48 * n

-- what function i of n does
pub record DoesItsWork (n i : ℕ) : Type 0 where
  -- Each word is read as the instruction that it was made of.
  pub decodes : All (λ insn. instruction (encoding insn) ≡ Some insn) (function n i)
  -- What LUI loads and ADDI adds, as the registers hold them, is the address of string i.
  pub names_its_string : (complement (lui a0 (upper (string_at i))).imm + complement (addi a0 a0 (lower (string_at i))).imm) % 2 ^ 32 ≡ string_at i
  -- The call leads to the next function, and from the last one to the first.
  pub calls_the_next : target (call_at i) (jal ra (call_offset n i)) ≡ function_at (successor n i)

abbrev pub CodeLaw : Type 0
CodeLaw = (n i : ℕ) → n ≤ max_functions → i < n → DoesItsWork n i
