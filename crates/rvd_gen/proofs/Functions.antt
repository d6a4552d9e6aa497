-- A function of an image does its work: its words are read back, it names its string, and it calls the next function.
use Rattle.std.proofs.Common.{◌≡◌, ℕ, ◌*◌, ◌^◌, ◌<◌, ◌≤◌, Some, refl, arith, lit<, ℤ, pos, negsuc}
use Rattle.std.specs.List.{All}
use Rattle.std.proofs.lemmas.List.Elements.{All-from_recursion}
use Rattle.rvd_decode.specs.Instruction.{Instruction}
use Rattle.rvd_decode.specs.Formats.{IsSigned, IsMultiple}
use Rattle.rvd_decode.specs.Encoding.{encoding}
use Rattle.rvd_decode.specs.Table.{instruction}
use Rattle.rvd_decode.proofs.RoundTrip.{decoded}
use Rattle.rvd_gen.specs.Layout.{function_at, string_at, max_functions}
use Rattle.rvd_gen.specs.Assembly.{addi, lw, jalr, sw, lui, jal, zero_reg, ra, sp, a0}
use Rattle.rvd_gen.specs.Code.{upper, lower, successor, call_at, call_offset, function}
use Rattle.rvd_gen.specs.Laws.{DoesItsWork}
use Rattle.rvd_gen.proofs.Offsets.{offset-reaches, offset-signed, offset-even}

abbrev IsReadBack : Instruction → Type 0
IsReadBack insn = instruction (encoding insn) ≡ Some insn

addi_back : (rd rs1 : ℕ) (imm : ℤ) → rd < 32 → rs1 < 32 → IsSigned 12 imm → IsReadBack (addi rd rs1 imm)
addi_back rd rs1 imm l m h = decoded (addi rd rs1 imm) (record { rd = l; rs1 = m; rs2 = refl; imm = h })

lw_back : (rd : ℕ) (imm : ℤ) (rs1 : ℕ) → rd < 32 → rs1 < 32 → IsSigned 12 imm → IsReadBack (lw rd imm rs1)
lw_back rd imm rs1 l m h = decoded (lw rd imm rs1) (record { rd = l; rs1 = m; rs2 = refl; imm = h })

jalr_back : (rd : ℕ) (imm : ℤ) (rs1 : ℕ) → rd < 32 → rs1 < 32 → IsSigned 12 imm → IsReadBack (jalr rd imm rs1)
jalr_back rd imm rs1 l m h = decoded (jalr rd imm rs1) (record { rd = l; rs1 = m; rs2 = refl; imm = h })

sw_back : (rs2 : ℕ) (imm : ℤ) (rs1 : ℕ) → rs2 < 32 → rs1 < 32 → IsSigned 12 imm → IsReadBack (sw rs2 imm rs1)
sw_back rs2 imm rs1 l m h = decoded (sw rs2 imm rs1) (record { rd = refl; rs1 = m; rs2 = l; imm = h })

lui_back : (rd upper : ℕ) → rd < 32 → upper < 2 ^ 19 → IsReadBack (lui rd upper)
lui_back rd upper l h = decoded (lui rd upper) (record { rd = l; rs1 = refl; rs2 = refl; imm = (omega arith, omega arith) })

jal_back : (rd : ℕ) (imm : ℤ) → rd < 32 → IsSigned 21 imm → IsMultiple 2 imm → IsReadBack (jal rd imm)
jal_back rd imm l h e = decoded (jal rd imm) (record { rd = l; rs1 = refl; rs2 = refl; imm = (h, e) })

-- the instructions of function i of n
read_back : (n i : ℕ) → n ≤ 30000 → i < n → All IsReadBack (function n i)
read_back n i few low =
    let next : successor n i < n = omega arith in
    let in_lower : IsSigned 12 (lower (string_at i)) = offset-signed 12 (4096 * upper (string_at i)) (string_at i) (omega arith) (omega arith) in
    let in_call : IsSigned 21 (call_offset n i) = offset-signed 21 (call_at i) (function_at (successor n i)) (omega arith) (omega arith) in
    let even : IsMultiple 2 (call_offset n i) = offset-even (call_at i) (function_at (successor n i)) (omega arith) (omega arith) in
    All-from_recursion IsReadBack (function n i) (
      addi_back sp sp (negsuc 15) (lit< tt) (lit< tt) (lit< tt),
      (
        sw_back ra (pos 12) sp (lit< tt) (lit< tt) (lit< tt),
        (
          lui_back a0 (upper (string_at i)) (lit< tt) (omega arith),
          (
            addi_back a0 a0 (lower (string_at i)) (lit< tt) (lit< tt) in_lower,
            (
              jal_back ra (call_offset n i) (lit< tt) in_call even,
              (
                lw_back ra (pos 12) sp (lit< tt) (lit< tt) (lit< tt),
                (
                  addi_back sp sp (pos 16) (lit< tt) (lit< tt) (lit< tt),
                  (
                    jalr_back zero_reg (pos 0) ra (lit< tt) (lit< tt) (lit< tt),
                    tt,
                  ),
                ),
              ),
            ),
          ),
        ),
      ),
    )

pub works : (n i : ℕ) → n ≤ max_functions → i < n → DoesItsWork n i
works n i few low =
    let next : successor n i < n = omega arith in
    record {
      decodes = read_back n i few low;
      names_its_string = offset-reaches (4096 * upper (string_at i)) (string_at i) (omega arith) (omega arith);
      calls_the_next = offset-reaches (call_at i) (function_at (successor n i)) (omega arith) (omega arith);
    }
