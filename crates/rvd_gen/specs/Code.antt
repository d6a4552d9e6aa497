-- The code of an image. Function i of n saves its return address in a frame, loads the address of string i, calls the next
-- function, or from the last one the first, and returns.
use Rattle.std.specs.Prelude.{ℕ, ◌+◌, ◌*◌, ◌/◌, ◌%◌, List, [], ◌∷◌, map, flat_map, ℤ, pos, negsuc, ◌-ℤ◌}
use Rattle.std.specs.List.{range_with_len}
use Rattle.rvd_decode.specs.Instruction.{Instruction}
use Rattle.rvd_decode.specs.Encoding.{encoding}
use Rattle.rvd_gen.specs.Bytes.{words}
use Rattle.rvd_gen.specs.Layout.{function_at, string_at}
use Rattle.rvd_gen.specs.Assembly.{addi, lw, jalr, sw, lui, jal, zero_reg, ra, sp, a0}

-- how far an address is from another one
abbrev pub offset : ℕ → ℕ → ℤ
offset from to = pos to -ℤ pos from

-- An address in two parts: LUI loads the upper one in units of 4,096, and ADDI adds the lower one, which is signed.
abbrev pub upper : ℕ → ℕ
upper address = (address + 2048) / 4096

abbrev pub lower : ℕ → ℤ
lower address = offset (4096 * upper address) address

-- the number of the function that function i of n calls
abbrev pub successor : ℕ → ℕ → ℕ
successor n i = (i + 1) % n

-- the address of the call in function i, its fifth instruction, and how far the called function is from there
abbrev pub call_at : ℕ → ℕ
call_at i = function_at i + 16

abbrev pub call_offset : ℕ → ℕ → ℤ
call_offset n i = offset (call_at i) (function_at (successor n i))

-- the instructions of function i of n
abbrev pub function : ℕ → ℕ → List Instruction
function n i =
    addi sp sp (negsuc 15)
    ∷ sw ra (pos 12) sp
    ∷ lui a0 (upper (string_at i))
    ∷ addi a0 a0 (lower (string_at i))
    ∷ jal ra (call_offset n i)
    ∷ lw ra (pos 12) sp
    ∷ addi sp sp (pos 16)
    ∷ jalr zero_reg (pos 0) ra
    ∷ []

unfoldable pub function_bytes : ℕ → ℕ → List ℕ
function_bytes n i = words (map encoding (function n i))

-- the code of n functions
abbrev pub code : ℕ → List ℕ
code n = flat_map (function_bytes n) (range_with_len 0 n)
