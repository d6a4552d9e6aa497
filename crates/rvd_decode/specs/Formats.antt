-- The instruction formats: which fields a word has and where they stand, and how each immediate is put together from them.
-- RISC-V unprivileged ISA 2.1, sections 2.2 and 2.3.
use Rattle.std.specs.Prelude.{◌≡◌, ℕ, ◌+◌, ◌-◌, ◌*◌, ◌/◌, ◌%◌, ◌^◌, ◌<◌, Bool, true, false, nat_lt, if◌then◌else◌, ℤ, pos, negsuc}
use Rattle.rvd_decode.specs.declared.table.Format.{Format}
use Rattle.rvd_decode.specs.declared.table.Format.TheVariants.{R, I, S, B, U, J, Shift, Bare}
use Rattle.rvd_decode.specs.Instruction.{Instruction}

-- inst[high:low], the bits of a word from `high` down to `low`
abbrev pub bits : ℕ → ℕ → ℕ → ℕ
bits w high low = w / 2 ^ low % 2 ^ (high + 1 - low)

-- the number that has v as its two's complement of n bits
abbrev pub signed : ℕ → ℕ → ℤ
signed n v = if nat_lt v (2 ^ (n - 1)) then pos v else negsuc (2 ^ n - 1 - v)

-- the I-immediate, inst[31:20]
abbrev pub imm_i : ℕ → ℤ
imm_i w = signed 12 (bits w 31 20)

-- the S-immediate, inst[31:25] and inst[11:7]
abbrev pub imm_s : ℕ → ℤ
imm_s w = signed 12 (bits w 31 25 * 2 ^ 5 + bits w 11 7)

-- the B-immediate, inst[31], inst[7], inst[30:25], inst[11:8] and a zero
abbrev pub imm_b : ℕ → ℤ
imm_b w = signed 13 (bits w 31 31 * 2 ^ 12 + bits w 7 7 * 2 ^ 11 + bits w 30 25 * 2 ^ 5 + bits w 11 8 * 2)

-- the U-immediate, inst[31:12] and twelve zeros
abbrev pub imm_u : ℕ → ℤ
imm_u w = signed 32 (bits w 31 12 * 2 ^ 12)

-- the J-immediate, inst[31], inst[19:12], inst[20], inst[30:21] and a zero
abbrev pub imm_j : ℕ → ℤ
imm_j w = signed 21 (bits w 31 31 * 2 ^ 20 + bits w 19 12 * 2 ^ 12 + bits w 20 20 * 2 ^ 11 + bits w 30 21 * 2)

-- the immediate of a word; the shift amount inst[24:20] counts as one, and a format without one gives 0
abbrev pub immediate : Format → ℕ → ℤ
immediate R w = pos 0
immediate I w = imm_i w
immediate S w = imm_s w
immediate B w = imm_b w
immediate U w = imm_u w
immediate J w = imm_j w
immediate Shift w = pos (bits w 24 20)
immediate Bare w = pos 0

-- whether a format has a destination register, rd
abbrev pub has_rd : Format → Bool
has_rd R = true
has_rd I = true
has_rd S = false
has_rd B = false
has_rd U = true
has_rd J = true
has_rd Shift = true
has_rd Bare = false

-- whether a format has a first source register, rs1
abbrev pub has_rs1 : Format → Bool
has_rs1 R = true
has_rs1 I = true
has_rs1 S = true
has_rs1 B = true
has_rs1 U = false
has_rs1 J = false
has_rs1 Shift = true
has_rs1 Bare = false

-- whether a format has a second source register, rs2
abbrev pub has_rs2 : Format → Bool
has_rs2 R = true
has_rs2 I = false
has_rs2 S = true
has_rs2 B = true
has_rs2 U = false
has_rs2 J = false
has_rs2 Shift = false
has_rs2 Bare = false

-- z is a signed number of n bits
abbrev pub IsSigned : ℕ → ℤ → Type 0
IsSigned n (pos a) = a < 2 ^ (n - 1)
IsSigned n (negsuc a) = a < 2 ^ (n - 1)

-- z is a multiple of k
abbrev pub IsMultiple : ℕ → ℤ → Type 0
IsMultiple k (pos a) = a % k ≡ 0
IsMultiple k (negsuc a) = (a + 1) % k ≡ 0

-- z is one of 0 to k - 1
abbrev pub IsBelow : ℕ → ℤ → Type 0
IsBelow k (pos a) = a < k
IsBelow k (negsuc a) = ⊥

-- the immediates of a format
abbrev pub IsImmediate : Format → ℤ → Type 0
IsImmediate R z = z ≡ pos 0
IsImmediate I z = IsSigned 12 z
IsImmediate S z = IsSigned 12 z
IsImmediate B z = IsSigned 13 z × IsMultiple 2 z
IsImmediate U z = IsSigned 32 z × IsMultiple (2 ^ 12) z
IsImmediate J z = IsSigned 21 z × IsMultiple 2 z
IsImmediate Shift z = IsBelow 32 z
IsImmediate Bare z = z ≡ pos 0

-- the registers are x0 to x31; a field that the format lacks is 0
abbrev pub IsRegister : Bool → ℕ → Type 0
IsRegister true x = x < 32
IsRegister false x = x ≡ 0

-- each operand is in the range of its format
pub record IsOfFormat (f : Format) (i : Instruction) : Type 0 where
  pub rd : IsRegister (has_rd f) i.rd
  pub rs1 : IsRegister (has_rs1 f) i.rs1
  pub rs2 : IsRegister (has_rs2 f) i.rs2
  pub imm : IsImmediate f i.imm
