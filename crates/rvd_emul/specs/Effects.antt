-- What each instruction does, a line for each. All arithmetic is modulo 2^32. Use `effect` for the state after an instruction
-- whose accesses are permitted.
-- RISC-V unprivileged ISA 2.1, sections 2.4 (integer computation), 2.5 (control transfer), 2.6 (loads and stores), 2.7 (fence).
use Rattle.std.specs.Prelude.{ℕ, ◌+◌, ◌-◌, ◌*◌, ◌/◌, ◌%◌, ◌^◌, Bool, false, not, ◌==◌, nat_lt, int_lt, List, take, slice_index, bit_and, bit_or, bit_xor, if◌then◌else◌, ℤ}
use Rattle.std.specs.Int.{cast_signed, cast_unsigned, from_bool, int_shr, to_le_bytes, w8, w16, w32}
use Rattle.rvd_decode.specs.declared.insn.Op.{Op}
use Rattle.rvd_decode.specs.declared.insn.Op.TheVariants.{Lui, Auipc, Jal, Jalr, Beq, Bne, Blt, Bge, Bltu, Bgeu, Lb, Lh, Lw, Lbu, Lhu, Sb, Sh, Addi, Slti, Sltiu, Xori, Ori, Andi, Slli, Srli, Srai, Add, Sub, Sll, Slt, Sltu, Xor, Srl, Sra, Or, And}
use Rattle.rvd_decode.specs.Instruction.{Instruction}
use Rattle.rvd_decode.specs.Encoding.{complement}
use Rattle.rvd_fact.specs.Program.{Program}
use Rattle.rvd_emul.specs.declared.classes.Class.{Class}
use Rattle.rvd_emul.specs.declared.classes.Class.TheVariants.{Upper, Jump, Branch, Load, Store, Immediate, Register, MemoryOrdering, Environment}
use Rattle.rvd_emul.specs.Classes.{class_of}
use Rattle.rvd_emul.specs.Machine.{Machine, memory_byte, memory_half, memory_word, stored_from, written}

-- a sum of two words
abbrev pub sum_of : ℕ → ℕ → ℕ
sum_of a b = (a + b) % 2 ^ 32

-- a word as a signed number, and a signed number as a word
abbrev pub signed : ℕ → ℤ
signed = cast_signed w32

abbrev pub word_of : ℤ → ℕ
word_of = cast_unsigned w32

-- section 2.4: the integer operations on two words
abbrev pub computed : Op → ℕ → ℕ → ℕ
computed Addi a b = sum_of a b
computed Slti a b = from_bool (int_lt (signed a) (signed b))
computed Sltiu a b = from_bool (nat_lt a b)
computed Xori a b = bit_xor a b
computed Ori a b = bit_or a b
computed Andi a b = bit_and a b
computed Slli a b = a * 2 ^ (b % 32) % 2 ^ 32
computed Srli a b = a / 2 ^ (b % 32)
computed Srai a b = word_of (int_shr (signed a) (b % 32))
computed Add a b = sum_of a b
computed Sub a b = (a + (2 ^ 32 - b)) % 2 ^ 32
computed Sll a b = a * 2 ^ (b % 32) % 2 ^ 32
computed Slt a b = from_bool (int_lt (signed a) (signed b))
computed Sltu a b = from_bool (nat_lt a b)
computed Xor a b = bit_xor a b
computed Srl a b = a / 2 ^ (b % 32)
computed Sra a b = word_of (int_shr (signed a) (b % 32))
computed Or a b = bit_or a b
computed And a b = bit_and a b
computed op a b = 0

-- section 2.4: the upper immediates, at an address
abbrev pub upper : Op → ℕ → ℕ → ℕ
upper Lui pc imm = imm
upper Auipc pc imm = sum_of pc imm
upper op pc imm = 0

-- section 2.5: where the unconditional jumps lead, from an address and with the value of rs1
abbrev pub jump_target : Op → ℕ → ℕ → ℕ → ℕ
jump_target Jal pc a imm = sum_of pc imm
jump_target Jalr pc a imm = sum_of a imm - sum_of a imm % 2
jump_target op pc a imm = 0

-- section 2.5: whether a branch is taken
abbrev pub is_taken : Op → ℕ → ℕ → Bool
is_taken Beq a b = a == b
is_taken Bne a b = not (a == b)
is_taken Blt a b = int_lt (signed a) (signed b)
is_taken Bge a b = not (int_lt (signed a) (signed b))
is_taken Bltu a b = nat_lt a b
is_taken Bgeu a b = not (nat_lt a b)
is_taken op a b = false

-- section 2.6: how many bytes a load or a store moves: 1, 2, or 4 in lw and sw
abbrev pub width : Op → ℕ
width Lb = 1
width Lbu = 1
width Sb = 1
width Lh = 2
width Lhu = 2
width Sh = 2
width op = 4

-- section 2.6: what is loaded from an address
abbrev pub loaded : Program → List (ℕ × ℕ) → Op → ℕ → ℕ
loaded S stored Lb a = word_of (cast_signed w8 (memory_byte S stored a))
loaded S stored Lh a = word_of (cast_signed w16 (memory_half S stored a))
loaded S stored Lw a = memory_word S stored a
loaded S stored Lbu a = memory_byte S stored a
loaded S stored Lhu a = memory_half S stored a
loaded S stored op a = 0

-- on to the next instruction
abbrev pub passed : Machine → Machine
passed m = record m { pc = sum_of m.pc 4 }

module _ (m : Machine) (i : Instruction) where
  -- the values of the source registers, and the immediate as a word
  abbrev pub first : ℕ
  first = slice_index m.regs i.rs1

  abbrev pub second : ℕ
  second = slice_index m.regs i.rs2

  abbrev pub immediate : ℕ
  immediate = complement i.imm

  -- the address of a load or a store
  abbrev pub address : ℕ
  address = sum_of first immediate

  -- a register written, and on to the next instruction
  abbrev pub writes : ℕ → Machine
  writes value = record m { pc = sum_of m.pc 4; regs = written m.regs i.rd value }

  -- an instruction's effect by its class, where `load` is what it loads
  abbrev pub effect_of : Class → ℕ → Machine
  effect_of Upper load = writes (upper i.op m.pc immediate)
  effect_of Jump load = record m { pc = jump_target i.op m.pc first immediate; regs = written m.regs i.rd (sum_of m.pc 4) }
  effect_of Branch load = record m { pc = if is_taken i.op first second then sum_of m.pc immediate else sum_of m.pc 4 }
  effect_of Load load = writes load
  effect_of Store load = record m { pc = sum_of m.pc 4; stored = stored_from address (take (width i.op) (to_le_bytes w32 second)) m.stored }
  effect_of Immediate load = writes (computed i.op first immediate)
  effect_of Register load = writes (computed i.op first second)
  effect_of MemoryOrdering load = passed m
  effect_of Environment load = m

-- the state after an instruction
unfoldable pub effect : Program → Machine → Instruction → Machine
effect S m i = effect_of m i (class_of i.op) (loaded S m.stored i.op (address m i))
