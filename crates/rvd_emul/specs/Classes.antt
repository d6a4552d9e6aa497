-- The instructions by the sections of the manual that say what they do.
-- RISC-V unprivileged ISA 2.1, sections 2.4 to 2.8.
use Rattle.rvd_decode.specs.declared.insn.Op.{Op}
use Rattle.rvd_decode.specs.declared.insn.Op.TheVariants.{Lui, Auipc, Jal, Jalr, Beq, Bne, Blt, Bge, Bltu, Bgeu, Lb, Lh, Lw, Lbu, Lhu, Sb, Sh, Sw, Addi, Slti, Sltiu, Xori, Ori, Andi, Slli, Srli, Srai, Add, Sub, Sll, Slt, Sltu, Xor, Srl, Sra, Or, And, Fence, Ecall, Ebreak}
use Rattle.rvd_emul.specs.declared.classes.Class.{Class}
use Rattle.rvd_emul.specs.declared.classes.Class.TheVariants.{Upper, Jump, Branch, Load, Store, Immediate, Register, MemoryOrdering, Environment}

abbrev pub class_of : Op → Class
class_of Lui = Upper
class_of Auipc = Upper
class_of Jal = Jump
class_of Jalr = Jump
class_of Beq = Branch
class_of Bne = Branch
class_of Blt = Branch
class_of Bge = Branch
class_of Bltu = Branch
class_of Bgeu = Branch
class_of Lb = Load
class_of Lh = Load
class_of Lw = Load
class_of Lbu = Load
class_of Lhu = Load
class_of Sb = Store
class_of Sh = Store
class_of Sw = Store
class_of Addi = Immediate
class_of Slti = Immediate
class_of Sltiu = Immediate
class_of Xori = Immediate
class_of Ori = Immediate
class_of Andi = Immediate
class_of Slli = Immediate
class_of Srli = Immediate
class_of Srai = Immediate
class_of Add = Register
class_of Sub = Register
class_of Sll = Register
class_of Slt = Register
class_of Sltu = Register
class_of Xor = Register
class_of Srl = Register
class_of Sra = Register
class_of Or = Register
class_of And = Register
class_of Fence = MemoryOrdering
class_of Ecall = Environment
class_of Ebreak = Environment
