-- A program of four cells, whose answers compute: a block, two instructions and a call.
use Rattle.std.proofs.Common.{◌≡◌, ℕ, refl, Some, None, [], ◌∷◌, true, false}
use Rattle.rvd_fact.specs.declared.keys.Kind.TheVariants as kind
use Rattle.rvd_fact.specs.declared.cells.Cell.{Cell}
use Rattle.rvd_fact.specs.declared.values.Value.TheVariants.{Block, Func, Code, Ref}
use Rattle.rvd_fact.specs.declared.values.Source.TheVariants.{Analysis, Imported}
use Rattle.rvd_fact.specs.declared.values.RefClass.TheVariants.{Call}
use Rattle.rvd_fact.specs.Program.{Program, placed}
use Rattle.rvd_fact.specs.Memory.{unit_key, func_key, block_key, cover, block, word, has_ref_to, refs_from}

-- file A after its analysis, in part
abbrev a_block : Cell
a_block = record { value = Block 16 (record { r = true; w = false; x = true }) (Some (0x13 ∷ 0x05 ∷ 0x10 ∷ 0 ∷ 0xef ∷ 0 ∷ 0x80 ∷ 0 ∷ 0x6f ∷ 0 ∷ 0 ∷ 0 ∷ 0x67 ∷ 0x80 ∷ 0 ∷ 0 ∷ [])); source = Imported }

abbrev a_code : ℕ → Cell
a_code w = record { value = Code w; source = Analysis }

abbrev a_ref : Cell
a_ref = record { value = Ref 0x10060 Call; source = Analysis }

abbrev program_a : Program
program_a = placed (placed (placed (placed [] (unit_key 0x10058) (Some (a_code 0x8000ef))) (record { at = 0x10058; kind = kind.Ref; sub = 0 }) (Some a_ref)) (block_key 0x10054) (Some a_block)) (unit_key 0x10060) (Some (a_code 0x8067))

in_order : program_a ≡ (block_key 0x10054, a_block) ∷ (unit_key 0x10058, a_code 0x8000ef) ∷ (record { at = 0x10058; kind = kind.Ref; sub = 0 }, a_ref) ∷ (unit_key 0x10060, a_code 0x8067) ∷ []
in_order = refl

cover_is : cover program_a 0x1005a ≡ Some 0x10058
cover_is = refl

block_is : block program_a 0x1005a ≡ Some 0x10054
block_is = refl

word_is : word program_a 0x10058 ≡ Some 0x8000ef
word_is = refl

called : has_ref_to program_a 0x10060 Call ≡ true
called = refl

refs_are : refs_from program_a 0x10058 ≡ (0, Call, 0x10060) ∷ []
refs_are = refl

back : placed (placed program_a (func_key 0x10060) (Some (record { value = Func; source = Analysis }))) (func_key 0x10060) None ≡ program_a
back = refl
