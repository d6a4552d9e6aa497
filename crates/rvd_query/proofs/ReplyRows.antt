-- Answers on file A after its analysis, as the definition gives them.
use Rattle.std.proofs.Common.{◌≡◌, ℕ, true, false, refl, List, Some, [], ◌∷◌, codes, arith}
use Rattle.std.specs.Fmt.{decimal}
use Rattle.std.proofs.lemmas.Fmt.{decimal_digit}
use Rattle.rvd_fact.specs.declared.keys.Key.{Key}
use Rattle.rvd_fact.specs.declared.keys.Kind.{Kind}
use Rattle.rvd_fact.specs.declared.keys.Kind.TheVariants as kind
use Rattle.rvd_fact.specs.declared.cells.Cell.{Cell}
use Rattle.rvd_fact.specs.declared.values.Value.{Value}
use Rattle.rvd_fact.specs.declared.values.Value.TheVariants.{Block, Mark, Func, Body, Code, Ref}
use Rattle.rvd_fact.specs.declared.values.Source.TheVariants.{Analysis, Imported}
use Rattle.rvd_fact.specs.declared.values.RefClass.TheVariants.{Call, Jump}
use Rattle.rvd_fact.specs.Program.{Program}
use Rattle.rvd_fact.specs.Memory.{key_of}
use Rattle.rvd_event.specs.declared.queries.Query.TheVariants as query
use Rattle.rvd_listing.specs.Lookups.{next_unit}
use Rattle.rvd_listing.specs.Names.{best_below, shown_name}
use Rattle.rvd_query.specs.Counts.{counts_of, counts_text}
use Rattle.rvd_query.specs.Reply.{reply}

abbrev analyzed : Kind → ℕ → Value → Key × Cell
analyzed k a v = (key_of k a, record { value = v; source = Analysis })

abbrev memory : List ℕ
memory = 0x13 ∷ 0x05 ∷ 0x10 ∷ 0 ∷ 0xef ∷ 0 ∷ 0x80 ∷ 0 ∷ 0x6f ∷ 0 ∷ 0 ∷ 0 ∷ 0x67 ∷ 0x80 ∷ 0 ∷ 0 ∷ []

abbrev program_a : Program
program_a =
    (key_of kind.Block 0x10054, record { value = Block 16 (record { r = true; w = false; x = true }) (Some memory); source = Imported })
    ∷ (key_of kind.Mark 0x10054, record { value = Mark; source = Imported })
    ∷ analyzed kind.Unit 0x10054 (Code 0x100513)
    ∷ analyzed kind.Unit 0x10058 (Code 0x8000ef)
    ∷ analyzed kind.Ref 0x10058 (Ref 0x10060 Call)
    ∷ analyzed kind.Unit 0x1005c (Code 0x6f)
    ∷ analyzed kind.Ref 0x1005c (Ref 0x1005c Jump)
    ∷ analyzed kind.Func 0x10060 Func
    ∷ analyzed kind.Body 0x10060 (Body ((0x10060, 0x10063) ∷ []))
    ∷ analyzed kind.Unit 0x10060 (Code 0x8067)
    ∷ []

-- the function that has a byte, and none
func_is : reply program_a (query.Func 0x10061) ≡ codes "00010060"
unfolding reply
func_is = refl

no_func : reply program_a (query.Func 0x10064) ≡ codes "none"
unfolding reply
no_func = refl

-- the call of it, and no reference
xrefs_are : reply program_a (query.Xrefs 0x10060) ≡ codes "00010058:call"
unfolding reply
xrefs_are = refl

no_xrefs : reply program_a (query.Xrefs 0x10054) ≡ codes "none"
unfolding reply
no_xrefs = refl

-- a default name, and none
name_is : reply program_a (query.Name 0x10060) ≡ codes "FUN_00010060"
unfolding reply shown_name best_below
name_is = refl

no_name : reply program_a (query.Name 0x10054) ≡ codes "none"
unfolding reply shown_name best_below
no_name = refl

-- no unit on a byte outside
no_unit : reply program_a (query.Unit 0x10064) ≡ codes "none"
unfolding reply
no_unit = refl

-- units one after the other
next_is : next_unit program_a 0x10054 ≡ Some 0x10058
next_is = refl

next_of_byte : next_unit program_a 0x1005d ≡ Some 0x10060
next_of_byte = refl

zero_is : decimal 0 ≡ 48 ∷ []
zero_is = decimal_digit 0 (omega arith)

one_is : decimal 1 ≡ 49 ∷ []
one_is = decimal_digit 1 (omega arith)

two_is : decimal 2 ≡ 50 ∷ []
two_is = decimal_digit 2 (omega arith)

four_is : decimal 4 ≡ 52 ∷ []
four_is = decimal_digit 4 (omega arith)

count_is : reply program_a query.Count ≡ codes "blocks 1 units 4 symbols 0 refs 2 funcs 1 comments 0 bookmarks 0 marks 1"
unfolding reply counts_of counts_text
count_is = rw (zero_is, one_is, two_is, four_is) refl
