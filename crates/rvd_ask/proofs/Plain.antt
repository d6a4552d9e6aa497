-- Tests of a cell that see no block's bytes: with `same_test` of `Told`, programs that answer the same to an ask for a cell
-- pass them alike.
use Rattle.std.proofs.Common.{◌≡◌, not, Option, Some, None, refl, ap}
use Rattle.std.specs.Prelude.{is_none}
use Rattle.rvd_fact.specs.declared.cells.Cell.{Cell}
use Rattle.rvd_fact.specs.declared.values.Value.{Value}
use Rattle.rvd_fact.specs.declared.values.Value.TheVariants.{Block, Mark, Func, Body, Symbol, Comment, Bookmark, Code, Plain, Ref, Gone}
use Rattle.rvd_fact.specs.Program.{is_gone, is_present}
use Rattle.rvd_fact.specs.Memory.{is_code, is_instruction}
use Rattle.rvd_ask.specs.Answers.{plain_cell, plain_value}
use Rattle.rvd_ask.specs.Places.{cell_instruction, value_instruction}

pub is_none-plain : (o : Option Cell) → is_none (plain_cell o) ≡ is_none o
is_none-plain None = refl
is_none-plain (Some c) = refl

pub is_present-plain : (o : Option Cell) → is_present (plain_cell o) ≡ is_present o
is_present-plain None = refl
is_present-plain (Some c) = ap not (gone c.value)
  where
    gone : (v : Value) → is_gone (plain_value v) ≡ is_gone v
    gone (Block len perm None) = refl
    gone (Block len perm (Some all)) = refl
    gone Mark = refl
    gone Func = refl
    gone (Body ranges) = refl
    gone (Symbol name) = refl
    gone (Comment text) = refl
    gone (Bookmark text) = refl
    gone (Code w) = refl
    gone (Plain f) = refl
    gone (Ref to class) = refl
    gone Gone = refl

pub is_instruction-plain : (o : Option Cell) → is_instruction (plain_cell o) ≡ is_instruction o
is_instruction-plain None = refl
is_instruction-plain (Some c) = code c.value
  where
    code : (v : Value) → is_code (plain_value v) ≡ is_code v
    code (Block len perm None) = refl
    code (Block len perm (Some all)) = refl
    code Mark = refl
    code Func = refl
    code (Body ranges) = refl
    code (Symbol name) = refl
    code (Comment text) = refl
    code (Bookmark text) = refl
    code (Code w) = refl
    code (Plain f) = refl
    code (Ref to class) = refl
    code Gone = refl

pub cell_instruction-plain : (o : Option Cell) → cell_instruction (plain_cell o) ≡ cell_instruction o
cell_instruction-plain None = refl
cell_instruction-plain (Some c) = read c.value
  where
    read : (v : Value) → value_instruction (plain_value v) ≡ value_instruction v
    read (Block len perm None) = refl
    read (Block len perm (Some all)) = refl
    read Mark = refl
    read Func = refl
    read (Body ranges) = refl
    read (Symbol name) = refl
    read (Comment text) = refl
    read (Bookmark text) = refl
    read (Code w) = refl
    read (Plain f) = refl
    read (Ref to class) = refl
    read Gone = refl
