-- The lines of a run: the number of its steps, the instruction of each step at its address, why it ended, and where the program
-- counter and those registers stand that aren't 0. Use `run_text`.
use Rattle.std.specs.Prelude.{ℕ, ◌+◌, ◌==◌, List, [], ◌∷◌, ◌++◌, flat_map, length, codes, if◌then◌else◌}
use Rattle.std.specs.Option.{option_map_or}
use Rattle.std.specs.Fmt.{decimal}
use Rattle.rvd_decode.specs.Table.{instruction}
use Rattle.rvd_decode.specs.Text.{instruction_text, register}
use Rattle.rvd_text.specs.Hex.{hex8}
use Rattle.rvd_emul.specs.declared.ends.End.{End}
use Rattle.rvd_emul.specs.declared.ends.End.TheVariants.{Budget, MisalignedPc, NoFetch, Outside, Ecall, Ebreak, Misaligned, NoLoad, NoStore}
use Rattle.rvd_emul.specs.Run.{Run}

-- the words for an end
unfoldable pub end_text : End → List ℕ
end_text Budget = codes "budget"
end_text MisalignedPc = codes "misaligned pc"
end_text NoFetch = codes "no fetch"
end_text (Outside word) = codes "outside " ++ hex8 word
end_text Ecall = codes "ecall"
end_text Ebreak = codes "ebreak"
end_text (Misaligned a) = codes "misaligned " ++ hex8 a
end_text (NoLoad a) = codes "no load " ++ hex8 a
end_text (NoStore a) = codes "no store " ++ hex8 a

-- the instruction of a word
abbrev pub word_text : ℕ → ℕ → List ℕ
word_text a word = option_map_or (λ i. instruction_text i a) (instruction word) []

-- the line of a step: its address, and the instruction of its word
unfoldable pub step_line : ℕ × ℕ → List ℕ
step_line step = hex8 step.0 ++ codes " " ++ word_text step.0 step.1 ++ codes "\n"

abbrev pub step_lines : List (ℕ × ℕ) → List ℕ
step_lines done = flat_map step_line done

-- the line of a register, where it isn't 0
unfoldable pub register_line : ℕ → ℕ → List ℕ
register_line x value = if value == 0 then [] else register x ++ codes " " ++ hex8 value ++ codes "\n"

-- the lines of the registers from x on
abbrev pub register_lines : ℕ → List ℕ → List ℕ
register_lines x [] = []
register_lines x (value ∷ values) = register_line x value ++ register_lines (x + 1) values

-- the line of the number of steps
unfoldable pub count_line : ℕ → List ℕ
count_line count = codes "steps " ++ decimal count ++ codes "\n"

-- why the run ended, and the program counter
unfoldable pub end_lines : End → ℕ → List ℕ
end_lines end pc = codes "end " ++ end_text end ++ codes "\npc " ++ hex8 pc ++ codes "\n"

unfoldable pub run_text : Run → List ℕ
run_text r = count_line (length r.done) ++ step_lines r.done ++ end_lines r.end r.pc ++ register_lines 0 r.regs
