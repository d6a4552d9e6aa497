use Rattle.std.specs.Option.{option_map_or}
use Rattle.std.proofs.Common.{Bool, ◌≡◌, false, Option, None, Some, sym, ap, ◌∙◌}
use Rattle.rvd_decode.specs.declared.insn.Op.{Op}
use Rattle.rvd_decode.specs.Table.{matches}
use Rattle.rvd_decode.proofs.Rows.{operation-matched, operation-unmatched}
use Rattle.rvd_decode.proofs.Places.{unplaced}
use Rattle.rvd_decode.proofs.opcode_map.operation.Goals as goal

pub returns-in_err-first : goal.returns-in_err-first
returns-in_err-first c = c.from_residual.ensures ∙ sym (operation-unmatched c.args.word c.in_err-first.ensures)

pub returns-then-matches : goal.returns-then-matches
returns-then-matches c = sym (operation-matched c.args.word c.in_ok-first.first (sym c.matches.ensures ∙ c.if-matches.true))

pub returns-in_err-second : goal.returns-in_err-second
returns-in_err-second c =
    c.from_residual-in_err-second.ensures
    ∙ sym (operation-unmatched c.args.word
    (unplaced c.args.word c.in_ok-first.first None c.in_ok-first.ensures (sym c.matches.ensures ∙ c.if-matches.false)
    c.in_err-second.ensures (λ op e. (cc))))

pub returns-then-matches-2 : goal.returns-then-matches-2
returns-then-matches-2 c = sym (operation-matched c.args.word c.in_ok-second.second (sym c.matches-2.ensures ∙ c.if-matches-2.true))

pub returns-else-matches-2 : goal.returns-else-matches-2
returns-else-matches-2 c =
    let no_second : matches c.args.word c.in_ok-second.second ≡ false = sym c.matches-2.ensures ∙ c.if-matches-2.false in
    let passes : Option Op → Bool = λ o. option_map_or (matches c.args.word) o false in
    sym (operation-unmatched c.args.word
    (unplaced c.args.word c.in_ok-first.first (Some c.in_ok-second.second) c.in_ok-first.ensures
    (sym c.matches.ensures ∙ c.if-matches.false) c.in_ok-second.ensures
    (λ op (e : Some c.in_ok-second.second ≡ Some op). ap passes (sym e) ∙ no_second)))
