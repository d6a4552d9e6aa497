use Rattle.std.proofs.Common.{ℕ, Bool, Err, ap, sym, subst, ◌∙◌}
use Rattle.rvd_journal.specs.declared.entries.Entry.{Entry}
use Rattle.rvd_reading.specs.declared.errors.ReadError.{ReadError}
use Rattle.rvd_reading.specs.Steps.{Reads}
use Rattle.rvd_journal_text.specs.Lines.{full_line}
use Rattle.rvd_line_reading.specs.Lines.{entry_of}
use Rattle.rvd_line_reading.specs.Front.{Takes}
use Rattle.rvd_line_reading.proofs.FrontsBack.{other_entry, out_of_range, read-bare, unread_next}
use Rattle.rvd_line_reading.proofs.front.read_next.Goals as goal

pub returns-in-Err-Unread : goal.returns-in-Err-Unread
returns-in-Err-Unread c =
    unread_next c.args.names c.args.number c.args.rest.now c.ranges.number.fits
    (ap (entry_of c.args.names) (sym (c.of-copy.ensures ∙ c.bytes.ensures))
    ∙ subst (λ (e : ReadError). Reads {A = ℕ × Entry} c.numbered.new.rest (Err e) (entry_of c.args.names c.of-copy.result)) c.in-Err-Unread.field-0-is c.in-Err-Unread.ensures)

pub returns-then-not-is_in_range : goal.returns-then-not-is_in_range
returns-then-not-is_in_range c =
    out_of_range c.args.names c.args.number c.args.rest.now c.numbered.new.rest c.in-Ok.read c.ranges.number.fits
    (ap (entry_of c.args.names) (sym (c.of-copy.ensures ∙ c.bytes.ensures)) ∙ c.in-Ok.ensures)
    (c.is_in_range.ensures.no c.if-not-is_in_range.true)

pub returns-then-branch : goal.returns-then-branch
returns-then-branch c =
    let line = subst (λ (found : Bool). Takes c.args.rest.now (full_line c.args.names (c.args.number, c.in-Ok.read.1)) c.strip_entry.new.rest found) c.if-branch.true c.in_ok-strip_entry.ensures in
    let range = c.is_in_range.ensures.yes c.if-not-is_in_range.false in
    record {
      line = line;
      range = range;
      bare = read-bare c.args.names c.args.number c.args.rest.now c.numbered.new.rest c.in-Ok.read c.ranges.number.fits
          (ap (entry_of c.args.names) (sym (c.of-copy.ensures ∙ c.bytes.ensures)) ∙ c.in-Ok.ensures) range (c.strip_entry.new.rest, line);
    }

pub returns-else-branch : goal.returns-else-branch
returns-else-branch c =
    other_entry c.args.names c.args.number c.args.rest.now c.numbered.new.rest c.in-Ok.read c.ranges.number.fits
    (ap (entry_of c.args.names) (sym (c.of-copy.ensures ∙ c.bytes.ensures)) ∙ c.in-Ok.ensures)
    (subst (λ (found : Bool). Takes c.args.rest.now (full_line c.args.names (c.args.number, c.in-Ok.read.1)) c.strip_entry.new.rest found) c.if-branch.false c.in_ok-strip_entry.ensures)
