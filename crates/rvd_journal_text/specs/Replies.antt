-- How a reply is written. Use `reply_text`.
use Rattle.std.specs.Prelude.{ℕ, List, ◌++◌, flat_map, codes}
use Rattle.std.specs.Fmt.{decimal}
use Rattle.rvd_text.specs.Hex.{hex8}
use Rattle.rvd_ask.specs.declared.asks.Item.{Item}
use Rattle.rvd_event.specs.declared.edits.EditRefusal.{EditRefusal}
use Rattle.rvd_event.specs.declared.edits.EditRefusal.TheVariants.{LeavesSpace, BlockOverlap, BlocksFull, Unaligned, NoBlock, NoBytes, Overlap, BadInstruction, NoSuch, Present, SlotsFull}
use Rattle.rvd_event.specs.declared.replies.Refusal.{Refusal}
use Rattle.rvd_event.specs.declared.replies.Refusal.TheVariants.{NoSession, NoTransaction, TooManyEntries, TransactionOpen, NothingToUndo, NothingToRedo, HasEntry, Cancelled, Misfit, Edit}
use Rattle.rvd_event.specs.declared.replies.Reply.{Reply}
use Rattle.rvd_event.specs.declared.replies.Reply.TheVariants.{Entry, Changed, Waiting, Committed, RolledBack, StepNo, At, SettledAt, Voided, Closed, Job, Verdicts, Refused}
use Rattle.rvd_notation.specs.Words.{key_text}
use Rattle.rvd_notation.specs.Actors.{analyzer_word}
use Rattle.rvd_journal_text.specs.Verdicts.{verdicts_text}

-- why an edit is refused
unfoldable pub edit_refusal_text : EditRefusal → List ℕ
edit_refusal_text (NoBlock at) = codes "no block " ++ hex8 at
edit_refusal_text (Unaligned at) = codes "unaligned " ++ hex8 at
edit_refusal_text (NoBytes at) = codes "no bytes " ++ hex8 at
edit_refusal_text (Overlap at) = codes "overlap " ++ hex8 at
edit_refusal_text (BadInstruction word) = codes "bad instruction " ++ hex8 word
edit_refusal_text (NoSuch key) = codes "no such " ++ key_text key
edit_refusal_text (Present key) = codes "present " ++ key_text key
edit_refusal_text (BlockOverlap at) = codes "block overlap " ++ hex8 at
edit_refusal_text BlocksFull = codes "blocks full"
edit_refusal_text (LeavesSpace at) = codes "leaves space " ++ hex8 at
edit_refusal_text (SlotsFull at) = codes "slots full " ++ hex8 at

-- why a call is refused
unfoldable pub refusal_text : Refusal → List ℕ
refusal_text NoSession = codes "no session"
refusal_text NoTransaction = codes "no transaction"
refusal_text TooManyEntries = codes "too many entries"
refusal_text (TransactionOpen live) = codes "transaction open " ++ decimal live
refusal_text NothingToUndo = codes "nothing to undo"
refusal_text NothingToRedo = codes "nothing to redo"
refusal_text (HasEntry live) = codes "has entry " ++ decimal live
refusal_text (Cancelled ticket) = codes "cancelled " ++ decimal ticket
refusal_text (Misfit place) = codes "misfit " ++ decimal place
refusal_text (Edit refusal) = edit_refusal_text refusal

-- an item: its analyzer and its address
abbrev pub item_text : Item → List ℕ
item_text item = analyzer_word item.analyzer ++ codes ":" ++ hex8 item.at

-- items, each with a space before it
abbrev pub item_words : List Item → List ℕ
item_words items = flat_map (λ item. codes " " ++ item_text item) items

unfoldable pub reply_text : Reply → List ℕ
reply_text (Entry number) = codes "entry " ++ decimal number
reply_text (Changed changes) = codes "changed " ++ decimal changes
reply_text (Waiting live) = codes "waiting " ++ decimal live
reply_text (Committed step) = codes "committed " ++ decimal step
reply_text RolledBack = codes "rolled back"
reply_text (StepNo step) = codes "step " ++ decimal step
reply_text (At steps) = codes "at " ++ decimal steps
reply_text (SettledAt step) = codes "settled " ++ decimal step
reply_text Voided = codes "voided"
reply_text (Closed aborted) = codes "closed " ++ decimal aborted
reply_text (Job ticket items) = codes "job " ++ decimal ticket ++ item_words items
reply_text (Verdicts verdicts) = verdicts_text verdicts
reply_text (Refused refusal) = codes "refused " ++ refusal_text refusal
