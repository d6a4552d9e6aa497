use Rattle.rvd_edit.proofs.Given.{analysis_given, few_given, fits_given}
use Rattle.rvd_edit.proofs.edits.changes_of.Goals as goal

pub returns-clause-fits : goal.returns-clause-fits
returns-clause-fits c = fits_given c.list_changes.result c.args.program.now c.args.edit.now c.entries-entries.ensures.valid c.list_changes.ensures

pub returns-clause-analysis : goal.returns-clause-analysis
returns-clause-analysis c = analysis_given c.list_changes.result c.args.program.now c.args.edit.now c.list_changes.ensures

pub returns-clause-few : goal.returns-clause-few
returns-clause-few c = few_given c.list_changes.result c.args.program.now c.args.edit.now c.list_changes.ensures
