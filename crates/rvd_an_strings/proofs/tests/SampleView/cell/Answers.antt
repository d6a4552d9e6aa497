use Rattle.std.proofs.Common.{Some, sym, ap, ◌∙◌}
use Rattle.rvd_an_strings.proofs.Sample.{block_there, nothing_there, valid_sample}
use Rattle.rvd_an_strings.proofs.tests.SampleView.cell.Goals as goal

pub returns-in-Equal-clause-valid : goal.returns-in-Equal-clause-valid
returns-in-Equal-clause-valid c = valid_sample

pub returns-in-Equal-order : goal.returns-in-Equal-order
returns-in-Equal-order c = record {
  valid = valid_sample;
  cell = ap (λ cell. Some cell) c.args.self.now.block_is
      ∙ sym (block_there c.args.key (λ e. c.in_default.not-Equal (c.order.ensures ∙ e)) (sym c.order-in_default.ensures ∙ c.in-Equal-order.is));
}

pub returns-in_default-order : goal.returns-in_default-order
returns-in_default-order c = record {
  valid = valid_sample;
  cell = sym (nothing_there c.args.key (λ e. c.in_default.not-Equal (c.order.ensures ∙ e)) (λ e. c.in_default-order.not-Equal (c.order-in_default.ensures ∙ e)));
}
