use Rattle.std.proofs.Common.{ℕ, ◌<◌, length, get_or, rules, arith}
use Rattle.rvd_script.proofs.TextLemmas.{text_is}
use Rattle.rvd_script.proofs.values.text_of.Goals as goal

pub returns-clause-legal : goal.returns-clause-legal
returns-clause-legal c =
    let fit : (k d : ℕ) → k < length c.args.bytes.items → get_or c.args.bytes.items k d < 256 = search rules in
    text_is c.of.result c.args.bytes.items fit (omega (arith, c.requires, c.args.bytes.ok.0)) c.of.ensures
