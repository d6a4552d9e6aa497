use Rattle.std.proofs.lemmas.Fmt.{decimal_injective}
use Rattle.rvd_text.proofs.Quotes.{quoted_law}
use Rattle.rvd_text.proofs.Digits.{hex_law}
use Rattle.rvd_text.proofs.laws.text_law.Goals as goal

pub returns-clause-decimal : goal.returns-clause-decimal
returns-clause-decimal c = decimal_injective

pub returns-clause-hexadecimal : goal.returns-clause-hexadecimal
returns-clause-hexadecimal c = hex_law

pub returns-clause-quoted : goal.returns-clause-quoted
returns-clause-quoted c = quoted_law
