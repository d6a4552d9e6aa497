use Rattle.rvd_reading.proofs.ValuesBack.{cell_law}
use Rattle.rvd_reading.proofs.ActorsBack.{place_law}
use Rattle.rvd_reading.proofs.FactsBack.{fact_law}
use Rattle.rvd_reading.proofs.NumbersBack.{number_law}
use Rattle.rvd_reading.proofs.TextsBack.{text_law}
use Rattle.rvd_reading.proofs.WordsBack.{word_law}
use Rattle.rvd_reading.proofs.laws.reading_law.Goals as goal

pub returns-clause-words : goal.returns-clause-words
returns-clause-words c = word_law

pub returns-clause-numbers : goal.returns-clause-numbers
returns-clause-numbers c = number_law

pub returns-clause-texts : goal.returns-clause-texts
returns-clause-texts c = text_law

pub returns-clause-facts : goal.returns-clause-facts
returns-clause-facts c = fact_law

pub returns-clause-places : goal.returns-clause-places
returns-clause-places c = place_law

pub returns-clause-cells : goal.returns-clause-cells
returns-clause-cells c = cell_law
