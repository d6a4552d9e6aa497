use Rattle.std.proofs.Common.{[], map, arith}
use Rattle.std.specs.List.Sorted.{IsStrictlySortedBy}
use Rattle.rvd_fact.specs.declared.cells.Change.{Change}
use Rattle.rvd_fact.specs.Order.{key_cmp}
use Rattle.rvd_fact.specs.Valid.{Fits}
use Rattle.rvd_elf.specs.Import.{import_of}
use Rattle.rvd_elf.proofs.StepLemmas.{if_given}
use Rattle.rvd_elf.proofs.ImportedFacts.{import_fits, import_rises}
use Rattle.rvd_elf.proofs.imports.import.Goals as goal

pub returns-clause-fits : goal.returns-clause-fits
returns-clause-fits c =
    if_given (λ v. v.items) c.read_facts.result (import_of c.args.bytes.now) (λ v. Fits [] v.items) (λ v e. import_fits c.args.bytes.now v.items (λ i. omega (arith, c.type_inv.bytes i)) e) c.read_facts.ensures

pub returns-clause-rising : goal.returns-clause-rising
returns-clause-rising c =
    if_given (λ v. v.items) c.read_facts.result (import_of c.args.bytes.now) (λ v. IsStrictlySortedBy key_cmp (map (λ (x : Change). x.key) v.items)) (λ v e. import_rises c.args.bytes.now v.items (λ i. omega (arith, c.type_inv.bytes i)) e) c.read_facts.ensures
