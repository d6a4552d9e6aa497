use Rattle.std.proofs.Common.{◌≡◌, List, ℕ, Option, None, sym, ap, ◌∙◌, subst}
use Rattle.std.specs.Prelude.{IfOk}
use Rattle.rvd_fact.specs.declared.keys.Key.{Key}
use Rattle.rvd_fact.specs.Program.{Program, cell_at}
use Rattle.rvd_fact.specs.Memory.{bytes}
use Rattle.rvd_program.proofs.Nearest.{starts}
use Rattle.rvd_program.proofs.valid_map.Program.bytes.Goals as goal

pub bytes_in-requires : goal.bytes_in-requires
bytes_in-requires c =
    (starts c.self.inside.cells c.self.invariant c.args.at c.args.len c.in-Some.start _ c.in-Some.ensures (c.in-Some-cell_in.ensures ∙ ap (λ (k : Key). cell_at c.self.inside.cells k) c.block_key.ensures)).low

pub returns-in-None-cell_in : goal.returns-in-None-cell_in
returns-in-None-cell_in c =
    sym (starts c.self.inside.cells c.self.invariant c.args.at c.args.len c.in-Some.start None c.in-Some.ensures (c.in-None-cell_in.ensures ∙ ap (λ (k : Key). cell_at c.self.inside.cells k) c.block_key.ensures)).bytes
    ∙ ap (λ (S : Program). bytes S c.args.at c.args.len) c.self.view_is

pub returns-in-Some-cell_in : goal.returns-in-Some-cell_in
returns-in-Some-cell_in c =
    let same =
    sym (starts c.self.inside.cells c.self.invariant c.args.at c.args.len c.in-Some.start _ c.in-Some.ensures (c.in-Some-cell_in.ensures ∙ ap (λ (k : Key). cell_at c.self.inside.cells k) c.block_key.ensures)).bytes
    ∙ ap (λ (S : Program). bytes S c.args.at c.args.len) c.self.view_is in
    subst (λ (bs : Option (List ℕ)). IfOk c.bytes_in.result (λ answer. answer ≡ bs)) same c.bytes_in.ensures
