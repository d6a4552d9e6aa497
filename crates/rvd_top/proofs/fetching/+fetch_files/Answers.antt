use Rattle.std.proofs.Common.{◌≡◌, ◌++◌, ◌+◌, ◌∷◌, [], ℕ, List, Vec, map, string_bytes, ap, sym, ◌∙◌, append_assoc}
use Rattle.std.proofs.lemmas.List.{append-nil}
use Rattle.std.proofs.lemmas.Result.{on_ok_weaker, IfErr-weaker, err_from_is_err_and}
use Rattle.rvd_top.specs.Words.{source, sources}
use Rattle.rvd_top.proofs.FetchLemmas.{none_fetched, NotFetched-memory, first_fails, later_fails, all_fetched, sources-first, sources-none}
use Rattle.rvd_top.proofs.fetching.+fetch_files.Goals as goal

pub returns-in_default-clause-ok : goal.returns-in_default-clause-ok
returns-in_default-clause-ok g t c =
    let none = sources-none c.args.command c.args.word c.args.names.now c.in_default.ensures.cases in
    ([], sym (append-nil c.args.lists.now.items), none_fetched (g.C.Cabinet.held c.args.files.now) _ none)

pub returns-in_err-bytes-clause-err : goal.returns-in_err-bytes-clause-err
returns-in_err-bytes-clause-err g t c =
    let p = err_from_is_err_and c.from_residual.result c.from_residual.ensures.1 in
    let is = sources-first c.args.command c.args.word c.limit_at.result c.args.names.now c.in-Some.name.now c.in-Some.rest.now c.as_str.result.now c.in-Some.ensures.cases.0 c.as_str.ensures.value c.limit_at.ensures in
    rw (p.1, p.2) (first_fails g.C.Cabinet.held g.C.Cabinet.faults g.C.Cabinet.fetched _ (source c.args.word c.as_str.result.now c.limit_at.result) _ _ _ _ is c.in_err-bytes.ensures.err)

pub returns-clause-ok : goal.returns-clause-ok
returns-clause-ok g t c =
    let is = sources-first c.args.command c.args.word c.limit_at.result c.args.names.now c.in-Some.name.now c.in-Some.rest.now c.as_str.result.now c.in-Some.ensures.cases.0 c.as_str.ensures.value c.limit_at.ensures in
    on_ok_weaker c.fetch_files.result (λ h. (c.in_ok-bytes.bytes ∷ h.0, h.1 ∙ ap (λ xs. xs ++ h.0) c.in_default-push.ensures.items ∙ append_assoc c.args.lists.now.items (c.in_ok-bytes.bytes ∷ []) h.0, all_fetched g.C.Cabinet.held g.C.Cabinet.faults g.C.Cabinet.fetched _ (source c.args.word c.as_str.result.now c.limit_at.result) _ _ _ c.in_ok-bytes.bytes _ is c.in_ok-bytes.ensures.ok h.2)) c.fetch_files.ensures.ok

pub returns-clause-err : goal.returns-clause-err
returns-clause-err g t c =
    let is = sources-first c.args.command c.args.word c.limit_at.result c.args.names.now c.in-Some.name.now c.in-Some.rest.now c.as_str.result.now c.in-Some.ensures.cases.0 c.as_str.ensures.value c.limit_at.ensures in
    IfErr-weaker c.fetch_files.result _ _ (λ ending h. later_fails g.C.Cabinet.held g.C.Cabinet.faults g.C.Cabinet.fetched _ (source c.args.word c.as_str.result.now c.limit_at.result) _ _ _ _ c.in_ok-bytes.bytes ending is c.in_ok-bytes.ensures.ok h) c.fetch_files.ensures.err
