use Rattle.rvd_fact.specs.declared.values.RefClass.TheVariants.{Call}
use Rattle.rvd_query.specs.Reply.{xref_text}
use Rattle.rvd_query.proofs.JoinedWords.{words_appended}
use Rattle.rvd_query.proofs.words.push_xrefs.Goals as goal

pub returns-clause-ok : goal.returns-clause-ok
returns-clause-ok c =
    words_appended xref_text c.push_more_xrefs.result c.args.xrefs.now (0, 0, Call) c.args.out.now.items c.push_xref.new.out.items c.push_more_xrefs.new.out.items c.in-len1-up.len_at_least c.in_ok-push_xref.ensures.ok c.push_more_xrefs.ensures.ok
