use Rattle.std.proofs.Common.{get_or}
use Rattle.rvd_text.specs.Hex.{hex8}
use Rattle.rvd_query.proofs.JoinedWords.{first_kept, words_appended}
use Rattle.rvd_query.proofs.words.push_addresses.Goals as goal

pub returns-clause-ok : goal.returns-clause-ok
returns-clause-ok c =
    words_appended hex8 c.push_more_addresses.result c.args.addresses.now 0 c.args.out.now.items c.push_hex8.new.out.items c.push_more_addresses.new.out.items c.in-len1-up.len_at_least c.in_ok-push_hex8.ensures.ok c.push_more_addresses.ensures.ok

pub returns-clause-err : goal.returns-clause-err
returns-clause-err c =
    first_kept c.push_more_addresses.result c.args.out.now.items (hex8 (get_or c.args.addresses.now 0 0)) c.push_hex8.new.out.items c.push_more_addresses.new.out.items c.in_ok-push_hex8.ensures.ok c.push_more_addresses.ensures.err
