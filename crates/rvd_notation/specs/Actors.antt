-- How actors and analyzers are named. The history, the journal, scripts and event files share these words.
use Rattle.std.specs.Prelude.{ℕ, ◌-◌, List, ◌++◌, ◌&&◌, nat_le, codes, if◌then◌else◌}
use Rattle.std.specs.Fmt.{decimal}
use Rattle.rvd_ask.specs.declared.asks.Analyzer.{Analyzer}
use Rattle.rvd_ask.specs.declared.asks.Analyzer.TheVariants.{Flow, Refs, Funcs, Body, Strings}
use Rattle.rvd_event.specs.declared.queries.Names.{Names}

abbrev pub analyzer_word : Analyzer → List ℕ
analyzer_word Flow = codes "flow"
analyzer_word Refs = codes "refs"
analyzer_word Funcs = codes "funcs"
analyzer_word Body = codes "body"
analyzer_word Strings = codes "strings"

-- an actor: sessions have the numbers from 1 on, and workers those after them. A number that is neither's is written
-- as a worker's, by its distance above the sessions
abbrev pub actor_text : Names → ℕ → List ℕ
actor_text names actor =
    if nat_le 1 actor && nat_le actor names.sessions then codes "s" ++ decimal actor
    else codes "w" ++ decimal (actor - names.sessions)
