-- What a change wakes on the worked example, and which items may be unsettled there.
use Rattle.std.proofs.Common.{◌≡◌, ℕ, refl, Some, None, List, [], ◌∷◌}
use Rattle.std.specs.Prelude.{filter, flat_map, map}
use Rattle.rvd_decode.specs.Table.{operation}
use Rattle.rvd_fact.specs.declared.cells.Cell.{Cell}
use Rattle.rvd_fact.specs.declared.cells.Change.{Change}
use Rattle.rvd_fact.specs.declared.values.RefClass.TheVariants.{Call}
use Rattle.rvd_fact.specs.declared.values.Source.TheVariants.{Analysis, UserDefined}
use Rattle.rvd_fact.specs.declared.values.Value.{Value}
use Rattle.rvd_fact.specs.declared.values.Value.TheVariants.{Mark, Func, Body as BodyOf, Code, Ref, Gone}
use Rattle.rvd_fact.specs.Program.{Program, applied}
use Rattle.rvd_fact.specs.Memory.{block_key, func_key, unit_key}
use Rattle.rvd_ask.specs.declared.asks.Analyzer.{Analyzer}
use Rattle.rvd_ask.specs.declared.asks.Analyzer.TheVariants.{Flow, Refs, Funcs, Body, Strings}
use Rattle.rvd_ask.specs.declared.asks.Item.{Item}
use Rattle.rvd_ask.specs.Places.{body_key, mark_key, ref_key}
use Rattle.rvd_ask.specs.Flow.{flow_rule, openable}
use Rattle.rvd_ask.specs.Refs.{refs_rule}
use Rattle.rvd_ask.specs.Funcs.{funcs_rule}
use Rattle.rvd_ask.specs.Reach.{reach}
use Rattle.rvd_ask.specs.Body.{body_rule}
use Rattle.rvd_ask.specs.Rules.{rule}
use Rattle.rvd_ask.specs.Wake.{is_candidate, item, wakes}
use Rattle.rvd_ask.proofs.SmallFile.{analyzed, code_block, file_bytes, imported_cell}

abbrev user : Value → Cell
user v = record { value = v; source = UserDefined }

abbrev found : Value → Cell
found v = record { value = v; source = Analysis }

-- the program of an analyst's function whose third unit was cleared
abbrev cleared : Program
cleared =
    (block_key 0x10054, code_block (file_bytes (0x6f ∷ 0 ∷ 0 ∷ 0 ∷ [])))
    ∷ (mark_key 0x10054, imported_cell Mark)
    ∷ (unit_key 0x10054, found (Code 0x00100513))
    ∷ (unit_key 0x10058, found (Code 0x008000ef))
    ∷ (ref_key 0x10058 0, found (Ref 0x10060 Call))
    ∷ (unit_key 0x1005c, user Gone)
    ∷ (func_key 0x10060, user Func)
    ∷ (body_key 0x10060, user (BodyOf ((0x10054, 0x10063) ∷ [])))
    ∷ (unit_key 0x10060, found (Code 0x00008067))
    ∷ []

abbrev release : Change
release = record { key = unit_key 0x1005c; before = Some (user Gone); after = None }

-- the items of all analyzers at some addresses
abbrev analyzers : List Analyzer
analyzers = Flow ∷ Refs ∷ Funcs ∷ Body ∷ Strings ∷ []

abbrev items_at : List ℕ → List Item
items_at places = flat_map (λ a. map (item a) places) analyzers

abbrev places : List ℕ
places = 0x1004c ∷ 0x10050 ∷ 0x10054 ∷ 0x10055 ∷ 0x10058 ∷ 0x10059 ∷ 0x1005a ∷ 0x1005c ∷ 0x1005d ∷ 0x1005f ∷ 0x10060 ∷ 0x10064 ∷ 0x10068 ∷ []

woken_by_a_release : filter (wakes (applied cleared release) release) (items_at places)
    ≡ item Flow 0x10058 ∷ item Flow 0x1005c ∷ item Refs 0x1005c ∷ item Refs 0x10060 ∷ item Funcs 0x1005c ∷ item Body 0x1005c ∷ item Body 0x10060 ∷ []
unfolding wakes
woken_by_a_release = refl

abbrev candidates : List Item
candidates =
    item Flow 0x10054 ∷ item Flow 0x10058 ∷ item Flow 0x1005c ∷ item Flow 0x10060
    ∷ item Refs 0x10054 ∷ item Refs 0x10058 ∷ item Refs 0x1005c ∷ item Refs 0x10060
    ∷ item Funcs 0x10060 ∷ item Body 0x10060 ∷ []

candidates_of_the_analyzed : filter (is_candidate analyzed) (items_at places) ≡ candidates
unfolding is_candidate
candidates_of_the_analyzed = refl

-- and each of them is settled
no_candidate_is_unsettled : flat_map (rule analyzed) candidates ≡ []
unfolding operation openable flow_rule refs_rule funcs_rule reach body_rule rule
no_candidate_is_unsettled = refl
