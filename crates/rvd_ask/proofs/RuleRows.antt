-- The rules on the worked example: each proposes what comes next, and at the end none proposes anything.
use Rattle.std.proofs.Common.{◌≡◌, refl, List, [], ◌∷◌}
use Rattle.rvd_decode.specs.Table.{operation}
use Rattle.rvd_fact.specs.declared.cells.Change.{Change}
use Rattle.rvd_fact.specs.declared.values.Value.TheVariants.{Bookmark}
use Rattle.rvd_fact.specs.Program.{Program, applied_all}
use Rattle.rvd_fact.specs.Memory.{block_key, func_key, unit_key}
use Rattle.rvd_ask.specs.declared.asks.Analyzer.TheVariants.{Flow, Refs, Funcs, Body}
use Rattle.rvd_ask.specs.declared.asks.Ask.TheVariants as ask
use Rattle.rvd_ask.specs.Places.{addition, body_key, error_key, mark_key}
use Rattle.rvd_ask.specs.Flow.{bad_instruction, flow_asks, flow_rule, openable, openable_asks}
use Rattle.rvd_ask.specs.Refs.{refs_rule}
use Rattle.rvd_ask.specs.Funcs.{funcs_rule}
use Rattle.rvd_ask.specs.Reach.{reach}
use Rattle.rvd_ask.specs.Body.{body_asks, body_rule}
use Rattle.rvd_ask.specs.Rules.{asks, rule}
use Rattle.rvd_ask.specs.Wake.{item}
use Rattle.rvd_ask.proofs.SmallFile.{imported, imported_with, code, first_units, with_units, call_ref, jump_ref, with_refs, called_unit, with_call, called_func, with_func, called_body}

flow_at_the_entry : rule imported (item Flow 0x10054) ≡ first_units
unfolding operation openable flow_rule rule
flow_at_the_entry = refl

flow_with_nothing_at_it : rule imported (item Flow 0x10058) ≡ []
unfolding operation openable flow_rule rule
flow_with_nothing_at_it = refl

refs_at_a_call : rule with_units (item Refs 0x10058) ≡ call_ref ∷ []
unfolding operation refs_rule rule
refs_at_a_call = refl

refs_at_a_jump : rule with_units (item Refs 0x1005c) ≡ jump_ref ∷ []
unfolding operation refs_rule rule
refs_at_a_jump = refl

refs_at_no_jump : rule with_units (item Refs 0x10054) ≡ []
unfolding operation refs_rule rule
refs_at_no_jump = refl

flow_at_a_call : rule with_refs (item Flow 0x10058) ≡ called_unit ∷ []
unfolding operation openable flow_rule rule
flow_at_a_call = refl

funcs_at_the_called : rule with_call (item Funcs 0x10060) ≡ called_func ∷ []
unfolding funcs_rule rule
funcs_at_the_called = refl

body_of_the_called : rule with_func (item Body 0x10060) ≡ called_body ∷ []
unfolding operation reach body_rule rule
body_of_the_called = refl

-- the word 0 decodes as nothing: flow stops before it, and then marks it
abbrev bad : Program
bad = imported_with (0 ∷ 0 ∷ 0 ∷ 0 ∷ [])

abbrev two_units : List Change
two_units = code 0x10054 0x00100513 ∷ code 0x10058 0x008000ef ∷ []

flow_before_a_bad_word : rule bad (item Flow 0x10054) ≡ two_units
unfolding operation openable flow_rule rule
flow_before_a_bad_word = refl

flow_at_a_bad_word : rule (applied_all bad two_units) (item Flow 0x10058) ≡ addition (error_key 0x1005c) (Bookmark bad_instruction) ∷ []
unfolding operation openable flow_rule rule
flow_at_a_bad_word = refl

-- the asks of flow at the call: the cells of its address, its references, and what decides whether its starts are passed over
flow_asks_at_a_call : asks with_refs (item Flow 0x10058)
    ≡ ask.Cell (mark_key 0x10058) ∷ ask.Cell (func_key 0x10058) ∷ ask.Cell (unit_key 0x10058) ∷ ask.From 0x10058
    ∷ ask.Block 0x1005c ∷ ask.Cell (block_key 0x10054) ∷ ask.Cover 0x1005c
    ∷ ask.Block 0x10060 ∷ ask.Cell (block_key 0x10054) ∷ ask.Cover 0x10060 ∷ ask.Cover 0x10061 ∷ ask.Cover 0x10062 ∷ ask.Cover 0x10063 ∷ ask.Cell (unit_key 0x10060) ∷ ask.Bytes 0x10060 4
    ∷ []
unfolding operation openable openable_asks flow_asks asks
flow_asks_at_a_call = refl

-- where no function is at e, its body isn't asked for
body_asks_at_no_function : asks with_call (item Body 0x10060) ≡ ask.Cell (func_key 0x10060) ∷ []
unfolding operation reach body_asks asks
body_asks_at_no_function = refl

body_asks_at_a_function : asks with_func (item Body 0x10060)
    ≡ ask.Cell (func_key 0x10060) ∷ ask.Cell (body_key 0x10060) ∷ ask.Cell (unit_key 0x10060) ∷ ask.From 0x10060 ∷ []
unfolding operation reach body_asks asks
body_asks_at_a_function = refl
