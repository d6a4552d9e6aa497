-- Which items a change may unsettle, and which items may be unsettled at all. Use `wakes` and `is_candidate` as tests of an
-- item; `WakeLaw` and `CandidateLaw` say what they are good for.
use Rattle.std.specs.Prelude.{◌≡◌, ℕ, zero, suc, ◌+◌, ◌-◌, ◌%◌, ◌^◌, ◌<◌, Bool, true, false, ◌&&◌, ◌||◌, ◌==◌, nat_lt, nat_le, List, [], ◌∷◌, Option, Some, None, is_none, if◌then◌else◌}
use Rattle.std.specs.List.{list_any}
use Rattle.rvd_fact.specs.declared.keys.Kind.{Kind}
use Rattle.rvd_fact.specs.declared.keys.Kind.TheVariants as kind
use Rattle.rvd_fact.specs.declared.keys.Key.{Key}
use Rattle.rvd_fact.specs.declared.cells.Cell.{Cell}
use Rattle.rvd_fact.specs.declared.cells.Change.{Change}
use Rattle.rvd_fact.specs.declared.values.Form.{Form}
use Rattle.rvd_fact.specs.declared.values.Form.TheVariants.{Byte, Half, Word, Str}
use Rattle.rvd_fact.specs.declared.values.RefClass.TheVariants.{Call}
use Rattle.rvd_fact.specs.declared.values.Value.{Value}
use Rattle.rvd_fact.specs.declared.values.Value.TheVariants.{Body as BodyOf, Code, Plain, Ref, Gone}
use Rattle.rvd_fact.specs.Program.{Program, cell_at, applied, is_present}
use Rattle.rvd_fact.specs.Memory.{func_key, unit_key, has_ref_to, unit_len}
use Rattle.rvd_fact.specs.Ranges.{has_address}
use Rattle.rvd_fact.specs.Valid.{IsValid}
use Rattle.rvd_ask.specs.declared.asks.Analyzer.{Analyzer}
use Rattle.rvd_ask.specs.declared.asks.Analyzer.TheVariants.{Flow, Refs, Funcs, Body, Strings}
use Rattle.rvd_ask.specs.declared.asks.Item.{Item}
use Rattle.rvd_ask.specs.Places.{body_key, mark_key, next_word, word_before}
use Rattle.rvd_ask.specs.Body.{body_rule, is_analysis}
use Rattle.rvd_ask.specs.Strings.{is_read_at}
use Rattle.rvd_ask.specs.Rules.{rule}

-- whether a value is a present reference to t, and whether a cell is
abbrev pub goes_to : ℕ → Value → Bool
goes_to t (Ref to class) = to == t
goes_to t v = false

abbrev pub cell_goes_to : ℕ → Option Cell → Bool
cell_goes_to t None = false
cell_goes_to t (Some c) = goes_to t c.value

-- whether a is one of the froms of t: it has a present reference to t
abbrev pub is_from : Program → ℕ → ℕ → Bool
is_from S t a = list_any (λ (e : Key × Cell). e.0.at == a && goes_to t e.1.value) S

-- whether a value is a present body that has an address
abbrev pub body_with : ℕ → Value → Bool
body_with a (BodyOf ranges) = has_address a ranges
body_with a v = false

abbrev pub cell_body_with : ℕ → Option Cell → Bool
cell_body_with a None = false
cell_body_with a (Some c) = body_with a c.value

-- whether the present body of e has an address
abbrev pub body_has : Program → ℕ → ℕ → Bool
body_has S e a = cell_body_with a (cell_at S (body_key e))

-- whether the present body of e has a from of z
abbrev pub body_has_from : Program → ℕ → ℕ → Bool
body_has_from S z e = list_any (λ (x : Key × Cell). goes_to z x.1.value && body_has S e x.0.at) S

-- whether e is among the bodies near z: it is z, or its body has z, z - 4 or a from of z
abbrev pub is_near : Program → ℕ → ℕ → Bool
is_near S z e = e == z || (body_has S e z || (body_has S e (word_before z) || body_has_from S z e))

-- how many bytes a unit's cell stands on: those of a present unit, and one for Gone
abbrev pub stood_on : Value → ℕ
stood_on Gone = 1
stood_on v = unit_len v

abbrev pub same_form : Form → Form → Bool
same_form Byte Byte = true
same_form Half Half = true
same_form Word Word = true
same_form (Str m) (Str n) = m == n
same_form f g = false

-- whether two values of units, or two Gone, are one
abbrev pub same_unit : Value → Value → Bool
same_unit (Code v) (Code w) = v == w
same_unit (Plain f) (Plain g) = same_form f g
same_unit Gone Gone = true
same_unit v w = false

abbrev pub is_unit_of : Value → Option Cell → Bool
is_unit_of v None = false
is_unit_of v (Some c) = same_unit v c.value

-- how many bytes go from a unit's address on: where its cell after the change has another value than before, or is none
abbrev pub bytes_gone : Option Cell → Option Cell → ℕ
bytes_gone None after = 0
bytes_gone (Some c) after = if is_unit_of c.value after then 0 else stood_on c.value

abbrev pub gone_from : Change → ℕ
gone_from c = bytes_gone c.before c.after

-- the addresses whose four bytes may meet n bytes from z on
abbrev pub around : ℕ → ℕ → List ℕ
around z zero = (z - 3) ∷ (z - 2) ∷ (z - 1) ∷ []
around z (suc n) = (z + n) ∷ around z n

-- whether t is a multiple of 4 whose four bytes meet the n bytes from z on
abbrev pub meets : ℕ → ℕ → ℕ → Bool
meets z n t = t % 4 == 0 && (nat_lt 0 n && (nat_lt t (z + n) && nat_lt z (t + 4)))

-- whether flow at x may come to t now: x is t, the word before it, or one of its froms
abbrev pub comes_to : Program → ℕ → ℕ → Bool
comes_to S x t = x == t || (x == word_before t || is_from S t x)

-- whether flow at x may come to a word that meets the n bytes from z on
abbrev pub comes_near : Program → ℕ → ℕ → ℕ → Bool
comes_near S z n x = list_any (λ t. meets z n t && comes_to S x t) (around z n)

-- whether flow has a start at x
abbrev pub is_flow_candidate : Program → ℕ → Bool
is_flow_candidate S x = is_present (cell_at S (mark_key x)) || (is_present (cell_at S (func_key x)) || is_present (cell_at S (unit_key x)))

-- which items of each analyzer a change wakes, by the kind of its key: S is the program after it
abbrev pub wakes_flow : Kind → Program → Change → ℕ → Bool
wakes_flow kind.Unit S c x = x == c.key.at || comes_near S c.key.at (gone_from c) x
wakes_flow kind.Ref S c x = x == c.key.at
wakes_flow kind.Func S c x = x == c.key.at
wakes_flow kind.Mark S c x = x == c.key.at
wakes_flow kind.Bookmark S c x = c.key.sub == 4 && (is_none c.after && comes_to S x c.key.at)
wakes_flow kind.Block S c x = is_flow_candidate S x
wakes_flow k S c x = false

abbrev pub wakes_refs : Kind → Program → Change → ℕ → Bool
wakes_refs kind.Unit S c y = y == c.key.at || y == next_word c.key.at
wakes_refs kind.Ref S c y = y == c.key.at
wakes_refs kind.Block S c y = is_present (cell_at S (unit_key y))
wakes_refs k S c y = false

abbrev pub wakes_funcs : Kind → Program → Change → ℕ → Bool
wakes_funcs kind.Unit S c t = t == c.key.at
wakes_funcs kind.Func S c t = t == c.key.at
wakes_funcs kind.Ref S c t = cell_goes_to t c.before || cell_goes_to t c.after
wakes_funcs kind.Block S c t = has_ref_to S t Call
wakes_funcs k S c t = false

abbrev pub wakes_body : Kind → Program → Change → ℕ → Bool
wakes_body kind.Unit S c e = is_near S c.key.at e
wakes_body kind.Func S c e = is_near S c.key.at e
wakes_body kind.Ref S c e = body_has S e c.key.at
wakes_body kind.Body S c e = is_none c.after && e == c.key.at
wakes_body kind.Block S c e = is_present (cell_at S (func_key e))
wakes_body k S c e = false

-- a string that has one of the n bytes from z on begins at t, which something reads
abbrev pub meets_string : Program → ℕ → ℕ → ℕ → Bool
meets_string S z n t = nat_lt 0 n && (nat_le z (t + 255) && (nat_lt t (z + n) && is_read_at S t))

abbrev pub wakes_strings : Kind → Program → Change → ℕ → Bool
wakes_strings kind.Unit S c t = meets_string S c.key.at (gone_from c) t
wakes_strings kind.Ref S c t = cell_goes_to t c.before || cell_goes_to t c.after
wakes_strings kind.Block S c t = is_read_at S t
wakes_strings k S c t = false

abbrev pub wakes_of : Analyzer → Program → Change → ℕ → Bool
wakes_of Flow S c a = wakes_flow c.key.kind S c a
wakes_of Refs S c a = wakes_refs c.key.kind S c a
wakes_of Funcs S c a = wakes_funcs c.key.kind S c a
wakes_of Body S c a = wakes_body c.key.kind S c a
wakes_of Strings S c a = wakes_strings c.key.kind S c a

-- whether a change wakes an item, where S is the program after it
unfoldable pub wakes : Program → Change → Item → Bool
wakes S c i = wakes_of i.analyzer S c i.at

-- whether one of some changes wakes an item, each in the program after it, where S is the program before them
abbrev pub any_wakes : Program → List Change → Item → Bool
any_wakes S [] i = false
any_wakes S (c ∷ cs) i = wakes (applied S c) c i || any_wakes (applied S c) cs i

abbrev pub candidate_of : Analyzer → Program → ℕ → Bool
candidate_of Flow S x = is_flow_candidate S x
candidate_of Refs S y = is_present (cell_at S (unit_key y))
candidate_of Funcs S t = has_ref_to S t Call
candidate_of Body S e = is_present (cell_at S (func_key e))
candidate_of Strings S t = is_read_at S t

-- whether an item may be unsettled
unfoldable pub is_candidate : Program → Item → Bool
is_candidate S i = candidate_of i.analyzer S i.at

-- whether what is set is an analyzer's cell
abbrev pub is_own : Option Cell → Bool
is_own None = false
is_own (Some c) = is_analysis c.source

-- a change leads from one valid program to another; one that sets a body to an analyzer's cell is that of the rule
pub record Leads (S : Program) (c : Change) : Type 0 where
  pub before : IsValid S
  pub here : cell_at S c.key ≡ c.before
  pub after : IsValid (applied S c)
  pub by_rule : (e : ℕ) → c.key ≡ body_key e → is_own c.after ≡ true → body_rule S e ≡ c ∷ []

abbrev pub item : Analyzer → ℕ → Item
item a at = record { analyzer = a; at = at }

-- what is unsettled after a change and isn't woken by it was unsettled before
abbrev pub WakeLaw : Analyzer → Type 0
WakeLaw a =
    (S : Program) (c : Change) (at : ℕ) → at < 2 ^ 32 → Leads S c → wakes (applied S c) c (item a at) ≡ false
    → rule S (item a at) ≡ [] → rule (applied S c) (item a at) ≡ []

-- what is unsettled is a candidate
abbrev pub CandidateLaw : Analyzer → Type 0
CandidateLaw a = (S : Program) (at : ℕ) → IsValid S → is_candidate S (item a at) ≡ false → rule S (item a at) ≡ []
