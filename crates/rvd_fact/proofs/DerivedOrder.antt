-- The derived order of keys is the order that the definitions name. Code over `Ord` speaks of the derived
-- one: rewrite by `derived_is` where a definition speaks of `key_cmp`.
use Rattle.std.proofs.Common.{◌≡◌, rules, ap}
use Rattle.rvd_fact.specs.declared.keys.Kind.{Kind}
use Rattle.rvd_fact.specs.declared.keys.Key.{Key}
use Rattle.std.specs.declared.cmp.Ordering.{Ordering}
use Rattle.std.specs.Ordering.{nat_cmp, ordering_then}
use Rattle.rvd_fact.specs.Order.{rank, key_cmp}
use Rattle.rvd_fact.specs.contracts.keys.KeyOrd.TheImpl.{cmp-value}
use Rattle.rvd_fact.specs.contracts.keys.KindOrd.TheImpl as kind_impl

kind_same : (a b : Kind) → kind_impl.cmp-value.it a b ≡ nat_cmp (rank a) (rank b)
kind_same a b = search rules

same : (a b : Key) → cmp-value.it a b ≡ key_cmp a b
same a b = ap (λ (o : Ordering). ordering_then (nat_cmp a.at b.at) (ordering_then o (nat_cmp a.sub b.sub))) (kind_same a.kind b.kind)

pub derived_is : cmp-value.it ≡ key_cmp
derived_is = λ i a b. same a b i
