-- The counts of a program, one more entry at a time: `counts_more` and `counts_same`. Use `room` for what bounds them.
use Rattle.std.proofs.Common.{◌≡◌, ℕ, ◌+◌, ◌^◌, ◌<◌, ◌≤◌, Bool, true, false, cond, ◌&&◌, not, length, take, get_or, refl, sym, ap, ◌∙◌, arith, length-take}
use Rattle.std.specs.Prelude.{◌==◌}
use Rattle.std.proofs.lemmas.Bool.{and_from}
use Rattle.std.proofs.lemmas.List.Sums.{count_by-le-length, count_by_more_no, count_by_more_yes}
use Rattle.rvd_fact.specs.declared.keys.Kind.{Kind}
use Rattle.rvd_fact.specs.declared.keys.Kind.TheVariants as kind
use Rattle.rvd_fact.specs.declared.keys.Key.{Key}
use Rattle.rvd_fact.specs.declared.cells.Cell.{Cell}
use Rattle.rvd_fact.specs.Order.{rank}
use Rattle.rvd_fact.specs.Program.{Program, is_gone}
use Rattle.rvd_listing.specs.Lookups.{is_fact_of}
use Rattle.rvd_query.specs.Counts.{count_of, counted, counts_of, more_if, HasRoom}

and_false : (b c : Bool) → c ≡ false → (b && c) ≡ false
and_false true c h = h
and_false false c h = refl

module _ (S : Program) (i : ℕ) (e : Key × Cell) (within : i < length S) (at : e ≡ get_or S i e) where
  passes_at : (k : Kind) (b : Bool) → is_fact_of k e ≡ b → is_fact_of k (get_or S i e) ≡ b
  passes_at k b h = ap (is_fact_of k) (sym at) ∙ h

  -- one more entry that is present
  one_more : (k : Kind) → is_gone e.1.value ≡ false → count_of k (take (i + 1) S) ≡ more_if e.0.kind k (count_of k (take i S))
  one_more k present =
      elim (rank e.0.kind == rank k) as (λ b. (rank e.0.kind == rank k) ≡ b → count_of k (take (i + 1) S) ≡ cond b (count_of k (take i S) + 1) (count_of k (take i S))) [
        | true ↦ λ of. count_by_more_yes (is_fact_of k) S i e within (passes_at k true (and_from (rank e.0.kind == rank k) (not (is_gone e.1.value)) of (ap not present)))
        | false ↦ λ other. count_by_more_no (is_fact_of k) S i e within (passes_at k false (ap (λ (b : Bool). b && not (is_gone e.1.value)) other))
      ] refl

  -- one more entry that is gone
  none_more : (k : Kind) → is_gone e.1.value ≡ true → count_of k (take (i + 1) S) ≡ count_of k (take i S)
  none_more k gone = count_by_more_no (is_fact_of k) S i e within (passes_at k false (and_false (rank e.0.kind == rank k) (not (is_gone e.1.value)) (ap not gone)))

  pub counts_more : is_gone e.1.value ≡ false → counts_of (take (i + 1) S) ≡ counted (counts_of (take i S)) e.0.kind
  unfolding counts_of
  counts_more present = λ j. record {
    blocks = one_more kind.Block present j;
    units = one_more kind.Unit present j;
    symbols = one_more kind.Symbol present j;
    refs = one_more kind.Ref present j;
    funcs = one_more kind.Func present j;
    comments = one_more kind.Comment present j;
    bookmarks = one_more kind.Bookmark present j;
    marks = one_more kind.Mark present j;
  }

  pub counts_same : is_gone e.1.value ≡ true → counts_of (take (i + 1) S) ≡ counts_of (take i S)
  unfolding counts_of
  counts_same gone = λ j. record {
    blocks = none_more kind.Block gone j;
    units = none_more kind.Unit gone j;
    symbols = none_more kind.Symbol gone j;
    refs = none_more kind.Ref gone j;
    funcs = none_more kind.Func gone j;
    comments = none_more kind.Comment gone j;
    bookmarks = none_more kind.Bookmark gone j;
    marks = none_more kind.Mark gone j;
  }

-- no count of the first entries is above their number
few : (k : Kind) (S : Program) (i : ℕ) → count_of k (take i S) ≤ i
few k S i =
    let most : count_of k (take i S) ≤ length (take i S) = count_by-le-length (is_fact_of k) (take i S) in
    omega (arith, most, length-take i S)

fits : (k : Kind) (S : Program) (i : ℕ) → i + 1 < 2 ^ 64 → count_of k (take i S) + 1 < 2 ^ 64
fits k S i short = let most : count_of k (take i S) ≤ i = few k S i in omega (arith, most, short)

pub room : (S : Program) (i : ℕ) → i + 1 < 2 ^ 64 → HasRoom (counts_of (take i S))
unfolding counts_of
room S i short = record {
  blocks = fits kind.Block S i short;
  units = fits kind.Unit S i short;
  symbols = fits kind.Symbol S i short;
  refs = fits kind.Ref S i short;
  funcs = fits kind.Func S i short;
  comments = fits kind.Comment S i short;
  bookmarks = fits kind.Bookmark S i short;
  marks = fits kind.Mark S i short;
}
