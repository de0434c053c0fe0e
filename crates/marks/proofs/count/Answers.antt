-- `marks::count` meets its contract: the sum of a 1 for each set that is flagged. Assumes nothing.
use mathlib.Core.Path.{◌∙◌, sym, ap}
use mathlib.Core.Bool.{Bool, cond}
use mathlib.Core.List.{List}
use Prim.Native.Nat.{ℕ, ◌^◌, ◌<◌}
use lib.ListN.{length}
use native.Mathlib.Omega.{arith}
use borrow.Author.Rules.{rules}
use borrow.Author.Tests.{tests}
use Rattle.std.specs.List.{range_with_len, sum_by}
use Rattle.std.proofs.lemmas.List.Sums.{length-filter, count_by-le-length}
use Rattle.std.proofs.lemmas.List.FromFn.{length-range_with_len}
use Rattle.std.proofs.lemmas.Iterator.{YieldsList-from_map, YieldsList-from_range}
use Rattle.std.proofs.lemmas.Iterator.Consumers.{sum_by_from_yields_List, fits_by_from_yields_list}
use Rattle.marks.specs.Marks.{flagged}
use Rattle.marks.proofs.Ranges.{those_listed}
use Rattle.marks.proofs.count.Goals as goal

one : (ℕ → Bool) → ℕ → ℕ
one f m = cond (f m) 1 0

pub sum-requires-clause-fits : goal.sum-requires-clause-fits
unfolding one
sum-requires-clause-fits c =
    let f = flagged c.args.table.now in
    let n : ℕ = 2 ^ c.args.n in
    let ys : List ℕ = range_with_len 0 n in
    let small : sum_by (one f) ys < 2 ^ 64 = omega (arith, count_by-le-length f ys, length-range_with_len 0 n, c.sets.ensures.small, c.sets.ensures.number) in
    fits_by_from_yields_list (one f) ys c.map.result _ (YieldsList-from_map _ (one f) (YieldsList-from_range 0 _ n c.map.ensures.source (omega arith)) c.map.ensures.closure (λ x r q k. search (rules, tests))) small

pub returns : goal.returns
unfolding one
returns c =
    let f = flagged c.args.table.now in
    let n : ℕ = 2 ^ c.args.n in
    let ys : List ℕ = range_with_len 0 n in
    sum_by_from_yields_List (one f) ys c.map.result _ c.sum.ensures.ran (YieldsList-from_map _ (one f) (YieldsList-from_range 0 _ n c.map.ensures.source (omega arith)) c.map.ensures.closure (λ x r q k. search (rules, tests)))
    ∙ sym (length-filter f ys) ∙ ap length (sym (those_listed f n))
