-- `maximal::peel` meets its contract. The loop's invariant: the words below k are done, and the others as they were. Assumes nothing.
use native.Mathlib.Omega.{arith}
use Prim.Native.Nat.{◌<◌}
use lib.ListN.{length}
use Rattle.maximal.proofs.Passes.{one_kept, rest_left, all_kept}
use Rattle.maximal.proofs.peel.Goals as goal

pub loop-k-preserved : goal.loop-k-preserved
loop-k-preserved c =
    let l = c.loop-k in
    let inside : l.k < length l.table = omega arith in
    let more = one_kept c.args.table.now c.args.n l.table l.k l.invariant.done l.invariant.left _ inside c.tops-w.ensures in
    record { done = more; left = rest_left c.args.table.now c.args.n l.table l.k l.invariant.done l.invariant.left _ inside c.tops-w.ensures }

pub returns : goal.returns
returns c =
    let l = c.loop-k in
    all_kept c.args.table.now c.args.n l.table l.k l.invariant.done l.invariant.left (omega arith) (omega arith)
