-- `layout::width_of` meets its contract. Assumes nothing.
use native.Mathlib.Omega.{arith}
use Rattle.layout.specs.Layout.{width_of}
use Rattle.layout.proofs.Loads.{sum_more, sum_small, sum_done}
use Rattle.layout.proofs.width_of.Goals as goal

pub returns-in-Exactly : goal.returns-in-Exactly
unfolding width_of
returns-in-Exactly c =
    rw c.in-Exactly.is

pub overflow_add-sum : goal.overflow_add-sum
unfolding width_of
overflow_add-sum c =
    let l = c.loop-k in
    let h = sum_small _ _ _ _ l.invariant _ c.loop-k-test.true c.dealt-sum.ensures (omega arith) (omega arith) in
    omega (arith, h)

pub loop-k-preserved : goal.loop-k-preserved
unfolding width_of
loop-k-preserved c =
    sum_more _ _ _ _ c.loop-k.invariant _ c.loop-k-test.true c.dealt-sum.ensures

pub returns-after-loop-k : goal.returns-after-loop-k
unfolding width_of
returns-after-loop-k c =
    rw (c.in-AtMost.is, ← sum_done _ _ _ _ c.loop-k.invariant c.loop-k-test.false, ← c.max.ensures) c.min.ensures
