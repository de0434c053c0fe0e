-- `layout::heard_loads` meets its contract. Assumes nothing.
use native.Mathlib.Omega.{arith}
use Rattle.lists.proofs.BelowLoops.{filled_none, filled_more, filled_done}
use Rattle.layout.specs.Layout.{heard_load, heard_loads}
use Rattle.layout.proofs.heard_loads.Goals as goal

pub loop-s-init : goal.loop-s-init
unfolding heard_loads
loop-s-init c =
    search filled_none

pub loop-s-preserved : goal.loop-s-preserved
loop-s-preserved c =
    filled_more (heard_load c.args.answered c.args.loads.now) _ _ _ c.loop-s.invariant _ (omega arith) c.heard_load.ensures

pub returns : goal.returns
unfolding heard_loads
returns c =
    filled_done _ _ _ _ c.loop-s.invariant (omega arith)
