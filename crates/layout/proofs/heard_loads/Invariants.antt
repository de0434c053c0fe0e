use lib.ListN.{length}
use Rattle.lists.proofs.BelowLoops.{Filled}
use Rattle.layout.specs.Layout.{heard_load}
use Rattle.layout.proofs.heard_loads.Given as goal

abbrev pub invariant-loop-s : goal.invariant-loop-s
invariant-loop-s l =
    Filled (heard_load l.answered l.loads) (length l.loads) l.heard l.s
