use mathlib.Core.Path.{◌≡◌}
use lib.ListN.{take}
use Rattle.layout.specs.Layout.{partial}
use Rattle.layout.proofs.width_of.Given as goal

abbrev pub invariant-loop-k : goal.invariant-loop-k
invariant-loop-k l =
    l.sum ≡ partial l.d (take l.k-index l.loads)
