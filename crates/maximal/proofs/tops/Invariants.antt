use Rattle.maximal.proofs.Passes.{Seen}
use Rattle.maximal.proofs.tops.Given as goal

abbrev pub invariant-loop-b : goal.invariant-loop-b
invariant-loop-b l =
    Seen l.table l.k l.b l.covered
