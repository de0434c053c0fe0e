use Rattle.maximal.proofs.Passes.{Reached}
use Rattle.maximal.proofs.keep.Given as goal

abbrev pub invariant-loop-b : goal.invariant-loop-b
invariant-loop-b l =
    Reached l.initial.table l.n l.b l.table
