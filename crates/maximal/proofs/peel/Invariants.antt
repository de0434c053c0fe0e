use Rattle.maximal.proofs.Passes.{Kept, Left}
use Rattle.maximal.proofs.peel.Given as goal

abbrev pub invariant-loop-k : goal.invariant-loop-k
invariant-loop-k l =
    record { done : Kept l.initial.table l.n l.table l.k; left : Left l.initial.table l.table l.k }
