use Rattle.maximal.proofs.Passes.{Done, Left}
use Rattle.maximal.proofs.spread.Given as goal

abbrev pub invariant-loop-k : goal.invariant-loop-k
invariant-loop-k l =
    record { done : Done l.initial.table l.b l.table l.k; left : Left l.initial.table l.table l.k }
