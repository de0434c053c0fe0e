-- The sets below m are done, and the others as they were.
use Rattle.std.proofs.Common.{◌≡◌}
use Rattle.faults.specs.Family.{is_sized}
use Rattle.faults.proofs.Marks.{Done, Left}
use Rattle.faults.proofs.mark_sized.Given as goal

abbrev pub invariant-loop-m : goal.invariant-loop-m
invariant-loop-m g l =
    record {
      replicas : l.marks.replicas ≡ l.initial.marks.replicas;
      done : Done (is_sized l.f) l.initial.marks.words l.m l.marks.words;
      left : Left (is_sized l.f) l.initial.marks.words l.m l.marks.words;
    }
