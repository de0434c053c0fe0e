use Rattle.std.proofs.Common.{◌≡◌, ◌^◌, length, take}
use Rattle.lists.specs.Below.{those_below, front}
use Rattle.marks.specs.Marks.{flagged}
use Rattle.marks.proofs.write.Given as goal

abbrev pub invariant-loop-i : goal.invariant-loop-i
invariant-loop-i l =
    l.list ≡ front (take (length l.yielded) (those_below (flagged l.table) (2 ^ l.n))) l.initial.list
