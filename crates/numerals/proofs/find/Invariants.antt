use Rattle.std.proofs.Common.{◌≡◌, ◌+◌, ◌-◌, ◌≤◌, length}
use Rattle.numerals.specs.Text.{cut}
use Rattle.numerals.proofs.find.Given as goal

abbrev pub invariant-loop-block : goal.invariant-loop-block
invariant-loop-block l =
    (length l.rest ≤ length l.s) × (cut l.x l.s ≡ length l.s - length l.rest + cut l.x l.rest)

abbrev pub decreases-loop-block : goal.decreases-loop-block
decreases-loop-block l =
    length l.rest
