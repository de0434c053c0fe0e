use Rattle.std.proofs.Common.{◌≡◌, ◌≤◌, drop}
use Rattle.numerals.specs.Whole.{whole_of}
use Rattle.numerals.proofs.Scans.{capped}
use Rattle.numerals.proofs.read_whole.Given as goal

abbrev pub invariant-loop-b : goal.invariant-loop-b
invariant-loop-b l =
    (l.v ≤ 255) × (whole_of l.s ≡ capped l.v (drop l.b-index l.u))
