use Rattle.std.proofs.Common.{◌≡◌, take}
use Rattle.numerals.specs.Text.{has_byte}
use Rattle.numerals.proofs.has.Given as goal

abbrev pub invariant-loop-b : goal.invariant-loop-b
invariant-loop-b l =
    l.hit ≡ has_byte l.x (take l.b-index l.block)
