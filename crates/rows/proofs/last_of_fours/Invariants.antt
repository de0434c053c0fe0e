use mathlib.Core.Path.{◌≡◌}
use Prim.Native.Nat.{◌*◌}
use lib.Bits.{bit_or}
use Rattle.rows.specs.Row.{last_in, unite_below}
use Rattle.rows.proofs.last_of_fours.Given as goal

abbrev pub invariant-loop-g : goal.invariant-loop-g
invariant-loop-g l =
    bit_or (bit_or l.a l.b) (bit_or l.c l.d) ≡ unite_below (last_in l.rows) (l.g * 4)
