use mathlib.Core.Path.{◌≡◌}
use Rattle.rows.specs.Row.{last_in, unite_below}
use Rattle.rows.proofs.last_of.Given as goal

abbrev pub invariant-loop-s : goal.invariant-loop-s
invariant-loop-s l =
    l.acc ≡ unite_below (last_in l.rows) l.s
