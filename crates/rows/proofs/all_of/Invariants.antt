use mathlib.Core.Path.{◌≡◌}
use Rattle.rows.specs.Row.{row_of, row_in, unite_below}
use Rattle.rows.proofs.all_of.Given as goal

abbrev pub invariant-loop-s : goal.invariant-loop-s
invariant-loop-s l =
    row_of l.acc ≡ unite_below (row_in l.rows) l.s
