use mathlib.Core.Path.{◌≡◌}
use Prim.Native.Nat.{ℕ}
use lib.ListN.{length}
use Rattle.lists.specs.Below.{each_below, front}
use Rattle.rows.specs.Row.{row_of, spelled}
use Rattle.rows.proofs.Row.fill.Given as goal

abbrev pub invariant-loop-s : goal.invariant-loop-s
invariant-loop-s l =
    (length l.rows ≡ length l.initial.rows) × (l.rows ≡ front (spelled (each_below (λ (_ : ℕ). row_of l.self) l.s)) l.initial.rows)
