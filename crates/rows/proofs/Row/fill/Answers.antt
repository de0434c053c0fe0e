-- `rows::Row::fill` meets its contract. Assumes nothing.
use mathlib.Core.Path.{refl}
use Prim.Native.Nat.{ℕ, ◌+◌}
use native.Mathlib.Omega.{arith}
use Rattle.rows.specs.Row.{row_of}
use Rattle.rows.proofs.TableLoops.{rows_start, rows_more, rows_length}
use Rattle.rows.proofs.Row.fill.Goals as goal

pub loop-s-init : goal.loop-s-init
loop-s-init c =
    (refl, search rows_start)

pub loop-s-preserved : goal.loop-s-preserved
loop-s-preserved c =
    let k = c.loop-s in
    let f : (ℕ → ℕ) = λ (_ : ℕ). row_of c.args.self in
    let e = rows_more f c.args.rows.now k.s (row_of c.args.self) k.rows c.put.new.rows (omega arith) k.invariant.1 refl c.put.ensures in
    (rows_length f c.args.rows.now (k.s + 1) c.put.new.rows (omega arith) e, e)
