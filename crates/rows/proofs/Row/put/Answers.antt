-- `rows::Row::put` meets its contract. Assumes nothing.
use native.Mathlib.Omega.{arith}
use Prim.Native.Nat.{◌*◌}
use Rattle.rows.proofs.Facts.{are_words, put_is}
use Rattle.rows.proofs.Row.put.Goals as goal

pub returns : goal.returns
returns c =
    let a = c.args in put_is a.rows.now (a.s * 4) a.self (are_words a.self (omega arith) (omega arith) (omega arith) (omega arith))
