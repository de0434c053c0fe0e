-- `rows::Row::has` meets its contract. Assumes nothing.
use native.Mathlib.Omega.{arith}
use Rattle.rows.proofs.Facts.{are_words, bit_found}
use Rattle.rows.proofs.Row.has.Goals as goal

pub returns : goal.returns
returns c =
    let a = c.args in bit_found a.self (are_words a.self (omega arith) (omega arith) (omega arith) (omega arith)) a.s.0 _ _ c.word.ensures c.bit_at.ensures
