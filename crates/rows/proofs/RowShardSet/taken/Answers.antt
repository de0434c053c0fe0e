-- `rows::Row::taken` meets its contract. Assumes nothing.
use native.Mathlib.Omega.{arith}
use Rattle.rows.proofs.Facts.{are_words, taken_is}
use Rattle.rows.proofs.RowShardSet.taken.Goals as goal

pub returns : goal.returns
returns c =
    let a = c.args in
    rw c.spread-all.ensures (taken_is a.self (are_words a.self (omega arith) (omega arith) (omega arith) (omega arith)) a.flag c.requires)
