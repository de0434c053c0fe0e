-- `rows::Row::union` meets its contract. Assumes nothing.
use native.Mathlib.Omega.{arith}
use Rattle.rows.specs.Row.{words}
use Rattle.rows.proofs.WordLaws.{value_or}
use Rattle.rows.proofs.Facts.{are_words}
use Rattle.rows.proofs.RowShardSet.union.Goals as goal

pub returns : goal.returns
returns c =
    let a = c.args in value_or (words a.self) (words a.other) (are_words a.self (omega arith) (omega arith) (omega arith) (omega arith)) (are_words a.other (omega arith) (omega arith) (omega arith) (omega arith))
