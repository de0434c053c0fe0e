-- `rows::Row::count` meets its contract. Assumes nothing.
use native.Mathlib.Omega.{arith}
use Rattle.rows.proofs.Facts.{are_words, counted, count_small}
use Rattle.rows.proofs.RowShardSet.count.Goals as goal

pub overflow_add-low : goal.overflow_add-low
overflow_add-low c =
    let a = c.args in omega (arith, count_small a.self.w0 (omega arith), count_small a.self.w1 (omega arith))

pub overflow_add-result : goal.overflow_add-result
overflow_add-result c =
    let a = c.args in omega (arith, count_small a.self.w0 (omega arith), count_small a.self.w1 (omega arith), count_small a.self.w2 (omega arith))

pub overflow_add-result-2 : goal.overflow_add-result-2
overflow_add-result-2 c =
    let a = c.args in omega (arith, count_small a.self.w0 (omega arith), count_small a.self.w1 (omega arith), count_small a.self.w2 (omega arith), count_small a.self.w3 (omega arith))

pub returns : goal.returns
returns c =
    let a = c.args in omega (arith, counted a.self (are_words a.self (omega arith) (omega arith) (omega arith) (omega arith)))
