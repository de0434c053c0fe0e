-- `rows::Row::is_below` meets its contract. Assumes nothing.
use native.Mathlib.Omega.{arith}
use Rattle.rows.specs.Row.{words}
use Rattle.rows.proofs.WordLaws.{Words}
use Rattle.rows.proofs.Facts.{are_words, no_first, no_second, no_third, all_four}
use Rattle.std.proofs.lemmas.Bool.{not_from_false, not_from_true}
use Rattle.rows.proofs.Row.is_below.Goals as goal

pub returns-then-not-is_below : goal.returns-then-not-is_below
returns-then-not-is_below c =
    let a = c.args in let h : Words (words a.self) = are_words a.self (omega arith) (omega arith) (omega arith) (omega arith) in no_first a.self h a.w _ c.is_below.ensures (not_from_false _ c.if-not-is_below.true)

pub returns-then-not-is_below-2 : goal.returns-then-not-is_below-2
returns-then-not-is_below-2 c =
    let a = c.args in let h : Words (words a.self) = are_words a.self (omega arith) (omega arith) (omega arith) (omega arith) in no_second a.self h a.w _ _ c.past-w1.ensures c.is_below-2.ensures (not_from_false _ c.if-not-is_below-2.true)

pub returns-then-not-is_below-3 : goal.returns-then-not-is_below-3
returns-then-not-is_below-3 c =
    let a = c.args in let h : Words (words a.self) = are_words a.self (omega arith) (omega arith) (omega arith) (omega arith) in no_third a.self h a.w _ _ _ c.past-w1.ensures c.past-w2.ensures c.is_below-3.ensures (not_from_false _ c.if-not-is_below-3.true)

pub returns : goal.returns
returns c =
    let a = c.args in let h : Words (words a.self) = are_words a.self (omega arith) (omega arith) (omega arith) (omega arith) in all_four a.self h a.w _ _ _ _ _ _ _ c.past-w1.ensures c.past-w2.ensures c.past.ensures c.is_below.ensures (not_from_true _ c.if-not-is_below.false) c.is_below-2.ensures (not_from_true _ c.if-not-is_below-2.false) c.is_below-3.ensures (not_from_true _ c.if-not-is_below-3.false) c.is_below-4.ensures
