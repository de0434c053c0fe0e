-- `bitmap::is_below` meets its contract. Assumes nothing.
use native.Mathlib.Omega.{arith}
use Rattle.bitmap.proofs.Words.{below_wider, none_above}
use Rattle.bitmap.proofs.is_below.Goals as goal

pub returns-then-w-ge64 : goal.returns-then-w-ge64
returns-then-w-ge64 c =
    let a = c.args in below_wider 64 a.m a.w (omega arith) c.if-w-ge64.true

pub returns : goal.returns
returns c =
    let a = c.args in none_above a.w a.m
