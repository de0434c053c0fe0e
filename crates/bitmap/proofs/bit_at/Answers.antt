-- `bitmap::bit_at` meets its contract. Assumes nothing.
use native.Mathlib.Omega.{arith}
use Rattle.bitmap.proofs.Words.{beyond}
use Rattle.bitmap.proofs.bit_at.Goals as goal

pub returns-then-s-ge64 : goal.returns-then-s-ge64
returns-then-s-ge64 c =
    let a = c.args in beyond 64 a.m a.s (omega arith) c.if-s-ge64.true
