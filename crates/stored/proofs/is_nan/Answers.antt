-- `stored::is_nan` meets its contract. Assumes nothing.
use Rattle.std.proofs.Common.{eq-eqb, ne_eqb}
use lib.Ieee.{nan_bits}
use Rattle.stored.proofs.is_nan.Goals as goal

pub returns-then-bits-eq2047 : goal.returns-then-bits-eq2047
unfolding nan_bits
returns-then-bits-eq2047 c =
    rw (eq-eqb _ _ c.if-bits-eq2047.true)

pub returns-else-bits-eq2047 : goal.returns-else-bits-eq2047
unfolding nan_bits
returns-else-bits-eq2047 c =
    rw (ne_eqb _ _ c.if-bits-eq2047.false)
