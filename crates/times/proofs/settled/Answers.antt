-- `times::settled` meets its contract. Assumes nothing.
use Rattle.std.proofs.Common.{sym, ◌∙◌}
use lib.Ieee.{of_bits}
use Rattle.times.specs.Times.{settled}
use Rattle.times.proofs.settled.Goals as goal

pub returns-then-is_finite : goal.returns-then-is_finite
unfolding of_bits settled
returns-then-is_finite c =
    rw (sym c.is_finite.ensures ∙ c.if-is_finite.true)

pub returns-else-is_finite : goal.returns-else-is_finite
unfolding of_bits settled
returns-else-is_finite c =
    rw (sym c.is_finite.ensures ∙ c.if-is_finite.false)
