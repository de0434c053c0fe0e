-- `printed::BitsDisplay::fmt` is safe: a finite float is no NaN. Assumes nothing.
use mathlib.Core.Path.{sym, ◌∙◌}
use Rattle.floats.proofs.Finite.{finite_number}
use Rattle.printed.proofs.BitsDisplay.fmt.Goals as goal

pub float_to_bits-bits : goal.float_to_bits-bits
float_to_bits-bits g c =
    finite_number _ (sym c.is_finite.ensures ∙ c.if-is_finite.true)
