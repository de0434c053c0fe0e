-- `decimals::scale` meets its contract. Assumes nothing.
use Rattle.std.proofs.Common.{refl, arith, zero-add, sym}
use Rattle.numerals.specs.Whole.{spelt}
use Rattle.decimals.proofs.scale.Goals as goal

pub returns-in_default : goal.returns-in_default
unfolding spelt
returns-in_default c =
    rw c.in_default.is (refl, sym (zero-add _), omega arith, omega arith)
