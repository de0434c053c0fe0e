-- `decimals::scaled` meets its contract. Assumes nothing.
use mathlib.Core.Path.{◌∙◌, ap}
use lib.Ieee.{neg}
use Rattle.rounding.specs.SignLaws.{round_neg}
use Rattle.decimals.proofs.scaled.Goals as goal

pub returns-then-negative : goal.returns-then-negative
returns-then-negative c =
    rw c.if-negative.true (ap neg c.magnitude-x.ensures ∙ round_neg _ _ _ _)
