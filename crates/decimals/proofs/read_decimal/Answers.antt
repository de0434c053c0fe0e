-- `decimals::read_decimal` meets its contract. Assumes nothing.
use Rattle.std.proofs.Common.{◌∙◌, ap}
use Rattle.decimals.specs.Decimal.{read_of, decimal_of}
use Rattle.decimals.proofs.read_decimal.Goals as goal

pub returns : goal.returns
unfolding decimal_of
returns c =
    c.value.ensures ∙ ap read_of c.split.ensures
