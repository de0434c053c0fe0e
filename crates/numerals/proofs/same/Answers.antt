-- `numerals::same` meets its contract. Assumes nothing.
use Rattle.std.proofs.Common.{◌∙◌}
use Rattle.numerals.proofs.Scans.{same_is}
use Rattle.numerals.proofs.same.Goals as goal

pub returns : goal.returns
returns c =
    c.eq.ensures ∙ same_is _ _
