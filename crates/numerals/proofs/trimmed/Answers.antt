-- `numerals::trimmed` meets its contract. Assumes nothing.
use mathlib.Core.Path.{ap, ◌∙◌}
use Rattle.numerals.specs.Text.{trim_end, trim}
use Rattle.numerals.proofs.trimmed.Goals as goal

pub returns : goal.returns
unfolding trim
returns c =
    c.upto.ensures ∙ c.stop.ensures.1 ∙ ap trim_end (c.after-t.ensures ∙ c.lead.ensures.1)
