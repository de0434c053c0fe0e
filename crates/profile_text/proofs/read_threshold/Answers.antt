-- `profile_text::read_threshold` meets its contract. Assumes nothing.
use Rattle.std.proofs.Common.{◌∙◌, sym}
use borrow.Author.Tests.{eqb-true, eqb-false}
use Rattle.profile_text.proofs.Mechanisms.{threshold_blank, threshold_read}
use Rattle.profile_text.proofs.read_threshold.Goals as goal

pub returns-then-is_empty : goal.returns-then-is_empty
returns-then-is_empty c =
    threshold_blank _ c.trimmed-t.ensures (eqb-true _ _ (sym c.is_empty.ensures ∙ c.if-is_empty.true))

pub returns : goal.returns
returns c =
    threshold_read _ c.trimmed-t.ensures (eqb-false _ _ (sym c.is_empty.ensures ∙ c.if-is_empty.false)) c.read_decimal.ensures
