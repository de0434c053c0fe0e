-- `profile_text::Reader::read_mechanism` meets its contract. Assumes nothing.
use Rattle.std.proofs.Common.{◌∙◌}
use Rattle.numerals.specs.Text.{is_byte}
use Rattle.numerals.specs.TextLaws.{cut_le}
use Rattle.profile_text.proofs.Mechanisms.{mechanism_skipped, mechanism_read}
use Rattle.profile_text.proofs.Reader.read_mechanism.Goals as goal

pub returns-then-is_skipped : goal.returns-then-is_skipped
returns-then-is_skipped c =
    mechanism_skipped _ _ _ c.trimmed-t.ensures c.is_skipped.ensures c.if-is_skipped.true

pub upto-requires : goal.upto-requires
upto-requires c =
    rw c.find-c.ensures (cut_le (is_byte _) _)

pub past-requires : goal.past-requires
past-requires c =
    rw c.find-c.ensures (cut_le (is_byte _) _)

pub returns : goal.returns
returns c =
    mechanism_read _ _ _ c.trimmed-t.ensures c.is_skipped.ensures c.if-is_skipped.false (c.read_named.ensures ∙ rw (c.trimmed.ensures, c.upto.ensures, c.past.ensures, c.find-c.ensures))
