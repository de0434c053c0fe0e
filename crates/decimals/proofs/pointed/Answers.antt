-- `decimals::pointed` meets its contract. Assumes nothing.
use Rattle.numerals.specs.Text.{is_byte}
use Rattle.numerals.specs.TextLaws.{cut_le}
use Rattle.decimals.proofs.pointed.Goals as goal

pub upto-requires : goal.upto-requires
upto-requires c =
    rw c.find-p.ensures (cut_le (is_byte 46) _)

pub past-requires : goal.past-requires
past-requires c =
    rw c.find-p.ensures (cut_le (is_byte 46) _)
