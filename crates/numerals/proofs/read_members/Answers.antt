-- `numerals::read_members` meets its contract. Assumes nothing.
use Rattle.numerals.proofs.Scans.{mask_read}
use Rattle.numerals.proofs.read_members.Goals as goal

pub returns : goal.returns
returns c =
    mask_read _ _ _ _ c.requires c.in_ok-read_shards.ensures
