-- `rows::u64::taken` meets its contract. Assumes nothing.
use Rattle.rows.proofs.Facts.{taken_word}
use Rattle.rows.proofs.U64ShardSet.taken.Goals as goal

pub returns : goal.returns
returns c = rw c.spread.ensures (taken_word c.args.self c.ranges.self.fits c.args.flag c.requires)
