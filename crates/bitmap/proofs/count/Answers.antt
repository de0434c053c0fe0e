-- `bitmap::count` meets its contract. Assumes nothing.
use Rattle.bitmap.specs.CountLaws.{count_ones}
use Rattle.bitmap.proofs.count.Goals as goal

pub returns : goal.returns
returns c =
    count_ones c.args.m
