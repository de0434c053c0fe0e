-- `refusals::is_shards` meets its contract. Assumes nothing.
use Rattle.refusals.specs.Limits.{is_shards}
use Rattle.refusals.proofs.Checks.{ranges}
use Rattle.refusals.proofs.is_shards.Goals as goal

pub returns-then-d-lt1 : goal.returns-then-d-lt1
unfolding is_shards
returns-then-d-lt1 c =
    search ranges

pub returns-then-w-d : goal.returns-then-w-d
unfolding is_shards
returns-then-w-d c =
    search ranges

pub returns : goal.returns
unfolding is_shards
returns c =
    search ranges
