-- `times::shard_length` meets its contract. Assumes nothing.
use Rattle.std.proofs.Common.{arith}
use Rattle.times.specs.Times.{shard_length}
use Rattle.times.proofs.shard_length.Goals as goal

pub returns-then-len-eq0 : goal.returns-then-len-eq0
unfolding shard_length
returns-then-len-eq0 c =
    omega arith

pub returns-else-len-eq0 : goal.returns-else-len-eq0
unfolding shard_length
returns-else-len-eq0 c =
    omega arith
