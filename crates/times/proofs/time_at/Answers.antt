-- `times::time_at` meets its contract. Assumes nothing.
use lib.Ieee.{of_bits}
use Rattle.times.specs.Times.{time_at}
use Rattle.times.proofs.time_at.Goals as goal

pub returns-then-own : goal.returns-then-own
unfolding of_bits time_at
returns-then-own c =
    rw c.if-own.true

pub returns : goal.returns
unfolding of_bits time_at
returns c =
    rw c.if-own.false c.reply_time.ensures
