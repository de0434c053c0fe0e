-- `rows::u64::row` meets its contract. Assumes nothing.
use native.Mathlib.Omega.{arith}
use Rattle.rows.specs.Row.{value}
use Rattle.rows.proofs.U64ShardSet.row.Goals as goal

pub returns : goal.returns
unfolding value
returns c =
    omega arith
