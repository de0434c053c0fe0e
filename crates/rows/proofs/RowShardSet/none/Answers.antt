-- `rows::Row::none` meets its contract. Assumes nothing.
use mathlib.Core.Path.{refl}
use Rattle.rows.specs.Row.{value}
use Rattle.rows.proofs.RowShardSet.none.Goals as goal

pub returns : goal.returns
unfolding value
returns c =
    refl
