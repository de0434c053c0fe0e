-- `adaptive::rows_of` meets its contract. Assumes nothing.
use Rattle.rows.specs.Row.{spelled}
use Rattle.adaptive.proofs.rows_of.Goals as goal

pub returns-in-Err : goal.returns-in-Err
unfolding spelled
returns-in-Err c =
    rw c.in-Err.is
