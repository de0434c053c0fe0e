-- `rows::all_of` meets its contract. Assumes nothing.
use Rattle.rows.proofs.TableLoops.{unite_start, unite_more, unite_last}
use Rattle.rows.proofs.all_of.Goals as goal

pub loop-s-init : goal.loop-s-init
loop-s-init c =
    search unite_start

pub loop-s-preserved : goal.loop-s-preserved
loop-s-preserved c =
    search unite_more

pub returns : goal.returns
returns c =
    search unite_last
