-- `rows::last_of_fours` meets its contract. Assumes nothing.
use mathlib.Core.Path.{refl}
use Rattle.rows.proofs.TableLoops.{unite_start, fours_more}
use Rattle.rows.proofs.last_of_fours.Goals as goal

pub loop-g-init : goal.loop-g-init
loop-g-init c =
    search unite_start

pub loop-g-preserved : goal.loop-g-preserved
loop-g-preserved c =
    fours_more _ _ _ _ _ _ _ _ _ _ c.loop-g.invariant refl refl refl refl
