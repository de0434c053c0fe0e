-- `rows::last_of` meets its contract. Assumes nothing.
use mathlib.Core.Path.{refl}
use Rattle.rows.proofs.TableLoops.{unite_more}
use Rattle.rows.proofs.last_of.Goals as goal

pub loop-s-preserved : goal.loop-s-preserved
loop-s-preserved c =
    unite_more _ _ _ _ _ c.loop-s.invariant refl refl
