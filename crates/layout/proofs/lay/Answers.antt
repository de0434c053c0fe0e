-- `layout::lay` meets its contract. Assumes nothing.
use Rattle.layout.specs.Layout.{rows_of}
use Rattle.layout.proofs.LayoutLaws.{width_fits}
use Rattle.layout.proofs.lay.Goals as goal

pub invariant_of-layout : goal.invariant_of-layout
unfolding rows_of
invariant_of-layout c =
    record { fits = rw c.width_of-width.ensures (width_fits _ _ _ c.requires.0); few = c.requires.1 }

pub returns : goal.returns
unfolding rows_of
returns c =
    record { width = c.width_of-width.ensures; words = rw (← c.width_of-width.ensures) c.deal.ensures }
