use mathlib.Core.Path.{◌≡◌}
use lib.ListN.{take}
use Rattle.lists.specs.Below.{each_below, front}
use Rattle.rows.specs.Row.{spelled}
use Rattle.layout.specs.Layout.{partial, row_at}
use Rattle.layout.proofs.Layout.deal.Given as goal

abbrev pub invariant-loop-s : goal.invariant-loop-s
invariant-loop-s l =
    (l.offset.0 ≡ partial l.self.data_shards (take l.s l.self.loads.now)) × (l.rows ≡ front (spelled (each_below (row_at l.self.data_shards l.self.width l.self.loads.now) l.s)) l.initial.rows)
