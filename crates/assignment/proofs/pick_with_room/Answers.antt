-- `assignment::pick_with_room` meets its contract. Assumes nothing.
use mathlib.Core.Path.{sym, ◌∙◌}
use Prim.Native.Nat.{◌+◌, ◌*◌, ◌≤◌}
use native.Mathlib.Omega.{arith}
use mathlib.Core.List.{List}
use lib.Ieee.{Float, binary64, of_bits}
use lib.ListN.{replicate, length-replicate}
use Rattle.lists.proofs.Lent.{lent}
use Rattle.times.proofs.TimeLaws.{shard_length_le}
use Rattle.candidates.proofs.Parts.{begins}
use Rattle.assignment.proofs.pick_with_room.Goals as goal

pub fill_times-requires-clause-d_le_most_shards : goal.fill_times-requires-clause-d_le_most_shards
fill_times-requires-clause-d_le_most_shards g c =
    let r = c.args.rule.now in
    let z : List Float = replicate g.row.TIMES (of_bits binary64 0) in
    let h : r.population * (r.data_shards + 1) ≤ g.row.TIMES = omega (arith, begins r.population r.data_shards, c.requires.room) in (
      omega arith,
      omega (arith, c.shard_length.ensures, shard_length_le c.args.size r.data_shards (omega arith) c.requires.size),
      omega arith,
      sym (lent _ z (omega (arith, h, length-replicate g.row.TIMES (of_bits binary64 0)))) ∙ begins r.population r.data_shards,
    )
