use mathlib.Core.Path.{◌≡◌}
use Rattle.rows.specs.Row.{row_of, row_in, rows_in}
use Rattle.gossip.specs.Gossip.{walked, fresh}
use Rattle.gossip.proofs.Steps.{ring_to}
use Rattle.gossip.proofs.Peers.walk_ring.Given as goal

abbrev pub invariant-loop-j : goal.invariant-loop-j
invariant-loop-j l =
    walked l.so_far (rows_in l.exclusions) ≡ ring_to l.self.population l.self.own.0 l.self.source.0 l.self.data_shards (row_in l.self.rows.now) l.self.alive (fresh (row_of l.initial.so_far.available) (rows_in l.initial.exclusions)) l.j
