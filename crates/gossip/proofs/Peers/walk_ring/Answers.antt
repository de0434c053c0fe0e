-- `gossip::Peers::walk_ring` meets its contract. Assumes nothing.
use mathlib.Core.Path.{ap₂, ◌∙◌}
use Rattle.rows.specs.Row.{rows_in}
use Rattle.gossip.specs.Gossip.{walked}
use Rattle.gossip.proofs.Steps.{ring_starts, ring_source, ring_other, ring_over, ring_done}
use Rattle.gossip.proofs.Peers.walk_ring.Goals as goal
use Rattle.gossip.proofs.Peers.walk_ring.Goals.{then-ne, else-ne}

pub loop-j-init : goal.loop-j-init
loop-j-init c =
    search ring_starts

pub returns-then-so_far : goal.returns-then-so_far
returns-then-so_far c =
    search ring_over

pub loop-j-preserved : goal.loop-j-preserved
loop-j-preserved c =
    let l = c.loop-j in
    elim c.if-ne.branch [
      | then-ne w ↦ ring_other _ _ _ _ _ _ _ l.j _ l.invariant _ c.ne.ensures _ w.if-ne.true (ap₂ (λ v l. walked v (rows_in l)) w.so_far-is w.exclusions-is ∙ w.visit-so_far.ensures)
      | else-ne w ↦ ap₂ (λ v l. walked v (rows_in l)) w.so_far-is w.exclusions-is ∙ ring_source _ _ _ _ _ _ _ l.j _ l.invariant _ c.ne.ensures w.if-ne.false
    ]

pub returns : goal.returns
returns c =
    ring_done _ _ _ _ _ _ _ _ _ c.loop-j.invariant c.loop-j-test.false c.loop-j.auto.j-end
