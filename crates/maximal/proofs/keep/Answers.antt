-- `maximal::keep` meets its contract. The loop's invariant: the passes over the replicas below b are done. Assumes nothing.
use native.Mathlib.Omega.{arith}
use Rattle.maximal.proofs.Passes.{reached_first, reached_next, reached_last, maximal_left}
use Rattle.maximal.proofs.keep.Goals as goal

pub loop-b-init : goal.loop-b-init
loop-b-init c =
    reached_first _ c.args.n

pub loop-b-preserved : goal.loop-b-preserved
loop-b-preserved c =
    reached_next _ c.args.n c.loop-b.b c.loop-b.table c.spread.new.table (omega arith) c.loop-b.invariant c.spread.ensures

pub returns : goal.returns
returns c =
    let within = reached_last c.args.table.now c.args.n c.loop-b.b c.loop-b.table (omega arith) (omega arith) c.loop-b.invariant in
    maximal_left c.args.table.now c.args.n c.loop-b.table c.peel.new.table within c.peel.ensures
