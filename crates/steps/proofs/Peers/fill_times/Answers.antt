-- `steps::Peers::fill_times` meets its contract. Assumes nothing.
use Prim.Native.Nat.{ℕ}
use native.Mathlib.Omega.{arith}
use Rattle.lists.proofs.BelowLoops.{filled_none, filled_more, filled_done}
use Rattle.times.specs.Times.{models_in}
use Rattle.steps.specs.Steps.{peer_at, peer_time, peer_times}
use Rattle.steps.proofs.Steps.{peer_time_is}
use Rattle.steps.proofs.Peers.fill_times.Goals as goal

pub loop-j-init : goal.loop-j-init
loop-j-init c =
    search filled_none

pub loop-j-preserved : goal.loop-j-preserved
loop-j-preserved c =
    let p = c.args.self.now in
    let t =
    peer_time_is p.own.0 c.loop-j.j _ _ c.loop-j-test.true c.peer_at-p.ensures c.args.load p.inflight.now p.models.now _ _ (omega arith) c.model.ensures c.predict.ensures in
    filled_more (λ (k : ℕ). peer_time c.args.load p.inflight.now (models_in p.models.now) (peer_at p.own.0 k)) _ _ _
    c.loop-j.invariant _ (omega arith) t

pub returns : goal.returns
unfolding peer_times
returns c =
    filled_done _ _ _ _ c.loop-j.invariant (omega arith)
