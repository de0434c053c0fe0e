use Prim.Native.Nat.{ℕ}
use lib.ListN.{length}
use Rattle.lists.proofs.BelowLoops.{Filled}
use Rattle.times.specs.Times.{models_in}
use Rattle.steps.specs.Steps.{peer_at, peer_time}
use Rattle.steps.proofs.Peers.fill_times.Given as goal

abbrev pub invariant-loop-j : goal.invariant-loop-j
invariant-loop-j l =
    Filled (λ (k : ℕ). peer_time l.load l.self.inflight.now (models_in l.self.models.now) (peer_at l.self.own.0 k)) (length l.initial.times) l.times l.j
