use Rattle.std.proofs.Common.{ℕ}
use Rattle.refusals.specs.Limits.{GivesBelow}
use Rattle.refusals.proofs.Peers.{NoneOverfull}
use Rattle.refusals.proofs.peers_fit.Given as goal

abbrev pub invariant-loop-p : goal.invariant-loop-p
invariant-loop-p g l = (in_flight : ℕ → ℕ) → GivesBelow (goal.F-post g l.bytes) l.n in_flight → NoneOverfull l.own.0 in_flight l.p
