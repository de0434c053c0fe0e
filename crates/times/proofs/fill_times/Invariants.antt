use Rattle.std.proofs.Common.{suc, ◌+◌, ◌*◌, ◌<◌}
use Rattle.lists.proofs.BelowLoops.{Filled}
use Rattle.times.specs.Times.{cell}
use Rattle.times.proofs.fill_times.Given as goal

abbrev pub invariant-loop-p : goal.invariant-loop-p
invariant-loop-p l =
    Filled (cell l.own.0 l.d l.len l.records l.penalty) (l.n * suc l.d) l.times (l.p * suc l.d)

abbrev pub invariant-loop-k : goal.invariant-loop-k
invariant-loop-k l =
    (l.p < l.n) × Filled (cell l.own.0 l.d l.len l.records l.penalty) (l.n * suc l.d) l.times (l.p * suc l.d + l.k)
