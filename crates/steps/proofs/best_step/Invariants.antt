use Rattle.times.specs.Times.{models_in}
use Rattle.steps.specs.Steps.{time_of_step}
use Rattle.steps.proofs.Steps.{Found}
use Rattle.steps.proofs.best_step.Given as goal

abbrev pub invariant-loop-i : goal.invariant-loop-i
invariant-loop-i l =
    let s = l.scheme in
    let p = l.peers in
    Found (time_of_step s.population s.tolerance p.own.0 s.data_shards s.majority l.size p.inflight.now (models_in p.models.now)) l.i l.best l.least
