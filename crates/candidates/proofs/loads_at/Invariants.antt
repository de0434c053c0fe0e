use Rattle.candidates.proofs.Parts.{Loaded}
use Rattle.candidates.proofs.loads_at.Given as goal

abbrev pub invariant-loop-p : goal.invariant-loop-p
invariant-loop-p l =
    Loaded l.times.population l.times.own.0 l.times.data_shards l.times.times.now l.t l.loads l.answered l.p
