-- `adaptive::min_shards_per_replica` meets its contract. Assumes nothing.
use mathlib.Core.Path.{sym}
use native.Mathlib.Omega.{arith}
use Rattle.adaptive.proofs.RefusalLaws.{floor_sound}
use Rattle.adaptive.proofs.min_shards_per_replica.Goals as goal

pub invariant_of-scheme : goal.invariant_of-scheme
invariant_of-scheme c =
    let s = (floor_sound _ _ _ _ _).0 (sym c.in_ok-check_floor.ensures) in record {
      some_replicas = omega (arith, s.population);
      few_replicas = s.population.1;
      fewer_fail = s.tolerance;
      some_shards = s.shards.0;
      few_shards = s.shards.1;
      some_majority = s.enough.0;
      majority_inside = s.enough.1;
      whole_shares = s.multiple;
    }
