-- `adaptive::pick_assignment_policy` meets its contract. Assumes nothing.
use native.Mathlib.Omega.{arith}
use Rattle.adaptive.proofs.Entries.{tested}
use Rattle.adaptive.proofs.pick_assignment_policy.Goals as goal

pub invariant_of-scheme : goal.invariant_of-scheme
invariant_of-scheme c =
    let s = tested _ _ _ _ _ _ _ _ _ _ _ _ c.in_ok-check_policy.ensures in record {
      some_replicas = omega (arith, s.population);
      few_replicas = s.population.1;
      fewer_fail = s.tolerance;
      some_shards = s.shards.0;
      few_shards = omega (arith, s.shards);
      some_majority = s.enough.0;
      majority_inside = s.enough.1;
      whole_shares = s.multiple;
    }

pub invariant_of-peers : goal.invariant_of-peers
invariant_of-peers c =
    let s = tested _ _ _ _ _ _ _ _ _ _ _ _ c.in_ok-check_policy.ensures in record {
      some_replicas = omega (arith, s.population, s.a_word_each);
      few_replicas = omega (arith, s.population, s.a_word_each);
      a_model_each = omega (arith, s.a_word_each, s.a_model_each);
      in_flight_fits = λ p h k. s.in_flight_fits p (omega (arith, s.a_word_each)) k;
    }

pub best_shards-best-requires : goal.best_shards-best-requires
best_shards-best-requires c =
    let s = tested _ _ _ _ _ _ _ _ _ _ _ _ c.in_ok-check_policy.ensures in
    record { a_word_each = s.a_word_each; small_size = s.small; a_row_each = s.initial_rows }
