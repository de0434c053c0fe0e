-- `adaptive::check_policy` meets its contract. Assumes nothing.
use Rattle.adaptive.proofs.Entries.{few, few_shards, majority_passed}
use Rattle.adaptive.proofs.check_policy.Goals as goal

pub nonzero_rem-d : goal.nonzero_rem-d
nonzero_rem-d c =
    majority_passed c.args.input.now.population c.args.input.now.majority c.is_quorum.ensures c.in_ok-unless-5.ensures

pub is_balanced_table-requires : goal.is_balanced_table-requires
is_balanced_table-requires c = record {
  few_replicas = few c.args.input.now.population c.is_population.ensures c.in_ok-unless.ensures;
  few_shards = few_shards c.args.input.now.data_shards c.args.input.now.width c.is_shards.ensures c.in_ok-unless-4.ensures;
  some_majority = majority_passed c.args.input.now.population c.args.input.now.majority c.is_quorum.ensures c.in_ok-unless-5.ensures;
}
