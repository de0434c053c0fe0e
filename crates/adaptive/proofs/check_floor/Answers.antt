-- `adaptive::check_floor` meets its contract. Assumes nothing.
use Rattle.adaptive.proofs.Entries.{majority_passed}
use Rattle.adaptive.proofs.check_floor.Goals as goal

pub nonzero_rem-d : goal.nonzero_rem-d
nonzero_rem-d c =
    majority_passed c.args.n c.args.majority c.is_quorum.ensures c.in_ok-unless-4.ensures
