-- `adaptive::pick_assignment_policy_rows` meets its contract. Assumes nothing.
use Rattle.adaptive.proofs.Entries.{policy_holds}
use Rattle.adaptive.proofs.pick_assignment_policy_rows.Goals as goal

pub rows_of-requires : goal.rows_of-requires
rows_of-requires c =
    policy_holds _ _ _ _ _ _ _ _ _ _ _ _ _ _ c.pick_assignment_policy.ensures
