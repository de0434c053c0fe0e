-- `adaptive::Policy::rows` meets its contract. Assumes nothing.
use Rattle.adaptive.proofs.Entries.{initial_taken, part_taken}
use Rattle.adaptive.proofs.Policy.rows.Goals as goal

pub returns-in-Initial : goal.returns-in-Initial
returns-in-Initial c =
    initial_taken _ _ _ _ c.args.initial.now c.args.table.now c.requires c.in-Initial.is (λ i. (c.type_inv.initial i).fits)

pub returns-in-Balanced : goal.returns-in-Balanced
returns-in-Balanced c =
    part_taken _ _ _ _ c.args.initial.now c.args.table.now c.requires _ c.in-Balanced.is (λ i. (c.type_inv.table i).fits) _ c.rows_from.ensures
