-- `coverage::survived_by` meets its contract. Assumes nothing.
use Rattle.coverage.proofs.Entries.{survived_room}
use Rattle.coverage.proofs.survived_by.Goals as goal

pub is_survived-requires : goal.is_survived-requires
is_survived-requires c =
    survived_room _ _ _ _ _ c.check_survived.ensures c.in_ok-check_survived.was
