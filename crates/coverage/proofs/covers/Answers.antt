-- `coverage::covers` meets its contract. Assumes nothing.
use Rattle.coverage.proofs.Entries.{covers_room}
use Rattle.coverage.proofs.covers.Goals as goal

pub invariant_of-holdings : goal.invariant_of-holdings
invariant_of-holdings c =
    let h = covers_room _ _ _ _ _ _ _ _ c.check_covers.ensures c.in_ok-check_covers.was in record { small = h.0; narrow = h.1; whole = h.2; below = h.3 }
