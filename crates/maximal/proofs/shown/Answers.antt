-- `maximal::shown` meets its contract. Assumes nothing.
use Rattle.maximal.proofs.Passes.{near_shows, far_none, far_past, far_shows}
use Rattle.maximal.proofs.shown.Goals as goal

pub returns-then-b-lt6 : goal.returns-then-b-lt6
returns-then-b-lt6 c =
    search near_shows

pub returns-then-k-b-eq1 : goal.returns-then-k-b-eq1
returns-then-k-b-eq1 c =
    search far_none

pub returns-then-table-k : goal.returns-then-table-k
returns-then-table-k c =
    search far_past

pub returns : goal.returns
returns c =
    search far_shows
