-- `refusals::is_quorum` meets its contract. Assumes nothing.
use Rattle.refusals.specs.Limits.{is_quorum}
use Rattle.refusals.proofs.Checks.{ranges}
use Rattle.refusals.proofs.is_quorum.Goals as goal

pub returns-then-q-lt1 : goal.returns-then-q-lt1
unfolding is_quorum
returns-then-q-lt1 c =
    search ranges

pub returns : goal.returns
unfolding is_quorum
returns c =
    search ranges
