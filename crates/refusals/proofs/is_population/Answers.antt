-- `refusals::is_population` meets its contract. Assumes nothing.
use Rattle.refusals.specs.Limits.{is_population}
use Rattle.refusals.proofs.Checks.{ranges}
use Rattle.refusals.proofs.is_population.Goals as goal

pub returns-then-n-lt1 : goal.returns-then-n-lt1
unfolding is_population
returns-then-n-lt1 c =
    search ranges

pub returns : goal.returns
unfolding is_population
returns c =
    search ranges
