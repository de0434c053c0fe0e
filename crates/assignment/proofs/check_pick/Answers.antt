-- `assignment::check_pick` meets its contract. Assumes nothing.
use native.Mathlib.Omega.{arith}
use Rattle.refusals.proofs.Checks.{population_went_on}
use Rattle.assignment.proofs.check_pick.Goals as goal

pub peers_fit-requires : goal.peers_fit-requires
peers_fit-requires c =
    let e = population_went_on _ _ c.is_population.ensures c.in_ok-unless.ensures in λ p h. omega arith

pub is_fault_list-requires : goal.is_fault_list-requires
is_fault_list-requires c =
    let e = population_went_on _ _ c.is_population.ensures c.in_ok-unless.ensures in omega arith
