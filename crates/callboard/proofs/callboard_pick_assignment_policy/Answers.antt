-- `callboard::callboard_pick_assignment_policy` meets its contract. Assumes nothing.
use mathlib.Core.Path.{ap, ◌∙◌}
use Rattle.c_types.specs.CTypes.{to_choice}
use Rattle.callboard.proofs.Numbers.{policy_in_is}
use Rattle.callboard.proofs.callboard_pick_assignment_policy.Goals as goal

pub returns : goal.returns
returns c =
    c.into.ensures ∙ rw (policy_in_is, ← c.is_set-2.ensures, ← c.is_set.ensures) (ap to_choice c.pick_assignment_policy.ensures)
