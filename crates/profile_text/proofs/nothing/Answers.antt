-- `profile_text::nothing` meets its contract. Assumes nothing.
use mathlib.Core.Path.{refl}
use lib.Ieee.{of_bits}
use Rattle.profile_text.specs.ProfileText.{nothing}
use Rattle.profile_text.proofs.nothing.Goals as goal

pub returns : goal.returns
unfolding nothing of_bits
returns c =
    refl
