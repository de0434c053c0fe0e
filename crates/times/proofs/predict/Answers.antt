-- `times::predict` meets its contract. Assumes nothing.
use lib.Ieee.{of_bits}
use Rattle.times.specs.Times.{predict_of}
use Rattle.times.proofs.predict.Goals as goal

pub returns : goal.returns
unfolding of_bits predict_of
returns c =
    rw c.nearest_u64_to_f64-size_mb.ensures
