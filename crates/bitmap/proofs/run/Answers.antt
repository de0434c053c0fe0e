-- `bitmap::run` meets its contract. Assumes nothing.
use mathlib.Core.Path.{sym, ap}
use Rattle.bitmap.specs.Mask.{run, gather}
use Rattle.bitmap.proofs.Words.{ones_shl}
use Rattle.bitmap.proofs.run.Goals as goal

pub returns-then-k-eq0 : goal.returns-then-k-eq0
unfolding gather
returns-then-k-eq0 c =
    sym (ap (run c.args.a) c.if-k-eq0.true)

pub returns : goal.returns
unfolding gather
returns c =
    ones_shl 64 c.args.a c.args.k c.requires
