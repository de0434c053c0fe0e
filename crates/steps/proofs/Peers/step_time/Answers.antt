-- `steps::Peers::step_time` meets its contract. Assumes nothing.
use mathlib.Core.Path.{ap, ◌∙◌}
use Prim.Native.Nat.{◌-◌}
use native.Mathlib.Nat.{le_refl}
use native.Mathlib.Omega.{arith}
use borrow.Author.Tests.{lt-ltb}
use lib.Ieee.{Float, of_bits}
use lib.ListN.{length, replicate}
use Rattle.std.specs.Prelude.{Option, unwrap_or}
use Rattle.lists.proofs.Lent.{lent}
use Rattle.floats.specs.Floats.{plus_zero}
use Rattle.times.specs.Times.{never, models_in}
use Rattle.steps.specs.Steps.{step_time}
use Rattle.steps.proofs.Steps.{step_is}
use Rattle.steps.proofs.Peers.step_time.Goals as goal

pub returns-then-quorum-lt2 : goal.returns-then-quorum-lt2
unfolding of_bits step_time
returns-then-quorum-lt2 c =
    rw (lt-ltb _ _ c.if-quorum-lt2.true)

pub returns : goal.returns
unfolding of_bits
returns c =
    let p = c.args.self.now in
    let m = lent {A = Float} (length p.inflight.now - 1) (replicate 16 plus_zero) (omega arith) in
    let r = c.unwrap_or.ensures ∙ ap (λ (o : Option Float). unwrap_or o never) c.copied.ensures ∙ c.get.ensures.lookup.4 (le_refl _) never in
    step_is (length p.inflight.now) p.own.0 c.args.quorum c.args.load _ p.inflight.now (models_in p.models.now)
    c.if-quorum-lt2.false m _ _ _ c.fill_times.ensures c.sort.ensures r
