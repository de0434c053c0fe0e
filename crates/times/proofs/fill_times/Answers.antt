-- `times::fill_times` meets its contract. Assumes nothing.
use Rattle.std.proofs.Common.{◌≤◌, ◌*◌, suc, sym, subst, refl, zero-mul, mul-le-mul_right, arith}
use Rattle.lists.proofs.BelowLoops.{Filled, filled_none, filled_done}
use Rattle.times.specs.Times.{cell, times_of}
use Rattle.times.proofs.Tables.{due, next_filled}
use Rattle.times.proofs.TimeLaws.{place_within}
use Rattle.times.proofs.fill_times.Goals as goal

pub loop-p-init : goal.loop-p-init
loop-p-init c =
    let a = c.args in
    let f = cell a.own.0 a.d a.len a.records a.penalty in
    subst (Filled f (a.n * suc a.d) a.times.now) (sym (zero-mul (suc a.d))) (filled_none f _ a.times.now (omega arith))

pub loop-k-preserved : goal.loop-k-preserved
loop-k-preserved c =
    let a = c.args in
    let p = c.loop-p.p in
    let k = c.loop-k.k in
    let load : k ≤ a.d = omega arith in (
      omega arith,
      next_filled (cell a.own.0 a.d a.len a.records a.penalty) (a.n * suc a.d) _ a.d p k c.loop-k.invariant.1 _ (place_within a.d p k load a.n c.loop-k.invariant.0)
          (due a.d _ p k load refl a.own.0 a.len a.records a.penalty _ c.time_at.ensures),
    )

pub returns : goal.returns
unfolding times_of
returns c =
    let a = c.args in
    filled_done (cell a.own.0 a.d a.len a.records a.penalty) (a.n * suc a.d) _ _ c.loop-p.invariant (mul-le-mul_right (suc a.d) (omega arith))
