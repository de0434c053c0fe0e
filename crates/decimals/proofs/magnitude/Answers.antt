-- `decimals::magnitude` meets its contract. Assumes nothing.
use Prim.Native.Nat.{◌≤◌, ◌^◌}
use native.Mathlib.Omega.{arith}
use mathlib.Core.Bool.{false}
use lib.Ieee.{binary64, in_float, of_int}
use lib.Ieee.Back.{round_whole}
use Rattle.decimals.proofs.Floats.{times_ten, over_ten}
use Rattle.decimals.proofs.magnitude.Goals as goal

pub returns-then-downs-ups : goal.returns-then-downs-ups
unfolding in_float of_int
returns-then-downs-ups c =
    let a = c.args in
    let h : a.m ≤ 2 ^ 53 = omega arith in
    times_ten _ _ a.m a.ups a.downs (round_whole binary64 false a.m h) c.if-downs-ups.true c.ten.ensures

pub returns : goal.returns
unfolding in_float of_int
returns c =
    let a = c.args in
    let h : a.m ≤ 2 ^ 53 = omega arith in
    over_ten _ _ a.m a.ups a.downs (round_whole binary64 false a.m h) c.if-downs-ups.false c.ten-2.ensures
