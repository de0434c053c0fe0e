-- `times::time_in` meets its contract. Assumes nothing.
use Rattle.std.proofs.Common.{sym, add-one}
use lib.Ieee.{of_bits}
use lib.ListN.{get_or-eq_default}
use Rattle.times.specs.Times.{never}
use Rattle.times.proofs.Tables.{past_table}
use Rattle.times.proofs.time_in.Goals as goal

pub returns-then-times-p : goal.returns-then-times-p
unfolding of_bits
returns-then-times-p c =
    let a = c.args in
    past_table a.d a.k a.p.0 a.times.now c.if-times-p.true

pub returns-then-times-i : goal.returns-then-times-i
unfolding of_bits
returns-then-times-i c =
    let a = c.args in
    sym (get_or-eq_default a.times.now never (rw (sym (add-one a.d)) c.if-times-i.true))
