-- `callboard::callboard_policy_rows` meets its contract. Assumes nothing.
use Rattle.std.proofs.Common.{◌∙◌, sym}
use Rattle.callboard.proofs.Numbers.{policy_in_is}
use Rattle.callboard.proofs.Rows.{held, rows_left_are}
use Rattle.callboard.proofs.callboard_policy_rows.Goals as goal

pub rows_of-requires : goal.rows_of-requires
rows_of-requires c =
    let a = c.args in
    let p = policy_in_is a.n a.f a.own a.d a.w a.majority a.size a.adaptive a.balanced a.models.now a.inflight.now a.alive a.init.now
    a.table.now c.is_table.result in
    let y = c.policy-choice.ensures ∙ rw (c.is_set-2.ensures, c.is_set.ensures) (sym p) in
    held a.n a.f a.own a.d a.w a.majority a.size a.adaptive a.balanced a.models.now a.inflight.now a.alive a.init.now a.table.now
    c.is_table.result y

pub returns : goal.returns
returns c =
    let a = c.args in
    let l = c.is_table.ensures in
    let p = policy_in_is a.n a.f a.own a.d a.w a.majority a.size a.adaptive a.balanced a.models.now a.inflight.now a.alive a.init.now
    a.table.now c.is_table.result in
    let y = c.policy-choice.ensures ∙ rw (c.is_set-2.ensures, c.is_set.ensures) (sym p) in
    let z =
    rows_left_are a.n a.f a.own a.d a.w a.majority a.size a.adaptive a.balanced a.models.now a.inflight.now a.alive a.init.now a.table.now
    a.rows.now l y c.rows_of.ensures c.copy_part.ensures in
    record { answer = rw (c.into.ensures, y, l); words = z }
