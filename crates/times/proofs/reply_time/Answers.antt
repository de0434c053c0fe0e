-- `times::reply_time` meets its contract. Assumes nothing.
use Rattle.std.proofs.Common.{sym, ap}
use lib.Ieee.{of_bits}
use Rattle.times.specs.Times.{reply_time}
use Rattle.times.specs.declared.Peer.{Peer}
use Rattle.times.proofs.reply_time.Goals as goal

pub returns-in-Silent : goal.returns-in-Silent
unfolding of_bits reply_time
returns-in-Silent c =
    let a = c.args in
    sym (ap (λ (p : Peer). reply_time p a.x a.penalty) c.in-Silent.is)

pub returns-in-Heard : goal.returns-in-Heard
unfolding of_bits reply_time
returns-in-Heard c =
    let a = c.args in
    rw (c.settled.ensures, c.predict.ensures) (sym (ap (λ (p : Peer). reply_time p a.x a.penalty) c.in-Heard.is))
