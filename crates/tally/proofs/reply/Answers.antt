-- `tally::reply` meets its contract. Assumes nothing.
use mathlib.Core.Path.{◌≡◌}
use native.Mathlib.Omega.{arith}
use borrow.Author.Rules.{rules}
use lib.ListN.{length}
use Rattle.tally.proofs.Entries.{source_below, rows_fit}
use Rattle.tally.proofs.reply.Goals as goal

pub note-requires : goal.note-requires
note-requires c =
    let long : length c.args.t.rows ≡ 64 = search rules in
    omega (arith, source_below _ _ _ c.check_reply.ensures _ c.in_ok-check_reply.was, long)

pub with_replica-heard-requires : goal.with_replica-heard-requires
with_replica-heard-requires c =
    omega (arith, source_below _ _ _ c.check_reply.ensures _ c.in_ok-check_reply.was)

pub invariant_of-holdings : goal.invariant_of-holdings
invariant_of-holdings c =
    let long : length c.args.t.rows ≡ 64 = search rules in
    let h = rows_fit _ _ _ c.check_reply.ensures _ c.in_ok-check_reply.was _ c.note.ensures long in record { small = h.0; narrow = h.1; whole = h.2; below = h.3 }
