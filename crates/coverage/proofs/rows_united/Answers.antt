-- `coverage::rows_united` meets its contract. Assumes nothing.
use mathlib.Core.Path.{ap, ◌∙◌}
use Rattle.rows.specs.Row.{row_in}
use Rattle.refusals.proofs.Entered.{ok_outcome}
use Rattle.coverage.specs.Walk.{walked, rows_united_of}
use Rattle.coverage.proofs.Entries.{covers_room}
use Rattle.coverage.proofs.rows_united.Goals as goal

pub invariant_of-holdings : goal.invariant_of-holdings
invariant_of-holdings c =
    let h = covers_room _ _ _ _ _ _ _ _ c.check_covers.ensures c.in_ok-check_covers.was in record { small = h.0; narrow = h.1; whole = h.2; below = h.3 }

pub returns : goal.returns
unfolding rows_united_of
returns c =
    let q = c.rows_united.ensures ∙ ap (walked c.args.n c.args.d c.args.heard (row_in c.args.rows.now)) c.word_at.ensures in
    ok_outcome _ c.check_covers.result c.check_covers.ensures _ _ c.in_ok-check_covers.field-0 c.in_ok-check_covers.was q
