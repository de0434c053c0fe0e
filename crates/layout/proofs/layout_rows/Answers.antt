-- `layout::layout_rows` meets its contract. Assumes nothing.
use mathlib.Core.Path.{sym}
use native.Mathlib.Omega.{arith}
use Rattle.refusals.proofs.Outcomes.{ok_outcome}
use Rattle.layout.specs.Layout.{layout_rows_of, rows_written}
use Rattle.layout.proofs.RefusalLaws.{rows_sound}
use Rattle.layout.proofs.Entries.{rows_written_are}
use Rattle.layout.proofs.layout_rows.Goals as goal

pub lay-requires : goal.lay-requires
unfolding layout_rows_of rows_written
lay-requires c =
    let s = (rows_sound _ _ _ _ _).0 (sym c.in_ok-check_rows.ensures) in
    (s.shards, omega arith, omega arith)

pub returns : goal.returns
unfolding layout_rows_of rows_written
returns c =
    let z = c.in_ok-check_rows.ensures in
    record { answer = ok_outcome _ z _ _ c.lay.ensures.width; words = rows_written_are _ _ _ _ _ z _ c.lay.ensures.words }
