-- `rows::Row::with` meets its contract. Assumes nothing.
use mathlib.Core.Path.{ap, ◌∙◌}
use lib.Bits.{bit_or}
use Rattle.rows.specs.Row.{row_of}
use Rattle.rows.proofs.Facts.{run_one}
use Rattle.rows.proofs.Row.with.Goals as goal

pub returns : goal.returns
returns c =
    let a = c.args in c.union.ensures ∙ ap (bit_or (row_of a.self)) (c.run.ensures ∙ run_one a.s.0)
