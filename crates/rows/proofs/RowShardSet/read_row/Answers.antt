-- `rows::Row::read_row` meets its contract. Assumes nothing.
use Rattle.rows.proofs.TableLaws.{row_is}
use Rattle.rows.proofs.RowShardSet.read_row.Goals as goal

pub returns : goal.returns
returns c =
    let a = c.args in row_is a.rows.now a.s
