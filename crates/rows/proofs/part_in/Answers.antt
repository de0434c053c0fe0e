-- `rows::part_in` meets its contract. Assumes nothing.
use Rattle.rows.proofs.TableLaws.{row_is}
use Rattle.rows.proofs.part_in.Goals as goal

pub returns : goal.returns
returns c =
    let a = c.args in
    rw (c.word_at-w3.ensures, c.word_at-w2.ensures, c.word_at-w1.ensures, c.word_at-w0.ensures) (row_is a.rows.now a.s)
