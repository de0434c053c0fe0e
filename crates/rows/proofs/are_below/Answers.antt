-- `rows::are_below` meets its contract. Assumes nothing.
use mathlib.Core.Path.{ap, ◌∙◌}
use Prim.Native.Nat.{◌-◌}
use Rattle.bitmap.specs.Mask.{is_below}
use Rattle.rows.proofs.TableLaws.{all_rows_below, last_words_below}
use Rattle.rows.proofs.are_below.Goals as goal

pub returns-then-w-ge192 : goal.returns-then-w-ge192
returns-then-w-ge192 c =
    let a = c.args in
    c.is_below.ensures ∙ ap (is_below (a.w - 192)) c.last_of.ensures
    ∙ last_words_below a.w c.if-w-ge192.true a.rows.now (λ i. (c.type_inv.rows i).fits)

pub returns : goal.returns
returns c =
    let a = c.args in
    c.is_below-2.ensures ∙ ap (is_below a.w) c.all_of.ensures ∙ all_rows_below a.w a.rows.now
