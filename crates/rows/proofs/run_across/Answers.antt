-- `rows::run_across` meets its contract. Assumes nothing.
use mathlib.Core.Path.{◌∙◌}
use Rattle.rows.proofs.Facts.{run_is}
use Rattle.rows.proofs.WordLaws.{value_run}
use Rattle.rows.proofs.run_across.Goals as goal

pub returns : goal.returns
returns c =
    let k = c.args in
    run_is k.a _ _ _ _ _ _ _ _ _ _ _ c.past-a1.ensures c.past-e1.ensures c.past-a2.ensures c.past-e2.ensures c.past.ensures c.past-2.ensures
    c.span-w0.ensures c.span-w1.ensures c.span-w2.ensures c.span-w3.ensures ∙ value_run 4 k.a k.k c.requires
