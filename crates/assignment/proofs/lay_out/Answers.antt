-- `assignment::lay_out` meets its contract. Assumes nothing.
use Rattle.std.proofs.Common.{rules}
use Rattle.layout.specs.Layout.{Fit, bound}
use Rattle.assignment.proofs.Parts.{lost, laid_plan}
use Rattle.assignment.proofs.lay_out.Goals as goal

pub returns-in_err-unless : goal.returns-in_err-unless
returns-in_err-unless c =
    let l = lost _ _ _ _ _ _ _ _ c.args.rows.now c.commits.ensures _ c.in_err-unless.ensures _ c.from_residual.ensures in
    record { answer = l.0; words = l.1 }

pub returns : goal.returns
returns c =
    let r = c.args.rule.now in
    let fits : Fit r.data_shards (bound r.total) = search rules in
    let l = laid_plan _ _ _ _ _ _ _ _ _ c.commits.ensures c.in_ok-unless.ensures fits c.requires.0 c.requires.1 c.lay-width.ensures.width c.lay-width.ensures.words in
    record { answer = l.0; words = l.1 }
