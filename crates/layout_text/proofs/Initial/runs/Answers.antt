-- `layout_text::Initial::runs` meets its contract. Assumes nothing.
use Rattle.std.proofs.Common.{rules, refl, arith}
use Rattle.layout_text.proofs.Rows.{runs_none, runs_more}
use Rattle.layout_text.proofs.Initial.runs.Goals as goal

pub loop-r-init : goal.loop-r-init
loop-r-init c =
    (refl, runs_none _ _ _ _)

pub loop-r-preserved : goal.loop-r-preserved
loop-r-preserved c =
    let l = c.loop-r in
    let a = c.args in
    (search rules, runs_more a.self.population a.self.total a.k l.words l.r (omega arith) (omega arith) l.invariant.1 (omega arith) c.loop-r-test.true c.run_modulo.ensures c.put.ensures)
