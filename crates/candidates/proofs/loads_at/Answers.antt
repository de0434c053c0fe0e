-- `candidates::loads_at` meets its contract. Assumes nothing.
use mathlib.Core.Path.{◌≡◌, ap, ◌∙◌}
use native.Mathlib.Omega.{arith}
use Rattle.lists.proofs.BelowLoops.{filled_none, filled_done}
use Rattle.bitmap.specs.Mask.{mask_below}
use Rattle.bitmap.proofs.MaskLoops.{mask_none}
use Rattle.candidates.specs.Search.{answers, answered_at, loads_at}
use Rattle.candidates.proofs.Parts.{next_silent, next_answers}
use Rattle.candidates.proofs.loads_at.Goals as goal
use Rattle.candidates.proofs.loads_at.Goals.{else-run-eq0, then-run-eq0}

pub loop-p-init : goal.loop-p-init
unfolding answered_at loads_at
loop-p-init c =
    (search filled_none, search mask_none)

pub loop-p-preserved : goal.loop-p-preserved
unfolding answered_at loads_at
loop-p-preserved c =
    let t = c.args.times.now in
    elim c.if-run-eq0.branch [
      | then-run-eq0 w ↦ next_silent t.population t.own.0 t.data_shards t.times.now c.args.t _ _ _ _ c.loop-p.invariant c.run_at-run.ensures (omega arith) w.if-run-eq0.true w.loads-is w.answered-is
      | else-run-eq0 w ↦ next_answers t.population t.own.0 t.data_shards t.times.now c.args.t _ _ _ _ c.loop-p.invariant c.run_at-run.ensures (omega arith) w.if-run-eq0.false w.loads-is (w.answered-is ∙ w.with_replica-answered.ensures)
    ]

pub returns : goal.returns
unfolding answered_at loads_at
returns c =
    let t = c.args.times.now in
    let e : c.loop-p.p ≡ t.population = omega arith in
    record { mask = c.loop-p.invariant.1 ∙ ap (mask_below (answers t.own.0 t.data_shards t.times.now c.args.t)) e; loads = filled_done _ _ _ _ c.loop-p.invariant.0 (omega arith) }
