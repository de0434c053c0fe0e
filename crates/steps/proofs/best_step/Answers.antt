-- `steps::best_step` meets its contract. Assumes nothing.
use mathlib.Core.Path.{◌≡◌, sym, ap, ◌∙◌}
use Prim.Native.Nat.{ℕ, ◌-◌}
use Rattle.lists.specs.First.{least_up_to}
use Rattle.floats.specs.Floats.{total_le}
use Rattle.times.specs.Times.{models_in}
use Rattle.steps.specs.Steps.{time_of_step, best_step}
use Rattle.steps.proofs.StepLaws.{steps_all}
use Rattle.steps.proofs.Steps.{timed, best_small, found_kept, found_moved, found_all}
use Rattle.steps.proofs.best_step.Goals as goal
use Rattle.steps.proofs.best_step.Goals.{then-precedes, else-precedes}

pub loop-i-preserved : goal.loop-i-preserved
loop-i-preserved c =
    let s = c.args.scheme in
    let p = c.args.peers.now in
    let f = time_of_step s.population s.tolerance p.own.0 s.data_shards s.majority c.args.size p.inflight.now (models_in p.models.now) in
    let v =
    timed s.population s.tolerance p.own.0 s.data_shards s.majority c.args.size p.inflight.now (models_in p.models.now) c.loop-i.i _ _ _ c.requires.a_word_each c.share.ensures c.step_time-time.ensures in
    elim c.if-precedes.branch [
      | then-precedes m ↦ found_moved f _ _ _ c.loop-i.invariant _ _ v c.precedes.ensures _ _ m.if-precedes.true m.best-is m.least-is
      | else-precedes m ↦ found_kept f _ _ _ c.loop-i.invariant _ _ v c.precedes.ensures _ _ m.if-precedes.false m.best-is m.least-is
    ]

pub returns : goal.returns
unfolding best_step
returns c =
    let s = c.args.scheme in
    let p = c.args.peers.now in
    let m = models_in p.models.now in
    let f = time_of_step s.population s.tolerance p.own.0 s.data_shards s.majority c.args.size p.inflight.now m in
    let e : c.loop-i.best ≡ best_step s.population s.tolerance p.own.0 s.data_shards s.majority c.args.size p.inflight.now m =
    found_all f s.majority _ _ _ s.some_majority c.loop-i.auto.i-end c.loop-i-test.false c.loop-i.invariant
    ∙ ap (λ (k : ℕ). (least_up_to total_le f (k - 1)).0) (sym (steps_all s.data_shards s.majority s.some_shards s.whole_shares)) in
    record { least = e; inside = best_small _ _ _ _ _ _ _ _ s.some_shards s.whole_shares _ e }
