-- `assignment::pick_assignment` meets its contract. Assumes nothing.
use mathlib.Core.Path.{refl, ap, ◌∙◌}
use Rattle.std.specs.Prelude.{Option}
use Rattle.refusals.specs.Outcome.{Outcome}
use Rattle.assignment.specs.Plans.{Plan, planned}
use Rattle.assignment.proofs.Parts.{pick_refused, tested, pick_is}
use Rattle.assignment.proofs.pick_assignment.Goals as goal

pub returns-in_err-check_pick : goal.returns-in_err-check_pick
returns-in_err-check_pick c =
    let a = c.args in
    let r = pick_refused _ _ _ _ _ _ _ _ _ _ c.in_err-check_pick.ensures a.penalty a.rows.now _ c.from_residual.ensures in
    record { answer = r.0; words = r.1 }

pub invariant_of-rule : goal.invariant_of-rule
invariant_of-rule c =
    let s = tested _ _ _ _ _ _ _ _ _ c.in_ok-check_pick.ensures in
    record { small = s.population.1; fits = s.shards }

pub pick_with_room-requires-clause-size : goal.pick_with_room-requires-clause-size
pick_with_room-requires-clause-size c =
    (tested _ _ _ _ _ _ _ _ _ c.in_ok-check_pick.ensures).small

pub pick_with_room-requires-clause-in_bounds : goal.pick_with_room-requires-clause-in_bounds
pick_with_room-requires-clause-in_bounds c =
    (tested _ _ _ _ _ _ _ _ _ c.in_ok-check_pick.ensures).in_flight_fits

pub pick_with_room-requires-clause-table : goal.pick_with_room-requires-clause-table
pick_with_room-requires-clause-table c =
    (tested _ _ _ _ _ _ _ _ _ c.in_ok-check_pick.ensures).table

pub returns-then-d-le-NARROW : goal.returns-then-d-le-NARROW
returns-then-d-le-NARROW c =
    let p = pick_is _ _ _ _ _ _ _ _ _ c.in_ok-check_pick.ensures c.args.penalty refl refl in
    let e = c.pick_with_room.ensures in
    record { answer = e.answer ∙ p; words = e.words ∙ ap (λ (o : Outcome (Option Plan)). planned o c.args.rows.now) p }

pub invariant_of-rule-2 : goal.invariant_of-rule-2
invariant_of-rule-2 c =
    let s = tested _ _ _ _ _ _ _ _ _ c.in_ok-check_pick.ensures in
    record { small = s.population.1; fits = s.shards }

pub pick_with_room-requires-2-clause-size : goal.pick_with_room-requires-2-clause-size
pick_with_room-requires-2-clause-size c =
    (tested _ _ _ _ _ _ _ _ _ c.in_ok-check_pick.ensures).small

pub pick_with_room-requires-2-clause-in_bounds : goal.pick_with_room-requires-2-clause-in_bounds
pick_with_room-requires-2-clause-in_bounds c =
    (tested _ _ _ _ _ _ _ _ _ c.in_ok-check_pick.ensures).in_flight_fits

pub pick_with_room-requires-2-clause-table : goal.pick_with_room-requires-2-clause-table
pick_with_room-requires-2-clause-table c =
    (tested _ _ _ _ _ _ _ _ _ c.in_ok-check_pick.ensures).table

pub returns : goal.returns
returns c =
    let p = pick_is _ _ _ _ _ _ _ _ _ c.in_ok-check_pick.ensures c.args.penalty refl refl in
    let e = c.pick_with_room-2.ensures in
    record { answer = e.answer ∙ p; words = e.words ∙ ap (λ (o : Outcome (Option Plan)). planned o c.args.rows.now) p }
