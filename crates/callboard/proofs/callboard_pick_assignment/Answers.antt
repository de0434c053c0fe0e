-- `callboard::callboard_pick_assignment` meets its contract. Assumes nothing.
use Rattle.std.proofs.Common.{refl, sym, ap, ◌∙◌}
use Rattle.refusals.specs.Refused.{refusal_of}
use Rattle.refusals.proofs.Outcomes.{number_some}
use Rattle.callboard.proofs.Flat.{refused_plan, picked_plan}
use Rattle.callboard.proofs.callboard_pick_assignment.Goals as goal

pub returns-in-Err : goal.returns-in-Err
returns-in-Err c =
    let a = c.args in
    let z =
    refused_plan a.n a.own a.quorum a.d a.ceiling a.width a.size a.penalty a.heard a.models.now a.inflight.now a.faults.now a.rows.now
    c.total-total.ensures c.from_peers-peers.ensures c.check_pick-typed.ensures (ap refusal_of (sym c.in-Err.is) ∙ c.check_tables.ensures)
    (number_some _) (c.from.ensures a.rows.now) in
    record { answer = z.0; words = z.1 }

pub returns-in-Ok : goal.returns-in-Ok
returns-in-Ok c =
    let a = c.args in
    let z =
    picked_plan a.n a.own a.quorum a.d a.ceiling a.width a.size a.penalty a.heard a.models.now a.inflight.now a.faults.now a.rows.now
    c.total-total.ensures c.from_peers-peers.ensures c.check_pick-typed.ensures (ap refusal_of (sym c.in-Ok.is) ∙ c.check_tables.ensures)
    refl c.pick_assignment.result (c.into.ensures _) c.pick_assignment.ensures.answer c.pick_assignment.ensures.words in
    record { answer = z.0; words = z.1 }
