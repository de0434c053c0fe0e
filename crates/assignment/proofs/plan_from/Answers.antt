-- `assignment::plan_from` meets its contract. Assumes nothing.
use mathlib.Core.Path.{ap, ◌∙◌}
use Rattle.std.specs.Prelude.{Option}
use Rattle.refusals.specs.Outcome.{Outcome}
use Rattle.assignment.specs.Plans.{Plan, planned}
use Rattle.assignment.proofs.Parts.{plan_is}
use Rattle.assignment.proofs.plan_from.Goals as goal

pub returns-in-None : goal.returns-in-None
returns-in-None c =
    let p = plan_is _ _ _ _ _ _ _ c.first_time.ensures c.in-None.is in
    record { answer = p; words = ap (λ (x : Outcome (Option Plan)). planned x c.args.rows.now) p }

pub returns-in-Some : goal.returns-in-Some
returns-in-Some c =
    let p = plan_is _ _ _ _ _ _ _ c.first_time.ensures c.in-Some.is in
    record { answer = c.plan_at.ensures.answer ∙ p; words = c.plan_at.ensures.words ∙ ap (λ (x : Outcome (Option Plan)). planned x c.args.rows.now) p }
