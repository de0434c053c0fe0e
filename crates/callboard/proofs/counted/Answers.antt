-- A refused reply stores nothing, and leaves the tally as it was (`kept`). Assumes nothing.
use Rattle.std.proofs.Common.{◌≡◌, sym, ap, ◌∙◌}
use Rattle.refusals.specs.Outcome.{Outcome, refused}
use Rattle.refusals.specs.Refused.{number_of}
use Rattle.refusals.proofs.Outcomes.{number_some}
use Rattle.tally.specs.declared.Status.{Status}
use Rattle.tally.specs.declared.Tally.{Tally}
use Rattle.tally.specs.Tally.{from_reply, reply_of}
use Rattle.c_types.specs.CTypes.{to_reply, from_tally}
use Rattle.c_types.proofs.ThroughCLaws.{kept}
use Rattle.callboard.proofs.counted.Goals as goal

pub returns-in_err-replied-clause-tally : goal.returns-in_err-replied-clause-tally
returns-in_err-replied-clause-tally c =
    let a = c.args in
    let r = from_reply a.r.now in
    let e : refused (number_of c.in_err-replied.field-0.0) ≡ reply_of (from_tally a.t.now) r =
    c.in_err-replied.ensures.status ∙ ap (λ (u : Tally). reply_of u r) c.into.ensures in
    sym (kept a.t.now r (λ z. number_some _ (ap (λ (o : Outcome Status). (to_reply o).refusal) e ∙ z)))
