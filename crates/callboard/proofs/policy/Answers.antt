-- `callboard::policy` meets its contract. Assumes nothing.
use Rattle.std.proofs.Common.{rules, ◌≡◌, Err}
use Rattle.callboard.proofs.Numbers.{fitting_refused, fitting_unlent, fitting_lent}
use Rattle.callboard.proofs.policy.Goals as goal

pub returns-in_err-choice : goal.returns-in_err-choice
returns-in_err-choice c =
    let e : c.from_residual.result ≡ Err c.in_err-choice.field-0.0 = search rules in
    rw (e, ← c.in_err-choice.ensures) (fitting_refused _ _)

pub returns-in_err-unless : goal.returns-in_err-unless
returns-in_err-unless c =
    let e : c.from_residual-in_err-unless.result ≡ Err c.in_err-unless.field-0.0 = search rules in
    rw (e, ← c.in_ok-choice.ensures) (fitting_unlent _ _ _ c.in_err-unless.ensures)

pub returns : goal.returns
returns c =
    rw (← c.in_ok-choice.ensures) (fitting_lent _ _ c.in_ok-unless.ensures)
