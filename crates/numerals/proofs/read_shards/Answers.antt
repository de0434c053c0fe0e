-- `numerals::read_shards` meets its contract. Assumes nothing.
use Rattle.std.proofs.Common.{rules, ◌≡◌, ◌∙◌, ap, arith, Err}
use Rattle.refusals.specs.Refused.{outcome_by}
use Rattle.rows.specs.Row.{row_of}
use Rattle.numerals.specs.Whole.{member_in, members_of}
use Rattle.numerals.proofs.ReadLaws.{read_refused, read_next, read_ended}
use Rattle.numerals.proofs.Scans.{member_refused, member_read, member_below}
use Rattle.numerals.proofs.read_shards.Goals as goal

pub loop-q-init : goal.loop-q-init
unfolding members_of
loop-q-init c =
    (tt, tt, rw (c.none-row.ensures, c.into_iter-q-iterator.ensures.into_iter_gives, c.split-q-items.ensures))

pub returns-in_err-v : goal.returns-in_err-v
returns-in_err-v c =
    let e : c.from_residual.result ≡ Err c.in_err-v.field-0.0 = search rules in
    ap (outcome_by row_of) e ∙ read_refused (member_in _ _) _ c.loop-q.invariant.2 c.in-Some.ensures.steps (member_refused _ _ _ c.in_err-v.ensures _)

pub with-row-requires : goal.with-row-requires
with-row-requires c =
    let h = member_below _ _ _ c.in_ok-v.ensures in
    omega (arith, h)

pub loop-q-preserved : goal.loop-q-preserved
loop-q-preserved c =
    (tt, tt, read_next (member_in _ _) _ c.loop-q.invariant.2 c.in-Some.ensures.steps (member_read _ _ _ c.in_ok-v.ensures _ c.with-row.ensures))

pub returns : goal.returns
returns c =
    read_ended (member_in _ _) _ c.loop-q.invariant.2 c.in-None.ensures.steps.0
