-- `profile_text::read_decimals` meets its contract. Assumes nothing.
use Rattle.std.proofs.Common.{rules, arith, ◌≡◌, ◌∙◌, Err, refl, []}
use lib.Ieee.{of_bits}
use Rattle.numerals.specs.SplitLaws.{split_le}
use Rattle.profile_text.specs.ProfileText.{decimals_of}
use Rattle.profile_text.proofs.Mechanisms.{collected_refused, collected_few, collected_next, collected_ends}
use Rattle.profile_text.proofs.read_decimals.Goals as goal

pub loop-q-init : goal.loop-q-init
unfolding decimals_of of_bits
loop-q-init c =
    let e = c.into_iter-q-iterator.ensures.into_iter_gives ∙ c.split-q-items.ensures in
    (tt, tt, record { ps = []; held = refl; left = rw e; fits = rw e (omega (arith, split_le 44 c.args.s.now)) })

pub returns-in_err-x : goal.returns-in_err-x
returns-in_err-x c =
    let e : c.from_residual.result ≡ Err c.in_err-x.field-0.0 = search rules in
    rw e (collected_refused c.loop-q.invariant.2 c.in-Some.ensures.steps c.trimmed.ensures c.in_err-x.ensures)

pub push-requires : goal.push-requires
push-requires c =
    let h = collected_few c.loop-q.invariant.2 c.in-Some.ensures.steps c.trimmed.ensures in
    omega (arith, h)

pub loop-q-preserved : goal.loop-q-preserved
loop-q-preserved c =
    (tt, tt, collected_next c.loop-q.invariant.2 c.in-Some.ensures.steps c.trimmed.ensures c.in_ok-x.x c.in_ok-x.ensures c.push.ensures)

pub returns : goal.returns
returns c =
    collected_ends c.loop-q.invariant.2 c.in-None.ensures.steps.0
