-- `decimals::read_digits` meets its contract. Assumes nothing.
use Rattle.std.proofs.Common.{arith, ap, Some}
use Rattle.std.proofs.lemmas.Grind.{common_steps}
use Rattle.decimals.proofs.Steps.{spelling_next, spelling_ends}
use Rattle.decimals.proofs.read_digits.Goals as goal

pub loop-b-preserved : goal.loop-b-preserved
loop-b-preserved c =
    let l = c.loop-b in
    (grind (arith, common_steps), rw c.from.ensures (spelling_next c.args.v l.w l.b-index c.args.s.now l.invariant.1 c.loop-b-test.true))

pub returns-then-ok : goal.returns-then-ok
returns-then-ok c =
    let l = c.loop-b in
    (grind (arith, common_steps), λ e h. ap Some (spelling_ends c.args.v l.w l.b-index c.args.s.now l.invariant.1 c.loop-b-test.false e h))
