-- `decimals::signed` meets its contract. Assumes nothing.
use Rattle.std.proofs.Common.{rules, arith}
use Rattle.decimals.proofs.Steps.{sign_minus, sign_plus, sign_none, sign_empty}
use Rattle.decimals.proofs.signed.Goals.{in_default-via-then-s-lt1, in_default-via-else-s-lt1+in_default-1}
use Rattle.decimals.proofs.signed.Goals as goal

pub returns-in-45 : goal.returns-in-45
returns-in-45 c =
    sign_minus c.args.s.now c.in-45.len_at_least (omega arith)

pub returns-in-43 : goal.returns-in-43
returns-in-43 c =
    sign_plus c.args.s.now c.in-43.len_at_least (omega arith)

pub returns-in_default : goal.returns-in_default
returns-in_default c =
    elim c.in_default.branch [
      | in_default-via-then-s-lt1 w ↦ sign_empty c.args.s.now (search rules)
      | in_default-via-else-s-lt1+in_default-1 w ↦ sign_none c.args.s.now (search rules) (search rules)
    ]
