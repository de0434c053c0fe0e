-- `layout::CommitRule::commits` meets its contract. Assumes nothing.
use mathlib.Core.Path.{sym, ap}
use mathlib.Core.Bool.{Bool}
use Prim.Native.Nat.{ℕ, ◌*◌}
use native.Mathlib.Omega.{arith}
use lib.ListN.{replicate}
use Rattle.lists.proofs.Lent.{lent}
use Rattle.layout.proofs.rule.CommitRule.commits.Goals as goal

pub trial-requires-clause-a_row_each : goal.trial-requires-clause-a_row_each
trial-requires-clause-a_row_each c =
    sym (lent (c.args.self.now.population * 4) (replicate 64 0) (omega arith))

pub returns : goal.returns
returns c =
    ap (λ (t : ℕ × Bool). t.1) c.trial.ensures.answer
