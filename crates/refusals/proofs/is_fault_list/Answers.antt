-- `refusals::is_fault_list` meets its contract. Assumes nothing.
use mathlib.Core.Path.{ap, ◌∙◌}
use Prim.Native.Nat.{ℕ}
use borrow.Author.Tests.{eq-eqb, ne_eqb}
use Rattle.std.specs.List.{list_all}
use Rattle.lists.specs.AllLaws.{all_same}
use Rattle.bitmap.specs.Mask.{all_below}
use Rattle.bitmap.specs.RunLaws.{run_all}
use Rattle.refusals.specs.Limits.{is_under, is_fault_set, is_fault_list}
use Rattle.refusals.specs.LimitLaws.{fault_set_under}
use Rattle.refusals.proofs.is_fault_list.Goals as goal

pub returns-then-faults-eq0 : goal.returns-then-faults-eq0
unfolding is_fault_list
returns-then-faults-eq0 c =
    rw (eq-eqb _ _ c.if-faults-eq0.true)

pub returns : goal.returns
unfolding is_fault_list
returns c =
    let a = c.args in
    rw (ne_eqb _ _ c.if-faults-eq0.false)
    (c.are_under.ensures ∙ ap (λ (limit : ℕ). list_all (is_under limit) a.faults.now) (c.run.ensures ∙ run_all a.n)
    ∙ all_same (is_under (all_below a.n)) (is_fault_set a.n) (fault_set_under a.n) a.faults.now)
