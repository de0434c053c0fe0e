-- `layout::CommitRule::trial` meets its contract. Assumes nothing.
use mathlib.Core.Path.{ap, ap₂, ◌∙◌}
use mathlib.Core.Bool.{Bool}
use mathlib.Core.List.{List}
use Prim.Native.Nat.{ℕ}
use native.Mathlib.Omega.{arith}
use Rattle.std.proofs.Common.{rules}
use Rattle.rows.specs.Row.{row_in}
use Rattle.coverage.specs.Coverage.{commits}
use Rattle.layout.specs.Layout.{Fit, bound}
use Rattle.layout.proofs.LayoutLaws.{width_fits, spelled_commits}
use Rattle.layout.proofs.Entries.{whole, laid_below}
use Rattle.layout.proofs.rule.CommitRule.trial.Goals as goal

pub invariant_of-holdings : goal.invariant_of-holdings
invariant_of-holdings c =
    let r = c.args.self.now in
    let fits : Fit r.data_shards (bound r.total) = search rules in
    let laid = c.lay-width.ensures.words ∙ whole r.data_shards r.total c.args.loads.now c.args.rows.now (omega (arith, c.requires.a_load_each, c.requires.a_row_each)) in record {
      small = r.small;
      narrow = omega (arith, c.lay-width.ensures.width, (width_fits r.data_shards r.total c.args.loads.now fits).2);
      whole = omega (arith, c.lay-width.auto.rows, c.requires.a_row_each);
      below = laid_below r.population r.data_shards r.total c.args.loads.now fits _ _ c.lay-width.ensures.width laid;
    }

pub returns-clause-answer : goal.returns-clause-answer
returns-clause-answer c =
    let r = c.args.self.now in
    let fits : Fit r.data_shards (bound r.total) = search rules in
    let laid = c.lay-width.ensures.words ∙ whole r.data_shards r.total c.args.loads.now c.args.rows.now (omega (arith, c.requires.a_load_each, c.requires.a_row_each)) in
    ap₂ (λ (x : ℕ) (y : Bool). (x, y)) c.lay-width.ensures.width
    (c.commits-commits.ensures
    ∙ ap (λ (x : List ℕ). commits r.population r.quorum r.data_shards c.args.answered (row_in x) r.faults.now) laid
    ∙ spelled_commits r.data_shards r.total c.args.loads.now fits r.population r.quorum c.args.answered r.faults.now)

pub returns-clause-words : goal.returns-clause-words
returns-clause-words c =
    let r = c.args.self.now in
    c.lay-width.ensures.words ∙ whole r.data_shards r.total c.args.loads.now c.args.rows.now (omega (arith, c.requires.a_load_each, c.requires.a_row_each))
