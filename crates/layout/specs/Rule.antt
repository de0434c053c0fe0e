-- What a commit rule says of loads. Assumes nothing.
use Rattle.std.specs.Prelude.{Bool, List, ℕ}
use Rattle.layout.specs.declared.rule.CommitRule.{CommitRule}
use Rattle.layout.specs.Layout.{layout_commits}

-- the layout of the loads commits under the rule, where those of the mask answer
abbrev pub rule_commits : CommitRule → ℕ → List ℕ → Bool
rule_commits r answered loads = layout_commits r.population r.quorum r.data_shards r.total answered r.faults.now loads
