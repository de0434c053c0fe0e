-- `candidates::Search::commits_at` meets its contract. Assumes nothing.
use mathlib.Core.Path.{◌≡◌, ap₂, ◌∙◌}
use mathlib.Core.List.{List}
use Prim.Native.Nat.{ℕ}
use Rattle.std.proofs.Common.{rules}
use Rattle.layout.specs.Rule.{rule_commits}
use Rattle.candidates.specs.Search.{commits_at, answered_at, loads_at}
use Rattle.candidates.proofs.search.Search.commits_at.Goals as goal

pub returns : goal.returns
unfolding commits_at
returns c =
    let s = c.args.self.now in
    let p : s.times.population ≡ s.rule.population = search rules in
    let d : s.times.data_shards ≡ s.rule.data_shards = search rules in
    c.commits.ensures ∙ ap₂ (λ (m : ℕ) (l : List ℕ). rule_commits s.rule m l) c.loads_at-answered.ensures.mask c.loads_at-answered.ensures.loads
    ∙ ap₂ (λ (n k : ℕ). rule_commits s.rule (answered_at s.times.own.0 k s.times.times.now c.args.t n) (loads_at s.times.own.0 k s.times.times.now c.args.t n)) p d
