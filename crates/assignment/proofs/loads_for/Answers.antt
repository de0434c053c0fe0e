-- `assignment::loads_for` meets its contract. Assumes nothing.
use mathlib.Core.Path.{◌≡◌, ap₂, ◌∙◌}
use Prim.Native.Nat.{ℕ}
use Rattle.std.proofs.Common.{rules}
use Rattle.trimming.specs.Order.{trim_order}
use Rattle.candidates.specs.Search.{answered_at, loads_at}
use Rattle.assignment.proofs.Parts.{loads_trimmed}
use Rattle.assignment.proofs.loads_for.Goals as goal

pub returns : goal.returns
returns c =
    let s = c.args.search.now in
    let own = s.times.own.0 in
    let times = s.times.times.now in
    let p : s.times.population ≡ s.rule.population = search rules in
    let q : s.times.data_shards ≡ s.rule.data_shards = search rules in
    let m = c.loads_at-answered.ensures.mask ∙ ap₂ (λ (n d : ℕ). answered_at own d times c.args.t n) p q in
    let l = c.loads_at-answered.ensures.loads ∙ ap₂ (λ (n d : ℕ). loads_at own d times c.args.t n) p q in
    let o = c.trim_order-order.ensures ∙ ap₂ (λ (n d : ℕ). trim_order n own d times) p q in
    record { mask = m; loads = loads_trimmed _ _ _ _ _ _ _ _ m o l c.trim.ensures }
