-- `coverage::Holdings::rows_united_as` meets its contract. Assumes nothing.
use mathlib.Core.Path.{ap, ap₂, ◌∙◌}
use mathlib.Core.List.{List}
use Prim.Native.Nat.{ℕ}
use Rattle.rows.specs.Row.{row_in}
use Rattle.coverage.specs.Walk.{rows_until}
use Rattle.coverage.specs.Ranks.{rows_outside}
use Rattle.coverage.specs.declared.Holdings.{Holdings}
use Rattle.coverage.proofs.Walks.{order_walked}
use Rattle.coverage.proofs.Holdings.rows_united_as.Goals as goal

pub returns : goal.returns
returns g c =
    let h = c.args.self.now in
    let w = c.in_order.result in
    let e = c.in_order.ensures in
    c.unite.ensures.rows
    ∙ ap₂ (λ (d : ℕ) (t : List ℕ). rows_until d 0 (rows_outside (row_in t) c.args.fault w.order.now)) e.shards (ap (λ (k : Holdings). k.rows.now) e.holdings)
    ∙ order_walked h.population h.heard (row_in h.rows.now) c.args.d c.args.fault w.order.now e.order
