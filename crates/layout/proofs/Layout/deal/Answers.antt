-- `layout::Layout::deal` meets its contract. Assumes nothing.
use mathlib.Core.Path.{refl}
use native.Mathlib.Omega.{arith}
use Rattle.rows.proofs.TableLoops.{rows_start, rows_more}
use Rattle.layout.specs.Layout.{row_at}
use Rattle.layout.proofs.Loads.{sum_more, sum_small, row_is}
use Rattle.layout.proofs.Layout.deal.Goals as goal

pub loop-s-init : goal.loop-s-init
loop-s-init c =
    (refl, rows_start (row_at _ _ _) _)

pub overflow_add-offset : goal.overflow_add-offset
overflow_add-offset c =
    let h = sum_small _ _ _ _ c.loop-s.invariant.0 _ c.loop-s-test.true c.dealt.ensures (omega arith) (omega arith) in
    omega (arith, h)

pub loop-s-preserved : goal.loop-s-preserved
loop-s-preserved c =
    let l = c.loop-s in
    let a = c.args.self.now in (
      sum_more _ _ _ _ l.invariant.0 _ c.loop-s-test.true c.dealt.ensures,
      rows_more (row_at a.data_shards a.width a.loads.now) c.args.rows.now l.s _ l.rows c.put.new.rows (omega arith) l.invariant.1 (row_is a.data_shards a.loads.now l.s l.offset.0 l.invariant.0 a.width _ c.row_at-row.ensures) c.put.ensures,
    )
