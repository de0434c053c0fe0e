-- `faults::mark_sized` meets its contract. Assumes nothing.
use Prim.Native.Nat.{ℕ}
use native.Mathlib.Omega.{arith}
use mathlib.Core.Path.{◌≡◌, ◌∙◌}
use mathlib.Core.List.{List}
use Rattle.marks.specs.Marks.{with_flag}
use Rattle.faults.specs.Family.{is_sized}
use Rattle.faults.specs.Marks.{Marked}
use Rattle.faults.proofs.Marks.{has_bit_for, sized, not_sized, done_leave, left_leave, done_put, left_put}
use Rattle.faults.proofs.mark_sized.Goals as goal
use Rattle.faults.proofs.mark_sized.Goals.{then-count-f, else-count-f}

pub loop-m-preserved : goal.loop-m-preserved
loop-m-preserved g c =
    let f : ℕ = c.args.f in
    let n : ℕ = c.args.marks.now.replicas in
    let before : List ℕ = c.args.marks.now.words in
    let l = c.loop-m in
    let m : ℕ = l.m in
    let words : List ℕ = l.marks.words in
    let v = l.invariant in
    let inside = has_bit_for n l.marks.replicas v.replicas m words (omega arith) l.marks.room in
    elim c.if-count-f.branch [
      | then-count-f w ↦
          let put : c.if-count-f.marks.words ≡ with_flag words m = rw w.marks-is w.put.ensures.words in
          let same : c.if-count-f.marks.replicas ≡ l.marks.replicas = rw w.marks-is w.put.ensures.replicas in
          let yes = sized f m _ c.count.ensures w.if-count-f.true in
          record {
            replicas = same ∙ v.replicas;
            done = done_put (is_sized f) before m words v.done v.left inside _ put yes;
            left = left_put (is_sized f) before m words v.done v.left inside _ put;
          }
      | else-count-f w ↦
          let no = not_sized f m _ c.count.ensures w.if-count-f.false in
          rw w.marks-is (record {
            replicas = v.replicas;
            done = done_leave (is_sized f) before m words v.done v.left no;
            left = left_leave (is_sized f) before m words v.done v.left;
          })
    ]

pub returns-clause-marked : goal.returns-clause-marked
unfolding Marked
returns-clause-marked g c =
    λ j h. c.loop-m.invariant.done j (omega arith)
