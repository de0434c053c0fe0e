-- `gossip::Progress::meet` meets its contract. Assumes nothing.
use mathlib.Core.Path.{refl, ◌∙◌}
use native.Mathlib.Omega.{arith}
use Rattle.rows.specs.Row.{words}
use Rattle.rows.proofs.WordLaws.{value_lt}
use Rattle.rows.proofs.Facts.{are_words, same_row}
use Rattle.gossip.proofs.Steps.{adds_nothing, adds}
use Rattle.gossip.proofs.Progress.meet.Goals as goal

pub returns-then-eq : goal.returns-then-eq
returns-then-eq c =
    let a = c.union-available.result in
    let b = c.args.self.available in
    let k = are_words a (omega arith) (omega arith) (omega arith) (omega arith) in
    let l = are_words b (omega arith) (omega arith) (omega arith) (omega arith) in
    adds_nothing _ _ _ _ _ _ c.union-available.ensures c.count.ensures _ (c.eq.ensures ∙ same_row a b k l) c.if-eq.true

pub returns : goal.returns
returns c =
    let a = c.union-available.result in
    let b = c.args.self.available in
    let k = are_words a (omega arith) (omega arith) (omega arith) (omega arith) in
    let l = are_words b (omega arith) (omega arith) (omega arith) (omega arith) in
    adds _ _ _ _ _ _ c.union-available.ensures c.count.ensures _ (c.eq.ensures ∙ same_row a b k l) c.if-eq.false _ _ refl (omega arith) (value_lt (words b) l) c.put.ensures _ c.with_replica.ensures
