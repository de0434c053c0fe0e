-- `candidates::Search::first_time` meets its contract. Assumes nothing.
use mathlib.Core.Path.{◌≡◌, sym, ap, subst, ◌∙◌}
use mathlib.Core.List.{foldl}
use Rattle.std.specs.Prelude.{Option}
use Prim.Native.Nat.{◌<◌, ◌+◌}
use lib.Ieee.{nan, Float}
use lib.ListN.{length, drop, get_or}
use Rattle.lists.proofs.Loops.{fold_step, fold_done}
use Rattle.candidates.specs.Search.{first_time}
use Rattle.candidates.specs.Searched.{search_commits}
use Rattle.candidates.proofs.Parts.{step, least_found, Settled, more_settled, known_again}
use Rattle.candidates.proofs.search.Search.first_time.Goals as goal
use Rattle.candidates.proofs.search.Search.first_time.Goals.{then-not-is_repeat, else-not-is_repeat}

pub loop-i-preserved : goal.loop-i-preserved
loop-i-preserved c =
    let s = c.args.self.now in
    let xs = s.times.times.now in
    let t = search_commits s in
    let h : c.loop-i.i < length xs = c.loop-i-test.true in
    let b = c.loop-i.best in
    let e : c.if-not-is_repeat.best ≡ step t b (get_or xs c.loop-i.i nan) = elim c.if-not-is_repeat.branch [
      | then-not-is_repeat w ↦ w.best-is ∙ w.consider-best.ensures
      | else-not-is_repeat w ↦ w.best-is ∙ known_again t xs b c.loop-i.i c.loop-i.invariant.1 (c.is_repeat.ensures.known w.if-not-is_repeat.false)
    ] in (
      ap (λ (o : Option Float). foldl (step t) o (drop (c.loop-i.i + 1) xs)) e ∙ fold_step (step t) b xs c.loop-i.i nan h ∙ c.loop-i.invariant.0,
      subst (λ (o : Option Float). Settled t xs o (c.loop-i.i + 1)) (sym e) (more_settled t xs b c.loop-i.i c.loop-i.invariant.1),
    )

pub returns : goal.returns
unfolding first_time
returns c =
    let s = c.args.self.now in
    let t = search_commits s in
    sym (fold_done (step t) c.loop-i.best s.times.times.now c.loop-i.i c.loop-i-test.false) ∙ c.loop-i.invariant.0
    ∙ least_found t s.times.times.now
