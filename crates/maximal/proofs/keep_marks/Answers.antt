-- `maximal::keep_marks` meets its contract: what the words flag that hold the sets. Assumes nothing.
use Prim.Native.Nat.{ℕ, ◌*◌, ◌^◌, ◌≤◌}
use native.Mathlib.Omega.{arith}
use mathlib.Core.Path.{◌≡◌, ◌∙◌}
use mathlib.Core.List.{List}
use lib.ListN.{length, take}
use Rattle.marks.specs.Marks.{flagged}
use Rattle.marks.specs.MarkLaws.{flagged_cut, flagged_longer}
use Rattle.maximal.specs.Tables.{Flags}
use Rattle.maximal.proofs.MaximalLaws.{is_maximal_same}
use Rattle.maximal.proofs.keep_marks.Goals as goal

pub returns-clause-flags : goal.returns-clause-flags
unfolding Flags
returns-clause-flags g c =
    let n : ℕ = c.args.marks.now.replicas in
    let words : List ℕ = c.args.marks.now.words in
    let used : ℕ = c.used-used.result in
    let enough : 2 ^ n ≤ 64 * used = c.used-used.ensures.enough in
    let cut : List ℕ = take used words in
    let size : length c.keep.new.table ≡ used = omega arith in
    λ m l.
    flagged_longer c.keep.new.table _ m (omega arith) ∙ c.keep.ensures m l
    ∙ is_maximal_same (flagged cut) (flagged words) n (λ k i. flagged_cut words used k (omega arith)) m l
