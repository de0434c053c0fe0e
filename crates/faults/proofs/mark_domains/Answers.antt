-- `faults::mark_domains` meets its contract. Assumes nothing.
use mathlib.Core.Path.{◌≡◌, refl, ◌∙◌}
use mathlib.Core.List.{List}
use mathlib.Core.Bool.{true, ◌&&◌}
use Prim.Native.Nat.{ℕ, ◌^◌, ◌<◌, ◌≤◌}
use native.Mathlib.Omega.{arith}
use borrow.Author.Rules.{rules}
use borrow.Author.Tests.{ltb-true}
use lib.Dec.{eqb}
use lib.ListN.{length, get_or, take}
use lib.Seq.{take_all}
use Rattle.std.specs.List.{list_all}
use Rattle.lists.specs.AllLaws.{all_means}
use Rattle.refusals.specs.Limits.{is_mask, is_under}
use Rattle.faults.specs.Family.{is_among}
use Rattle.faults.proofs.Marks.{marked_then, marked_one, marked_none, among_more}
use Rattle.faults.proofs.Tables.{domains_below}
use Rattle.faults.proofs.mark_domains.Goals as goal

-- the domain at the place i has a bit in a table with the replicas that it had before
inside : (n k size i : ℕ) (ds : List ℕ) → k ≡ n → 2 ^ k ≤ size → list_all (is_mask n) ds ≡ true → i < length ds → get_or ds i 0 < size
inside n k size i ds same room e h =
    ltb-true (get_or ds i 0) size ((all_means (is_under size) 0 ds).0 (domains_below n size ds (rw same at room) e) i h)

pub loop-domain-init : goal.loop-domain-init
unfolding is_among
loop-domain-init g c =
    record { replicas = refl; marked = marked_none _ _ c.args.marks.now.words (λ j l. refl) }

pub put-requires : goal.put-requires
put-requires g c =
    let l = c.loop-domain in
    (search rules, inside c.args.marks.now.replicas l.marks.replicas _ l.domain-index c.args.domains.now l.invariant.replicas l.marks.room c.requires (omega arith))

pub loop-domain-preserved : goal.loop-domain-preserved
loop-domain-preserved g c =
    let a = c.args in
    let n : ℕ = a.marks.now.replicas in
    let l = c.loop-domain in
    let v = l.invariant in
    let ds : List ℕ = a.domains.now in
    let i : ℕ = l.domain-index in
    let h : i < length ds = omega arith in
    let d : ℕ = get_or ds i 0 in
    let bit = inside n l.marks.replicas _ i ds v.replicas l.marks.room c.requires h in
    record {
      replicas = c.put.ensures.replicas ∙ v.replicas;
      marked =
          marked_then (2 ^ n) (is_among (take i ds)) (λ m. eqb m d && true) _ a.marks.now.words l.marks.words _ v.marked
          (marked_one (2 ^ n) d true l.marks.words _ bit c.put.ensures.words refl)
          (λ m. among_more ds i m h);
    }

pub returns-clause-marked : goal.returns-clause-marked
returns-clause-marked g c =
    let ds : List ℕ = c.args.domains.now in
    let whole : take c.loop-domain.domain-index ds ≡ ds = take_all c.loop-domain.domain-index ds (omega arith) in
    rw whole at c.loop-domain.invariant.marked
