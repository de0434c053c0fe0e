-- `faults::mark_family` meets its contract. Assumes nothing.
use mathlib.Core.Path.{◌≡◌, sym, ◌∙◌}
use mathlib.Core.List.{List}
use Prim.Native.Nat.{ℕ, ◌^◌, ◌≤◌}
use native.Mathlib.Omega.{arith}
use borrow.Author.Rules.{rules}
use lib.Ieee.{of_bits}
use lib.ListN.{length}
use Rattle.floats.proofs.Shrink.{one_fine}
use Rattle.profiles.specs.Profile.{has_probs, probs_of, domains_of}
use Rattle.faults.specs.Family.{is_among}
use Rattle.faults.specs.Marks.{Marked}
use Rattle.faults.proofs.Marks.{marked_for}
use Rattle.faults.proofs.Tables.{flags_family, probable_marked, none_marked}
use Rattle.faults.proofs.mark_family.Goals as goal

pub mark_domains-requires : goal.mark_domains-requires
mark_domains-requires g c =
    (search rules, rw (c.mark_sized.ensures.replicas, c.counted_domains.ensures) c.requires.accepted.members)

pub mark_probable-requires : goal.mark_probable-requires
unfolding of_bits
mark_probable-requires g c =
    let n : ℕ = c.args.marks.now.replicas in
    let after = c.mark_domains.new.marks in
    let size : length c.probs_of.result.now ≡ n = c.probs_of.ensures.each_replica c.args.marks.now.few in
    let same : after.replicas ≡ n = c.mark_domains.ensures.replicas ∙ c.mark_sized.ensures.replicas in
    let few : n ≤ 16 = c.args.marks.now.few in
    record {
      few = omega arith;
      room = rw (size, ← same) after.room;
      below = omega arith;
      fine = one_fine;
      probabilities = rw c.probs_of.ensures.probs (c.requires.accepted.chances (sym c.has_probs.ensures ∙ c.if-has_probs.true));
    }

pub returns-then-has_probs : goal.returns-then-has_probs
unfolding of_bits
returns-then-has_probs g c =
    let n : ℕ = c.args.marks.now.replicas in
    let p = c.args.p.now in
    let a : List ℕ = c.mark_sized.new.marks.words in
    let b : List ℕ = c.mark_domains.new.marks.words in
    let domains : Marked (2 ^ n) (is_among (domains_of p)) a b =
    rw c.counted_domains.ensures at (marked_for n _ c.mark_sized.ensures.replicas _ a b c.mark_domains.ensures.marked) in
    let probable =
    probable_marked n (has_probs p) (probs_of n p) p.threshold b c.probs_of.result.now c.mark_probable.new.words
    (sym c.has_probs.ensures ∙ c.if-has_probs.true) c.probs_of.ensures.probs (c.probs_of.ensures.each_replica c.args.marks.now.few) c.mark_probable.ensures in
    record {
      flags = flags_family n c.args.f _ (domains_of p) (has_probs p) (probs_of n p) p.threshold _ a b _ c.requires.blank c.mark_sized.ensures.marked domains probable;
      replicas = c.mark_domains.ensures.replicas ∙ c.mark_sized.ensures.replicas;
    }

pub returns-else-has_probs : goal.returns-else-has_probs
returns-else-has_probs g c =
    let n : ℕ = c.args.marks.now.replicas in
    let p = c.args.p.now in
    let a : List ℕ = c.mark_sized.new.marks.words in
    let b : List ℕ = c.mark_domains.new.marks.words in
    let domains : Marked (2 ^ n) (is_among (domains_of p)) a b =
    rw c.counted_domains.ensures at (marked_for n _ c.mark_sized.ensures.replicas _ a b c.mark_domains.ensures.marked) in
    let none = none_marked n (has_probs p) (probs_of n p) p.threshold b (sym c.has_probs.ensures ∙ c.if-has_probs.false) in
    record {
      flags = flags_family n c.args.f _ (domains_of p) (has_probs p) (probs_of n p) p.threshold _ a b b c.requires.blank c.mark_sized.ensures.marked domains none;
      replicas = c.mark_domains.ensures.replicas ∙ c.mark_sized.ensures.replicas;
    }
