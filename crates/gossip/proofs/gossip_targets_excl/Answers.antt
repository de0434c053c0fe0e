-- `gossip::gossip_targets_excl` meets its contract. Assumes nothing.
use mathlib.Core.Path.{◌≡◌, refl, sym, ap, ◌∙◌}
use Prim.Native.Nat.{◌*◌}
use native.Mathlib.Omega.{arith}
use lib.ListN.{length, replicate}
use borrow.Author.Rules.{rules}
use Rattle.refusals.specs.Refused.{refusal_of}
use Rattle.gossip.proofs.RefusalLaws.{gossip_sound}
use Rattle.gossip.proofs.Steps.{asks, excludes}
use Rattle.gossip.proofs.gossip_targets_excl.Goals as goal

pub invariant_of-peers : goal.invariant_of-peers
invariant_of-peers c =
    let s = (gossip_sound _ _ _ _ _ _ _ _ _).0 (sym c.check_gossip.ensures ∙ ap refusal_of c.in_ok-check_gossip.was) in
    record { few = s.population.1; own_below = s.replica; source_below = s.source_replica; table = s.table }

pub walk-end-requires : goal.walk-end-requires
walk-end-requires c =
    omega (arith, c.fill.auto.self, ((gossip_sound _ _ _ _ _ _ _ _ _).0 (sym c.check_gossip.ensures ∙ ap refusal_of c.in_ok-check_gossip.was)).each_exclusion)

pub returns : goal.returns
returns c =
    let no = sym c.check_gossip.ensures ∙ ap refusal_of c.in_ok-check_gossip.was in
    let x = c.args.exclusions.now in
    let s = (gossip_sound _ _ _ _ _ _ _ _ _).0 no in
    let zeros : c.fill.new.self ≡ replicate (length x) 0 = search rules in
    let k = c.fill.auto.self in
    let j = c.walk-end.auto.exclusions in
    let long : length c.walk-end.new.exclusions ≡ c.args.n * 4 = omega (arith, j, k, s.each_exclusion) in
    record {
      answer = asks _ _ _ _ _ _ _ _ x no _ zeros _ c.walk-end.ensures;
      words = excludes _ _ _ _ _ _ _ _ x no _ zeros _ c.walk-end.ensures _ refl (λ i. (c.type_inv.exclusions i).fits) long;
    }
