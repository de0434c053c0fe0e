-- The domains before the index are flagged.
use Rattle.std.proofs.Common.{◌≡◌, ◌^◌, take}
use Rattle.faults.specs.Family.{is_among}
use Rattle.faults.specs.Marks.{Marked}
use Rattle.faults.proofs.mark_domains.Given as goal

abbrev pub invariant-loop-domain : goal.invariant-loop-domain
invariant-loop-domain g l =
    record {
      replicas : l.marks.replicas ≡ l.initial.marks.replicas;
      marked : Marked (2 ^ l.initial.marks.replicas) (is_among (take l.domain-index l.domains)) l.initial.marks.words l.marks.words;
    }
