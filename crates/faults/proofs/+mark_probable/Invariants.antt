-- The replicas not yet tried are fewer at each call.
use Rattle.std.proofs.Common.{◌-◌, length}
use Rattle.faults.proofs.+mark_probable.Given as goal

abbrev pub decreases-mark_probable : goal.decreases-mark_probable
decreases-mark_probable l = length l.probs.now - l.next
