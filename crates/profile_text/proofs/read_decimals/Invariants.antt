use Rattle.profile_text.proofs.Mechanisms.{Collected}
use Rattle.profile_text.proofs.read_decimals.Given as goal

abbrev pub invariant-loop-q : goal.invariant-loop-q
invariant-loop-q l =
    (goal.iterator-loop-q).can_next l.q-iterator
    × (goal.iterator-loop-q).is_finite l.q-iterator
    × Collected l.s l.list l.q-iterator
