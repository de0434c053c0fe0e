use Rattle.std.proofs.Common.{◌≡◌}
use Rattle.rows.specs.Row.{row_of}
use Rattle.numerals.specs.Read.{read_each}
use Rattle.numerals.specs.Whole.{member_in, members_of}
use Rattle.numerals.proofs.read_shards.Given as goal

abbrev pub invariant-loop-q : goal.invariant-loop-q
invariant-loop-q l =
    (goal.iterator-loop-q).can_next l.q-iterator
    × (goal.iterator-loop-q).is_finite l.q-iterator
    × (members_of l.trims l.limit l.s ≡ read_each (member_in l.trims l.limit) (row_of l.row) l.q-iterator)
