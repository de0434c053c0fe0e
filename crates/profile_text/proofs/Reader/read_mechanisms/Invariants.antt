use Rattle.std.proofs.Common.{◌≡◌}
use Rattle.numerals.specs.Text.{split}
use Rattle.numerals.specs.Read.{read_each}
use Rattle.profile_text.specs.ProfileText.{mechanism_in}
use Rattle.profile_text.proofs.Reader.read_mechanisms.Given as goal

abbrev pub invariant-loop-q : goal.invariant-loop-q
invariant-loop-q l =
    (goal.iterator-loop-q).can_next l.q-iterator
    × (goal.iterator-loop-q).is_finite l.q-iterator
    × (read_each (mechanism_in l.self.population) l.initial.p (split 59 l.s) ≡ read_each (mechanism_in l.self.population) l.p l.q-iterator)
