use Rattle.std.proofs.Common.{◌≡◌}
use Rattle.numerals.specs.Read.{read_each}
use Rattle.profile_text.specs.ProfileText.{domain_in, domains_in}
use Rattle.profile_text.proofs.Reader.read_domains.Given as goal

abbrev pub invariant-loop-q : goal.invariant-loop-q
invariant-loop-q l =
    (goal.iterator-loop-q).can_next l.q-iterator
    × (goal.iterator-loop-q).is_finite l.q-iterator
    × (domains_in l.self.population l.initial.p l.args ≡ read_each (domain_in l.self.population) l.p l.q-iterator)
