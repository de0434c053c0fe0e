use Rattle.std.proofs.Common.{◌≡◌, length}
use Rattle.rows.specs.Row.{first_rows}
use Rattle.numerals.specs.Text.{split}
use Rattle.numerals.specs.Read.{read_each}
use Rattle.layout_text.specs.LayoutText.{segment_in}
use Rattle.layout_text.proofs.Initial.read_segments.Given as goal

abbrev pub invariant-loop-q : goal.invariant-loop-q
invariant-loop-q l =
    (goal.iterator-loop-q).can_next l.q-iterator
    × (goal.iterator-loop-q).is_finite l.q-iterator
    × (length l.words ≡ length l.initial.words)
    × (read_each (segment_in l.self.population l.self.total) (first_rows l.self.population l.initial.words) (split 47 l.s) ≡ read_each (segment_in l.self.population l.self.total) (first_rows l.self.population l.words) l.q-iterator)
