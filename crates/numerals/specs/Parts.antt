-- The parts that an iterator over the parts of a text has left. Assumes nothing.
use Rattle.std.specs.Prelude.{List, [], ℕ, Option, Some, None}
use Rattle.std.specs.Borrow.{Bor}
use Rattle.numerals.specs.Text.{split}

-- those of the rest, and none where there is no rest
abbrev pub parts_left : ℕ → Option (Bor (List ℕ)) → List (List ℕ)
parts_left x None = []
parts_left x (Some rest) = split x rest.now
