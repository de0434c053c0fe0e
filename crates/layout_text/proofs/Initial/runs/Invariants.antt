use Rattle.std.proofs.Common.{◌≡◌, length}
use Rattle.layout_text.proofs.Rows.{Running}
use Rattle.layout_text.proofs.Initial.runs.Given as goal

abbrev pub invariant-loop-r : goal.invariant-loop-r
invariant-loop-r l =
    (length l.words ≡ length l.initial.words) × Running l.self.population l.self.total l.k l.words l.r
