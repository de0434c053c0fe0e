use mathlib.Core.Path.{◌≡◌}
use mathlib.Core.List.{foldl}
use Rattle.std.specs.Prelude.{None}
use lib.ListN.{drop}
use Rattle.candidates.specs.Searched.{search_commits}
use Rattle.candidates.proofs.Parts.{step, Settled}
use Rattle.candidates.proofs.search.Search.first_time.Given as goal

abbrev pub invariant-loop-i : goal.invariant-loop-i
invariant-loop-i l =
    (foldl (step (search_commits l.self)) l.best (drop l.i l.self.times.times.now) ≡ foldl (step (search_commits l.self)) None l.self.times.times.now)
    × Settled (search_commits l.self) l.self.times.times.now l.best l.i
