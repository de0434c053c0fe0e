-- Parts read one after the other, from the left: the first fault decides. Assumes nothing.
use Rattle.std.specs.Prelude.{List, [], ◌∷◌}
use Rattle.refusals.specs.Outcome.{Outcome, accepted, and_then}

-- a step takes what has been read so far and the next part
unfoldable pub read_each : {A B : Type 0} → (A → B → Outcome A) → A → List B → Outcome A
read_each step a [] = accepted a
read_each step a (p ∷ ps) = and_then (step a p) (λ b. read_each step b ps)
