-- How likely a peer seems to fail. Assumes nothing.
use Rattle.std.specs.Prelude.{ℕ, cond, List, ◌∷◌, Float, get_or}
use Rattle.std.specs.Float.{nan}
use Rattle.refusals.specs.Numbers.{POPULATION, REPLICA}
use Rattle.refusals.specs.First.{Case, unless, first_of}
use Rattle.refusals.specs.Outcome.{Outcome, outcome}
use Rattle.refusals.specs.Limits.{is_population, is_replica}
use Rattle.floats.specs.Floats.{plus_zero, larger}
use Rattle.profiles.specs.declared.Profile.{Profile}
use Rattle.profiles.specs.Profile.{has_probs, profile_cases}

-- the peer's probability, or 0
abbrev pub given : Profile → ℕ → Float
given p peer = cond (has_probs p) (get_or p.probs peer nan) plus_zero

-- under `runtime` the larger of that and the downtime
abbrev pub chance_of : Profile → ℕ → Float → Float
chance_of p peer down = cond p.runtime (larger (given p peer) down) (given p peer)

abbrev pub unreliability_cases : ℕ → ℕ → Profile → List Case
unreliability_cases n peer p = unless (is_population n) POPULATION ∷ unless (is_replica n peer) REPLICA ∷ profile_cases n p

unfoldable pub unreliability_refusal : ℕ → ℕ → Profile → ℕ
unreliability_refusal n peer p = first_of (unreliability_cases n peer p)

unfoldable pub unreliability_of : ℕ → ℕ → Profile → Float → Outcome Float
unreliability_of n peer p down = outcome (unreliability_refusal n peer p) (chance_of p peer down)
