-- The floor (`min_shards_per_replica`): the fewest shards a replica, all having equally many, under the peers now alive. Assumes nothing.
use Rattle.std.specs.Prelude.{List, [], ◌∷◌, ℕ, ◌+◌, ◌-◌, ◌*◌, ◌/◌, ◌%◌, min, eqb}
use Rattle.bitmap.specs.Mask.{count}
use Rattle.refusals.specs.Numbers.{POPULATION, TOLERANCE, SHARDS, QUORUM, MULTIPLE, MASK}
use Rattle.refusals.specs.First.{Case, unless, first_of}
use Rattle.refusals.specs.Outcome.{Outcome, outcome}
use Rattle.refusals.specs.Limits.{is_population, is_tolerance, is_shards, is_quorum, is_mask}

-- min((majority + f + 1 - alive, not below 0) × (d / majority), d)
unfoldable pub floor_of : ℕ → ℕ → ℕ → ℕ → ℕ
floor_of f d majority alive = min ((majority + f + 1 - alive) * (d / majority)) d

abbrev pub floor_cases : ℕ → ℕ → ℕ → ℕ → ℕ → List Case
floor_cases n f d majority alive =
    unless (is_population n) POPULATION
    ∷ unless (is_tolerance n f) TOLERANCE
    ∷ unless (is_shards d d) SHARDS
    ∷ unless (is_quorum n majority) QUORUM
    ∷ unless (eqb (d % majority) 0) MULTIPLE
    ∷ unless (is_mask n alive) MASK
    ∷ []

unfoldable pub floor_refusal : ℕ → ℕ → ℕ → ℕ → ℕ → ℕ
floor_refusal n f d majority alive = first_of (floor_cases n f d majority alive)

unfoldable pub min_shards_of : ℕ → ℕ → ℕ → ℕ → ℕ → Outcome ℕ
min_shards_of n f d majority alive = outcome (floor_refusal n f d majority alive) (floor_of f d majority (count alive))
