-- The family of sets that must be survived. Assumes nothing.
use Rattle.std.specs.Prelude.{ℕ, ◌/◌, ◌%◌, Bool, cond, not, ◌&&◌, ◌||◌, List, [], ◌∷◌, eqb, Float}
use Rattle.std.specs.Float.{binary64}
use Rattle.std.specs.Float.Ieee.{mul, le}
use Rattle.std.specs.List.{list_any}
use Rattle.bitmap.specs.Mask.{count}
use Rattle.floats.specs.Floats.{one}
use Rattle.profiles.specs.declared.Profile.{Profile}
use Rattle.profiles.specs.Profile.{has_probs, domains_of, probs_of}

-- a, times the probability of each member of the mask m, in rising order, rounded at each step. The head of the list is replica 0's
unfoldable pub times_of : List Float → ℕ → Float → Float
times_of [] m a = a
times_of (p ∷ ps) m a = times_of ps (m / 2) (cond (eqb (m % 2) 0) a (mul binary64 a p))

-- a nonempty set whose product, 1.0 times its members' probabilities, is at least the threshold
unfoldable pub is_probable : List Float → Float → ℕ → Bool
is_probable ps threshold m = not (eqb m 0) && le threshold (times_of ps m one)

-- the sets of exactly f replicas
unfoldable pub is_sized : ℕ → ℕ → Bool
is_sized f m = eqb (count m) f

-- one of the masks of a list
unfoldable pub is_among : List ℕ → ℕ → Bool
is_among ds m = list_any (eqb m) ds

-- the sets of exactly f replicas, the domains ds, and, where probabilities are known, the probable sets
unfoldable pub family_of : ℕ → List ℕ → Bool → List Float → Float → ℕ → Bool
family_of f ds known ps threshold m = is_sized f m || (is_among ds m || (known && is_probable ps threshold m))

-- the family of a profile of n replicas, any f of which may fail
abbrev pub family : ℕ → ℕ → Profile → ℕ → Bool
family n f p m = family_of f (domains_of p) (has_probs p) (probs_of n p) p.threshold m
