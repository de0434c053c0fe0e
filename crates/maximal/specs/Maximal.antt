-- The maximal members of a family of sets of n replicas. A family is a test of masks. Assumes nothing.
use Rattle.std.specs.Prelude.{ℕ, ◌^◌, Bool, not, ◌&&◌, List, eqb}
use Rattle.std.specs.Int.Bits.{bit_and}
use Rattle.lists.specs.Below.{some_below, those_below}

-- s has every member of m
unfoldable pub is_part : ℕ → ℕ → Bool
is_part m s = eqb (bit_and m s) m

-- s is a proper superset of m
unfoldable pub is_beyond : ℕ → ℕ → Bool
is_beyond m s = is_part m s && not (eqb m s)

-- some proper superset of m is in the family g
unfoldable pub is_covered_by : (ℕ → Bool) → ℕ → ℕ → Bool
is_covered_by g n m = some_below (λ (s : ℕ). g s && is_beyond m s) (2 ^ n)

-- m is in the family g, and no proper superset of it is
unfoldable pub is_maximal : (ℕ → Bool) → ℕ → ℕ → Bool
is_maximal g n m = g m && not (is_covered_by g n m)

-- each set of the family with no proper superset in it, once, as masks in rising order
unfoldable pub maximals : (ℕ → Bool) → ℕ → List ℕ
maximals g n = those_below (is_maximal g n) (2 ^ n)
