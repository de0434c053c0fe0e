-- Tests of a float: whether it is finite, its place in total order, whether it is a probability. Assumes nothing.
use Rattle.std.specs.Prelude.{ℕ, ◌*◌, ◌≡◌, Bool, true, false, not, ◌&&◌, ◌||◌, cond, pos, T, leb, Float}
use Rattle.std.specs.Prelude.{Option, None, Some}
use Rattle.std.specs.Float.{nan, inf, fin, binary64}
use Rattle.std.specs.Float.Ieee.{fits, up, down, is_nan, le}

-- +0 and 1
abbrev pub plus_zero : Float
plus_zero = fin false 0 (pos 0)

abbrev pub one : Float
one = fin false 1 (pos 0)

-- neither a NaN nor an infinity
unfoldable pub is_finite : Float → Bool
is_finite nan = false
is_finite (inf s) = false
is_finite (fin s m e) = true

-- ±a is at most ±b; -0 is below +0
abbrev pub signed_le : Bool → ℕ → Bool → ℕ → Bool
signed_le false a false b = leb a b
signed_le false a true b = false
signed_le true a false b = true
signed_le true a true b = leb b a

-- Total order: -infinity, the negative numbers, -0, +0, the positive numbers, +infinity, and every NaN alike above them.
unfoldable pub total_le : Float → Float → Bool
total_le nan nan = true
total_le nan (inf t) = false
total_le nan (fin t n d) = false
total_le (inf s) nan = true
total_le (inf s) (inf t) = s || not t
total_le (inf s) (fin t n d) = s
total_le (fin s m e) nan = true
total_le (fin s m e) (inf t) = not t
total_le (fin s m e) (fin t n d) = signed_le s (m * up e * down d) t (n * up d * down e)

-- at one place of it
unfoldable pub is_same : Float → Float → Bool
is_same a b = total_le a b && total_le b a

-- The larger of two in total order, so that zeros of opposite sign give +0; a NaN second is ignored.
unfoldable pub larger : Float → Float → Float
larger a b = cond (is_nan b) a (cond (total_le a b) b a)

-- from 0 to 1: a NaN is none, -0 is one
unfoldable pub is_probability : Float → Bool
is_probability p = le plus_zero p && le p one

-- a double from 0 up to the largest finite one: what a product of probabilities can be
pub record Fine (x : Float) : Type 0 where
  pub fit : T (fits binary64 x)
  pub finite : is_finite x ≡ true
  pub above : le plus_zero x ≡ true

-- x stands before what a search has found so far, or it has found nothing
abbrev pub precedes : Float → Option Float → Bool
precedes x None = true
precedes x (Some b) = not (total_le b x)
