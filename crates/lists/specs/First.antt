-- The first element of a list that passes a test, and the least one by an order. Assumes nothing.
use Rattle.std.specs.Prelude.{Bool, cond, ℕ, zero, suc}
use mathlib.Core.List.{List, [], ◌∷◌, foldl}
use Rattle.std.specs.Prelude.{Option, None, Some}

module _ {A : Type 0} where
  abbrev pub first_that : (A → Bool) → List A → Option A
  first_that t [] = None
  first_that t (x ∷ xs) = cond (t x) (Some x) (first_that t xs)

  -- the lower of what was found and x; of two equal ones the one found
  abbrev pub better_by : (A → A → Bool) → Option A → A → Option A
  better_by le None x = Some x
  better_by le (Some b) x = cond (le b x) (Some b) (Some x)

  -- the least element that passes, in one pass from the front
  abbrev pub least_that : (A → A → Bool) → (A → Bool) → List A → Option A
  least_that le t xs = foldl (λ (best : Option A) (x : A). cond (t x) (better_by le best x) best) None xs

  -- a number and its value: the one found, unless the other's value is lower
  abbrev pub lower_at : (A → A → Bool) → ℕ × A → ℕ × A → ℕ × A
  lower_at le best other = cond (le best.1 other.1) best other

  -- the first of the numbers 0 to k at which f is least, and its value there
  unfoldable pub least_up_to : (A → A → Bool) → (ℕ → A) → ℕ → ℕ × A
  least_up_to le f zero = (0, f 0)
  least_up_to le f (suc k) = lower_at le (least_up_to le f k) (suc k, f (suc k))
