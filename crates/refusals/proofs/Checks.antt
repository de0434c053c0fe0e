-- What a range check and a check that went on say. The premises are what a goal's record holds: `search ranges` proves each return of a
-- range check. Assumes nothing.
use mathlib.Core.Path.{◌≡◌, refl, sym, ap, ◌∙◌}
use mathlib.Core.Bool.{Bool, true, false, cond, ◌&&◌}
use Prim.Native.Nat.{ℕ, ◌+◌, ◌≤◌, ◌<◌}
use native.Mathlib.Omega.{arith}
use lib.Dec.{leb}
use borrow.Author.Tests.{le-leb, lt-leb}
use Rattle.refusals.specs.Limits.{is_population}
use Rattle.refusals.specs.LimitLaws.{population_means}

-- ---- a range: `if b < a { return false; }`, and what is left of it
pub within : (a b : ℕ) (t r : Bool) → a ≤ b → r ≡ t → r ≡ (leb a b && t)
within a b t r h e = rw (le-leb a b h) e

pub outside : (a b : ℕ) (t : Bool) → b < a → false ≡ (leb a b && t)
outside a b t h = rw (lt-leb a b h)

pub ruleset ranges = (refl, within, outside)

-- ---- `unless(test, ..)?` went on: the test held
pub went_on : (r : Bool) (k : ℕ) → 0 ≡ cond r 0 (k + 1) → r ≡ true
went_on true k e = refl
went_on false k e = absurd (omega arith)

-- so of the population, by its test
pub population_went_on : (n : ℕ) (r : Bool) → r ≡ is_population n → ◌≡◌ {A = ℕ} 0 (cond r 0 1) → n ≤ 16
population_went_on n r e p = ((population_means n).0 (sym e ∙ went_on r 0 p)).1
