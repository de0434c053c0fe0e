-- The first float in total order that passes a test is the least that passes, found in one pass, and what that pass need test. Assumes nothing.
use Rattle.std.specs.Prelude.{◌≡◌, refl, List, Bool, true, false, not, cond, ◌&&◌, T, Float}
use Rattle.std.specs.Prelude.{Option, None, Some}
use Rattle.std.specs.Float.{binary64}
use Rattle.std.specs.Float.Ieee.{fits}
use Rattle.lists.specs.First.{first_that, better_by, least_that}
use Rattle.lists.specs.FirstLaws
use Rattle.lists.specs.Sort.{sorted_by}
use Rattle.floats.specs.Floats.{total_le, precedes}
use Rattle.floats.specs.OrderLaws.{total, trans}

-- a double
abbrev pub Fits : Float → Type 0
Fits x = T (fits binary64 x)

pub first_is_least : (t : Float → Bool) (xs : List Float) → first_that t (sorted_by total_le xs) ≡ least_that total_le t xs
first_is_least t xs = FirstLaws.first_is_least total_le total trans t xs

-- one more element: it is taken if it passes and stands before what was found, so only then need it be tested
pub taken_means : (t : Bool) (best : Option Float) (x : Float) → cond t (better_by total_le best x) best ≡ cond (precedes x best && t) (Some x) best
taken_means true None x = refl
taken_means false None x = refl
taken_means t (Some b) x = go t (total_le b x)
  where
    go : (t v : Bool) → cond t (cond v (Some b) (Some x)) (Some b) ≡ cond (not v && t) (Some x) (Some b)
    go true true = refl
    go true false = refl
    go false true = refl
    go false false = refl
