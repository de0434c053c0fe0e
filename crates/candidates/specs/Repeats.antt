-- Which times the search passes over: it has considered the same time before, and finds the same without them. Contracts of private functions alone speak
-- of them. Assumes nothing.
use Rattle.std.specs.Prelude.{◌≡◌, ◌<◌, Bool, ◌&&◌, ◌||◌, List, ℕ, suc, ◌-◌, ◌*◌, leb, Float, get_or}
use Rattle.std.specs.Float.{nan}
use Rattle.floats.specs.Floats.{is_same}

-- the time so many places before i is the same
abbrev pub repeats_at : List Float → ℕ → ℕ → Bool
repeats_at times back i = leb back i && is_same (get_or times (i - back) nan) (get_or times i nan)

-- it is one place before, or at the same load one or two replicas before
abbrev pub is_repeat : ℕ → List Float → ℕ → Bool
is_repeat d times i = repeats_at times 1 i || (repeats_at times (suc d) i || repeats_at times (2 * suc d) i)

-- the time at i is before i too
abbrev pub IsKnown : List Float → ℕ → Type 0
IsKnown times i = (j : ℕ) × (j < i) × (get_or times j nan ≡ get_or times i nan)
