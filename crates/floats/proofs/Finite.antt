-- A finite float is no NaN, so its bits may be asked for. Assumes nothing.
use mathlib.Core.Path.{◌≡◌, sym}
use mathlib.Core.Bool.{true, not, true≢false}
use lib.Dec.{T}
use lib.Ieee.{Float, nan, inf, fin, is_nan}
use Rattle.floats.specs.Floats.{is_finite}

pub finite_number : (x : Float) → is_finite x ≡ true → T (not (is_nan x))
unfolding is_finite is_nan
finite_number nan e = absurd (true≢false (sym e))
finite_number (inf s) e = tt
finite_number (fin s m e') e = tt
