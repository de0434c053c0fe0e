-- Worked values of the definitions, computed by the checker. Assumes nothing.
use mathlib.Core.Path.{◌≡◌, refl}
use mathlib.Core.List.{[], ◌∷◌, map}
use mathlib.Core.Bool.{true, false}
use lib.IntN.{pos}
use lib.Ieee.{Float, nan, inf, fin, is_nan, le}
use Rattle.lists.specs.Sort.{sorted_by}
use Rattle.floats.specs.Floats.{plus_zero, one, total_le, larger, is_probability}

abbrev minus_zero : Float
minus_zero = fin true 0 (pos 0)

-- total order of one value of each kind
order : sorted_by total_le (nan ∷ plus_zero ∷ inf false ∷ minus_zero ∷ one ∷ inf true ∷ []) ≡ inf true ∷ minus_zero ∷ plus_zero ∷ one ∷ inf false ∷ nan ∷ []
unfolding total_le
order = refl

-- zeros of opposite sign give +0, whichever stands first; a NaN second is ignored
largest : larger minus_zero plus_zero ∷ larger plus_zero minus_zero ∷ larger minus_zero minus_zero ∷ larger one nan ∷ larger one (inf false) ∷ []
    ≡ plus_zero ∷ plus_zero ∷ minus_zero ∷ one ∷ inf false ∷ []
unfolding larger total_le is_nan
largest = refl

-- -0, 0 and 1 are probabilities; 2, the infinities and NaN are none
probabilities : map is_probability (minus_zero ∷ plus_zero ∷ one ∷ fin false 1 (pos 1) ∷ inf false ∷ inf true ∷ nan ∷ []) ≡ true ∷ true ∷ true ∷ false ∷ false ∷ false ∷ false ∷ []
unfolding is_probability le
probabilities = refl
