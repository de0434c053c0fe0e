-- Worked values of the definitions, computed by the checker. Assumes nothing.
use mathlib.Core.Path.{◌≡◌, refl}
use mathlib.Core.List.{[], ◌∷◌}
use mathlib.Core.Bool.{true, false}
use Prim.Native.Nat.{◌+◌, ◌^◌}
use Rattle.bitmap.specs.Mask.{has_bit, with_bit, is_below, count, gather, run, run_modulo}

-- the members 0, 1 and 3
three : count 0b1011 ∷ with_bit 0b1011 2 ∷ with_bit 0b1011 3 ∷ count (2 ^ 100 + 1) ∷ [] ≡ 3 ∷ 0b1111 ∷ 0b1011 ∷ 2 ∷ []
unfolding count
three = refl

members : has_bit 0b1011 1 ∷ has_bit 0b1011 2 ∷ is_below 4 0b1011 ∷ is_below 3 0b1011 ∷ is_below 64 (2 ^ 64) ∷ [] ≡ true ∷ false ∷ true ∷ false ∷ false ∷ []
members = refl

-- 2, 3 and 4; then 4, 0 and 1 of five; then nothing
runs : run 2 3 ∷ run_modulo 5 4 3 ∷ run_modulo 5 9 3 ∷ run 7 0 ∷ [] ≡ 0b11100 ∷ 0b10011 ∷ 0b10011 ∷ 0 ∷ []
unfolding gather
runs = refl
