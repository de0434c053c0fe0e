-- What a loop keeps that gathers the numbers that pass a test: none yet, and one number more. Assumes nothing.
use mathlib.Core.Path.{◌≡◌, refl}
use mathlib.Core.Bool.{Bool, true, false}
use Prim.Native.Nat.{ℕ, ◌+◌}
use native.Mathlib.Numerals.{add-one}
use Rattle.bitmap.specs.Mask.{with_bit, mask_below}

module _ (f : ℕ → Bool) where
  pub mask_none : 0 ≡ mask_below f 0
  unfolding mask_below
  mask_none = refl

  pub mask_yes : (k : ℕ) → f k ≡ true → mask_below f (k + 1) ≡ with_bit (mask_below f k) k
  unfolding mask_below
  mask_yes k e = rw (add-one, e)

  pub mask_no : (k : ℕ) → f k ≡ false → mask_below f (k + 1) ≡ mask_below f k
  unfolding mask_below
  mask_no k e = rw (add-one, e)
