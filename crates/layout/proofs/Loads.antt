-- The load of a replica that answers or not, and what a loop over loads keeps: the sum of what was dealt to those before s. The premises are what a need's
-- record holds, so that `search` finds them. Assumes nothing.
use mathlib.Core.Path.{◌≡◌, sym, ap, ◌∙◌}
use mathlib.Core.Bool.{Bool, true, false, cond}
use mathlib.Core.List.{List}
use Prim.Native.Nat.{ℕ, ◌+◌, ◌≤◌, ◌<◌}
use native.Mathlib.Numerals.{add-one}
use native.Mathlib.Omega.{arith}
use lib.ListN.{length, get_or, take}
use lib.Seq.{take_all, length-take-le}
use Rattle.layout.specs.Layout.{dealt, partial, row_for, row_at}
use Rattle.layout.proofs.LayoutLaws.{partial_upto, partial_le}
use Rattle.refusals.specs.Limits.{most_shards}

-- ---- a load k: a is whether the replica answers
pub answers : (h a : Bool) (k : ℕ) → a ≡ h → a ≡ true → k ≡ cond h k 0
answers h a k e t = rw (sym e ∙ t)

pub is_silent : (h a : Bool) (k : ℕ) → a ≡ h → a ≡ false → 0 ≡ cond h k 0
is_silent h a k e t = rw (sym e ∙ t)

-- ---- the loads before s
module _ (d : ℕ) (loads : List ℕ) (s sum : ℕ) (summed : sum ≡ partial d (take s loads)) where
  -- one load more
  module _ (k : ℕ) (h : s < length loads) (e : k ≡ dealt d (get_or loads s 0)) where
    pub sum_more : sum + k ≡ partial d (take (s + 1) loads)
    sum_more = rw (add-one, partial_upto d loads s h) (cc)

    -- which fits a word
    pub sum_small : d ≤ most_shards → length loads ≤ 16 → sum + k ≤ 4080
    sum_small g l =
        let b = partial_le d 255 (take (s + 1) loads) g in
        omega (arith, sum_more, length-take-le (s + 1) loads (omega arith))

  pub sum_done : length loads ≤ s → sum ≡ partial d loads
  sum_done h = summed ∙ ap (partial d) (take_all s loads h)

  -- the row that starts there
  pub row_is : (w x : ℕ) → x ≡ row_for d w sum (get_or loads s 0) → x ≡ row_at d w loads s
  row_is w x e = e ∙ ap (λ (offset : ℕ). row_for d w offset (get_or loads s 0)) summed
