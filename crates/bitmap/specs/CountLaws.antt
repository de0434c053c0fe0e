-- The laws of counting, at any width. Assumes nothing.
use Rattle.std.specs.Prelude.{◌≡◌, refl, ℕ, zero, suc, ◌+◌, ◌/◌, ◌%◌, ◌≤◌}
use Rattle.std.proofs.Common.{ap, ◌∙◌, le_refl, not-suc-le-zero, arith}
use Rattle.std.proofs.Math.Decide.{le_ind}
use Rattle.std.proofs.Math.Arith.{bin_ind, half_le}
use Rattle.std.specs.Int.Bits.{bit_or, bit_and}
use Rattle.std.specs.Int.Count.{ones, ones_step}
use Rattle.bitmap.specs.MaskLaws.{bit_zero, bit_half, or_low, or_half, and_low, and_half, Within}
use Rattle.bitmap.specs.Mask.{count, count_in}

more : (k m : ℕ) → m ≤ k → count_in (suc k) m ≡ count_in k m
unfolding count_in
more zero zero h = refl
more zero (suc m) h = absurd (not-suc-le-zero h)
more (suc k) zero h = refl
more (suc k) (suc m) h = ap (λ (x : ℕ). suc m % 2 + x) (more k (suc m / 2) (half_le h))

enough : (k m : ℕ) → m ≤ k → count_in k m ≡ count_in m m
enough k m h = le_ind (λ (j : ℕ). count_in j m ≡ count_in m m) refl (λ j l e. more j m l ∙ e) k h

pub count_step : (m : ℕ) → count m ≡ m % 2 + count (m / 2)
unfolding count
count_step zero = refl
count_step (suc m) = ap (λ (x : ℕ). suc m % 2 + x) (enough m (suc m / 2) (half_le (le_refl (suc m))))

pub count_none : count 0 ≡ 0
unfolding count
count_none = refl

-- what the machine counts
pub count_ones : (m : ℕ) → ones m ≡ count m
unfolding ones count
count_ones = bin_ind (λ (n : ℕ). ones n ≡ count n) refl (λ n ih. omega (arith, ih, ones_step n, count_step n))

pub count_within : (a b : ℕ) → Within a b → count a ≤ count b
count_within =
    bin_ind (λ (n : ℕ). (b : ℕ) → Within n b → count n ≤ count b) (λ b h. omega (arith, count_none))
    (λ n ih b h.
    let t : count (n / 2) ≤ count (b / 2) = ih (b / 2) (λ s. omega (arith, bit_half n s, bit_half b s, h (suc s))) in
    omega (arith, count_step n, count_step b, bit_zero n, bit_zero b, h 0))

-- a shard that is in both is counted once
pub count_or : (a b : ℕ) → count (bit_or a b) + count (bit_and a b) ≡ count a + count b
count_or =
    bin_ind (λ (n : ℕ). (b : ℕ) → count (bit_or n b) + count (bit_and n b) ≡ count n + count b)
    (λ b. omega (arith, count_none))
    (λ n ih b.
    let o : count (bit_or n b / 2) ≡ count (bit_or (n / 2) (b / 2)) = ap count (or_half n b) in
    let a : count (bit_and n b / 2) ≡ count (bit_and (n / 2) (b / 2)) = ap count (and_half n b) in
    omega (arith, ih (b / 2), count_step n, count_step b, count_step (bit_or n b), count_step (bit_and n b), or_low n b, and_low n b))
