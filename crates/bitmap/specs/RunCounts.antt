-- How many members a mask has that is put together of different ones, and so a run. Assumes nothing.
use Rattle.std.specs.Prelude.{◌≡◌}
use Rattle.std.proofs.Common.{sym, ap, ◌∙◌, le_refl, mod-lt, mod-eq_of_lt, arith}
use Prim.Native.Nat.{ℕ, zero, suc, ◌+◌, ◌-◌, ◌%◌, ◌^◌, ◌≤◌, ◌<◌}
use Rattle.std.proofs.Math.Nat.{mod-add-mod, add-mod_left}
use Rattle.std.proofs.Math.Decide.{dec_lt, ℕ_discrete}
use Rattle.bitmap.specs.Mask.{all_below, bit, count, gather, run, run_modulo}
use Rattle.bitmap.specs.MaskLaws.{bit_lt, below_bit, full_bit}
use Rattle.bitmap.specs.CountLaws.{count_none, count_within}
use Rattle.bitmap.specs.Members.{count_with}
use Rattle.bitmap.specs.RunLaws.{gather_means, run_all}

module _ (f : ℕ → ℕ) where
  -- no two of the first k are the same
  abbrev pub Different : ℕ → Type 0
  Different k = (i j : ℕ) → i < j → j < k → f i ≡ f j → ⊥

  pub gather_count : (k : ℕ) → Different k → count (gather f k) ≡ k
  unfolding gather
  gather_count zero h = count_none
  gather_count (suc k) h =
      omega (arith, count_with (gather f k) (f k) (absent (ℕ_discrete (bit (gather f k) (f k)) 1)), gather_count k (λ i j l g. h i j l (omega arith)))
    where
      absent : Dec (bit (gather f k) (f k) ≡ 1) → bit (gather f k) (f k) ≡ 0
      absent (yes e) = let a = (gather_means f (f k) k).0 e in absurd (h a.place k a.inside (le_refl (suc k)) a.here)
      absent (no e) = omega (arith, bit_lt (gather f k) (f k))

pub run_count : (a k : ℕ) → count (run a k) ≡ k
run_count a k = gather_count (λ (i : ℕ). a + i) k (λ i j l g e. omega arith)

-- numbers less than w apart are different modulo w
pub apart : (w a t : ℕ) → 0 < t → t < w → a % w ≡ (a + t) % w → ⊥
apart w a t p h e = go (dec_lt (a % w + t) w) (mod-lt a (omega arith)) (e ∙ sym (mod-add-mod a w t))
  where
    go : Dec (a % w + t < w) → a % w < w → a % w ≡ (a % w + t) % w → ⊥
    go (yes l) u q = omega (arith, mod-eq_of_lt l)
    go (no l) u q =
        let r : (a % w + t) % w ≡ a % w + t - w = ap (λ (x : ℕ). x % w) (omega arith) ∙ add-mod_left w (a % w + t - w) ∙ mod-eq_of_lt (omega arith) in
        omega arith

-- so a run modulo w that is no longer than w has as many members as it is long
pub run_modulo_count : (w a k : ℕ) → k ≤ w → count (run_modulo w a k) ≡ k
run_modulo_count w a k h =
    gather_count (λ (i : ℕ). (a + i) % w) k
    (λ i j l g e. apart w (a + i) (j - i) (omega arith) (omega arith) (e ∙ ap (λ (x : ℕ). x % w) (omega arith)))

-- ---- masks of n numbers

-- the members of a mask below 2 ^ n are below n, and at most n
pub member_below : (n c a : ℕ) → c < 2 ^ n → bit c a ≡ 1 → a < n
member_below n c a below here = go (dec_lt a n)
  where
    go : Dec (a < n) → a < n
    go (yes l) = l
    go (no l) = absurd (omega (arith, below_bit n c a below (omega arith)))

pub all_count : (n : ℕ) → count (all_below n) ≡ n
all_count n = ap count (sym (run_all n)) ∙ run_count 0 n

pub count_below : (n c : ℕ) → c < 2 ^ n → count c ≤ n
count_below n c below = omega (arith, count_within c (all_below n) (λ s. go s (dec_lt s n)), all_count n)
  where
    go : (s : ℕ) → Dec (s < n) → bit c s ≤ bit (all_below n) s
    go s (yes l) = omega (arith, bit_lt c s, full_bit n s l)
    go s (no l) = omega (arith, below_bit n c s below (omega arith))
