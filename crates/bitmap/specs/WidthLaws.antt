-- What is put together of members below a width is a mask below it: unions, runs modulo the width, and the numbers below it that pass a test. Assumes nothing.
use Rattle.std.specs.Prelude.{◌≡◌, refl, Bool, eqb}
use Rattle.std.proofs.Common.{sym, ◌∙◌, mod-lt, le_refl, not-suc-le-zero, le_of_suc-le-suc, eq-or-lt_of_le, ltb-true, lt-ltb, eq-eqb, ne_eqb}
use Rattle.std.proofs.Math.Path.{ap}
use Rattle.std.proofs.Math.Logic.{⊎_elim}
use Rattle.std.proofs.Math.Bool.{true, false, cond}
use Prim.Native.Nat.{ℕ, zero, suc, ◌+◌, ◌%◌, ◌^◌, ◌≤◌, ◌<◌}
use Rattle.std.proofs.Math.Nat.{pow-suc}
use Rattle.std.proofs.Math.Decide.{ℕ_discrete}
use native.Mathlib.Omega.{arith}
use Rattle.std.specs.Int.Bits.{bit_or, or_lt}
use Rattle.std.proofs.Math.Pow.{pow_pos, pow-lt}
use Rattle.bitmap.specs.Mask.{bit, has_bit, is_below, with_bit, mask_below, run_modulo}
use Rattle.bitmap.specs.MaskLaws.{bit_lt, bit_with, bit_same, bit_other, below_means}
use Rattle.bitmap.specs.RunLaws.{Among, gather_means}

module _ (w : ℕ) where
  pub none_below : is_below w 0 ≡ true
  none_below = lt-ltb 0 (2 ^ w) (pow_pos w)

  pub or_below : (a b : ℕ) → is_below w a ≡ true → is_below w b ≡ true → is_below w (bit_or a b) ≡ true
  or_below a b h g = lt-ltb (bit_or a b) (2 ^ w) (or_lt w a b (ltb-true a (2 ^ w) h) (ltb-true b (2 ^ w) g))

  pub with_below : (m s : ℕ) → is_below w m ≡ true → s < w → is_below w (with_bit m s) ≡ true
  with_below m s h l = or_below m (2 ^ s) h (lt-ltb (2 ^ s) (2 ^ w) (pow-lt l))

  -- a run modulo the width
  pub run_below : (a k : ℕ) → 0 < w → is_below w (run_modulo w a k) ≡ true
  run_below a k p = (below_means w (run_modulo w a k)).1 (λ s h. go s h (ℕ_discrete (bit (run_modulo w a k) s) 1))
    where
      go : (s : ℕ) → w ≤ s → Dec (bit (run_modulo w a k) s ≡ 1) → bit (run_modulo w a k) s ≡ 0
      go s h (yes e) =
          let r : Among (λ (i : ℕ). (a + i) % w) k s = (gather_means (λ (i : ℕ). (a + i) % w) s k).0 e in
          absurd (omega (arith, r.here, mod-lt (a + r.place) p))
      go s h (no e) = omega (arith, bit_lt (run_modulo w a k) s)

-- the numbers below k that pass a test: s is a member exactly if it is below k and passes
module _ (f : ℕ → Bool) where
  pub mask_below_lt : (k : ℕ) → mask_below f k < 2 ^ k
  unfolding mask_below
  mask_below_lt zero = omega arith
  mask_below_lt (suc k) = go (f k) (mask_below_lt k)
    where
      go : (b : Bool) → mask_below f k < 2 ^ k → cond b (with_bit (mask_below f k) k) (mask_below f k) < 2 ^ suc k
      go true h = or_lt (suc k) (mask_below f k) (2 ^ k) (omega (arith, pow-suc 2 k, pow_pos k)) (pow-lt (le_refl (suc k)))
      go false h = omega (arith, pow-suc 2 k, pow_pos k)

  pub mask_below_bit : (k s : ℕ) → s < k → has_bit (mask_below f k) s ≡ f s
  unfolding mask_below
  mask_below_bit zero s h = absurd (not-suc-le-zero h)
  mask_below_bit (suc k) s h =
      ⊎_elim (λ (q : s ≡ k). ap (has_bit (cond (f k) (with_bit (mask_below f k) k) (mask_below f k))) q ∙ here (f k) ∙ ap f (sym q)) (λ (l : s < k). there (f k) l ∙ mask_below_bit k s l)
      (eq-or-lt_of_le (le_of_suc-le-suc h))
    where
      top : bit (mask_below f k) k ≡ 0
      top = (below_means k (mask_below f k)).0 (lt-ltb (mask_below f k) (2 ^ k) (mask_below_lt k)) k (le_refl k)

      here : (b : Bool) → has_bit (cond b (with_bit (mask_below f k) k) (mask_below f k)) k ≡ b
      here true = eq-eqb (bit (with_bit (mask_below f k) k) k) 1 (omega (arith, bit_with (mask_below f k) k k, bit_same k, top))
      here false = ne_eqb (bit (mask_below f k) k) 1 (λ (e : bit (mask_below f k) k ≡ 1). omega (arith, top))

      there : (b : Bool) → s < k → has_bit (cond b (with_bit (mask_below f k) k) (mask_below f k)) s ≡ has_bit (mask_below f k) s
      there true l =
          let e : bit (with_bit (mask_below f k) k) s ≡ bit (mask_below f k) s = omega (arith, bit_with (mask_below f k) k s, bit_other k s (λ (e : s ≡ k). omega arith)) in
          ap (λ (x : ℕ). eqb x 1) e
      there false l = refl
